-- Paths through few numbers are all paths
use Rattle.std.proofs.Common.{◌≡◌, ℕ, zero, suc, ◌<◌, Bool, true, ◌&&◌, ◌||◌, List, length, refl, sym, subst, ◌∙◌, ◌⊎◌, inl, inr, arith}
use Rattle.std.proofs.lemmas.Bool.{cases_eq, and_parts, and_from, or_cases, or_left, or_right}
use Rattle.std.specs.List.{list_any}
use Rattle.roc_sequence.proofs.Holds.{any_has}
use Rattle.roc_program.specs.Program.{Workload}
use Rattle.roc_merge_groups.specs.Groups.{group_at}
use Rattle.roc_merge_groups.specs.Flow.{feeds, Leads, directly, onward}
use Rattle.roc_merge_groups.specs.Accepted.{group_feeds}
use Rattle.roc_merge_groups.proofs.Elements.{row_of_has}
use Rattle.roc_merge_groups.specs.Paths.{leads_below}
use Rattle.roc_merge_groups.proofs.Cores.{leads_through}

pub below_none : (step : ℕ → ℕ → Bool) (a b : ℕ) → leads_below step 0 a b ≡ step a b
unfolding leads_below
below_none step a b = refl

pub below_more : (step : ℕ → ℕ → Bool) (k a b : ℕ) → leads_below step (suc k) a b ≡ (leads_below step k a b || (leads_below step k a k && leads_below step k k b))
unfolding leads_below
below_more step k a b = refl

module _ (step : ℕ → ℕ → Bool) where
  -- a path through one more is a path, or two that meet there
  cases_more : (k a b : ℕ) → leads_below step (suc k) a b ≡ true → (leads_below step k a b ≡ true) ⊎ ((leads_below step k a k ≡ true) × (leads_below step k k b ≡ true))
  cases_more k a b h =
      elim (or_cases (leads_below step k a b) (leads_below step k a k && leads_below step k k b) (sym (below_more step k a b) ∙ h)) [
        | inl e ↦ inl e
        | inr e ↦ inr (and_parts (leads_below step k a k) (leads_below step k k b) e)
      ]

  keeps : (k a b : ℕ) → leads_below step k a b ≡ true → leads_below step (suc k) a b ≡ true
  keeps k a b h = below_more step k a b ∙ or_left (leads_below step k a b) (leads_below step k a k && leads_below step k k b) h

  meets : (k a b : ℕ) → leads_below step k a k ≡ true → leads_below step k k b ≡ true → leads_below step (suc k) a b ≡ true
  meets k a b h i =
      below_more step k a b ∙ or_right (leads_below step k a b) (leads_below step k a k && leads_below step k k b) (and_from (leads_below step k a k) (leads_below step k k b) h i)

  -- a path ends at k, or begins there, without going through it before
  to_last : (k a : ℕ) → leads_below step (suc k) a k ≡ true → leads_below step k a k ≡ true
  to_last k a h = elim (cases_more k a k h) [ inl e ↦ e | inr e ↦ e.0 ]

  from_last : (k b : ℕ) → leads_below step (suc k) k b ≡ true → leads_below step k k b ≡ true
  from_last k b h = elim (cases_more k k b h) [ inl e ↦ e | inr e ↦ e.1 ]

  pub leads_from_below : (k a b : ℕ) → leads_below step k a b ≡ true → Leads step a b
  leads_from_below zero a b h = directly (sym (below_none step a b) ∙ h)
  leads_from_below (suc k) a b h =
      elim (cases_more k a b h) [
        | inl e ↦ leads_from_below k a b e
        | inr e ↦ leads_through step a k b (leads_from_below k a k e.0) (leads_from_below k k b e.1)
      ]

  -- two paths that meet below k are one
  pub below_through : (k a c b : ℕ) → c < k → leads_below step k a c ≡ true → leads_below step k c b ≡ true → leads_below step k a b ≡ true
  below_through zero a c b l h i = absurd (omega arith)
  below_through (suc k) a c b l h i =
      elim (cases_eq c k) [
        | inl e ↦ meets k a b (to_last k a (subst (λ n. leads_below step (suc k) a n ≡ true) e h)) (from_last k b (subst (λ n. leads_below step (suc k) n b ≡ true) e i))
        | inr n ↦ (let m : c < k = omega arith in
            elim (cases_more k a c h) [
              | inl ac ↦ elim (cases_more k c b i) [
                | inl cb ↦ keeps k a b (below_through k a c b m ac cb)
                | inr cb ↦ meets k a b (below_through k a c k m ac cb.0) cb.1
              ]
              | inr ac ↦ elim (cases_more k c b i) [
                | inl cb ↦ meets k a b ac.0 (below_through k k c b m ac.1 cb)
                | inr cb ↦ meets k a b ac.0 cb.1
              ]
            ])
      ]

  step_below : (n a b : ℕ) → step a b ≡ true → leads_below step n a b ≡ true
  step_below zero a b h = below_none step a b ∙ h
  step_below (suc n) a b h = keeps n a b (step_below n a b h)

  pub below_from_leads : (n : ℕ) → ((a b : ℕ) → step a b ≡ true → a < n) → (a b : ℕ) → Leads step a b → leads_below step n a b ≡ true
  below_from_leads n inside a _ (directly {to} h) = step_below n a to h
  below_from_leads n inside a _ (onward {by} {to} l h) = below_through n a by to (inside by to h) (below_from_leads n inside a by l) (step_below n by to h)

-- groups that feed each other are there
pub feeds_inside : (program : Workload) (proc : ℕ) (groups : List (List ℕ)) (n : ℕ) → length groups ≡ n → (a b : ℕ) → group_feeds program proc groups a b ≡ true → (a < n) × (b < n)
feeds_inside program proc groups n e a b h =
    let z = any_has (λ z. list_any (feeds program proc z) (group_at groups b)) (group_at groups a) h in
    let y = any_has (feeds program proc z.0) (group_at groups b) z.2 in
    (subst (λ m. a < m) e (row_of_has z.0 groups a z.1), subst (λ m. b < m) e (row_of_has y.0 groups b y.1))
