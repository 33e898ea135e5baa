-- Whether numbers lead to each other, by a table of paths
use Rattle.std.proofs.Common.{◌≡◌, ◌≢◌, ◌↔◌, ℕ, ◌+◌, ◌<◌, Bool, true, false, List, length, get_or, set, sym, ap, ◌∙◌, inl, inr, arith}
use Rattle.std.proofs.lemmas.Bool.{cases_eq}
use Rattle.std.proofs.lemmas.List.{get_or-set_same, get_or-set_other, length-set}
use Rattle.roc_merge_groups.specs.Flow.{Leads, directly, onward}
use Rattle.roc_merge_groups.specs.Paths.{leads_below}
use Rattle.roc_merge_groups.proofs.Paths.{leads_from_below, below_from_leads}

module _ (step : ℕ → ℕ → Bool) where
  pub leads_inside : (n : ℕ) → ((a b : ℕ) → step a b ≡ true → (a < n) × (b < n)) → (a b : ℕ) → Leads step a b → (a < n) × (b < n)
  leads_inside n inside a _ (directly {to} h) = inside a to h
  leads_inside n inside a _ (onward {by} {to} l h) = ((leads_inside n inside a by l).0, (inside by to h).1)

  -- no two lead to each other exactly where no two do by paths below n
  pub no_circle_exactly : (n : ℕ) → ((a b : ℕ) → step a b ≡ true → (a < n) × (b < n))
      → ((g h : ℕ) → g < n → h < n → g ≢ h → leads_below step n g h ≡ true → ¬ (leads_below step n h g ≡ true)) ↔ ((g h : ℕ) → g ≢ h → Leads step g h → ¬ Leads step h g)
  no_circle_exactly n inside = (
    λ none g h apart l m. let in_both = leads_inside n inside g h l in
        none g h in_both.0 in_both.1 apart (below_from_leads step n (λ a b s. (inside a b s).0) g h l) (below_from_leads step n (λ a b s. (inside a b s).0) h g m),
    λ none g h i j apart l m. none g h apart (leads_from_below step n g h l) (leads_from_below step n h g m),
  )

-- one more place of a row is set
pub row_more : (f : ℕ → Bool) (row : List Bool) (n : ℕ) (b : Bool) → ((to : ℕ) → to < n → get_or row to false ≡ f to) × (length row ≡ 16) → n < 16 → b ≡ f n
    → ((to : ℕ) → to < n + 1 → get_or (set row n b) to false ≡ f to) × (length (set row n b) ≡ 16)
row_more f row n b so_far l e =
    let long : length row ≡ 16 = so_far.1 in (
      λ to m. elim (cases_eq to n) [
        | inl same ↦ ap (λ k. get_or (set row n b) k false) same ∙ get_or-set_same row n b false (omega arith) ∙ e ∙ ap f (sym same)
        | inr other ↦ get_or-set_other row n to b false other ∙ so_far.0 to (omega arith)
      ],
      length-set row n b ∙ long,
    )
