-- Tests of the groups of a procedure, one after the other
use Rattle.std.proofs.Common.{◌≡◌, ℕ, suc, ◌+◌, ◌<◌, ◌≤◌, List, [], ◌∷◌, length, map, get_or, sym, subst, inl, inr, arith}
use Rattle.std.proofs.lemmas.Bool.{cases_eq}
use Rattle.std.proofs.lemmas.List.{length-map}
use Rattle.std.specs.List.{AllByRecursion}
use Rattle.roc_program.proofs.Rows.{read-map}
use Rattle.roc_sequence.proofs.Holds.{all_at}
use Rattle.roc_merge_groups.specs.Groups.{group_at}

pub all_from_each : {A : Type 0} (P : A → Type 0) (xs : List A) (d : A) → ((k : ℕ) → k < length xs → P (get_or xs k d)) → AllByRecursion P xs
all_from_each P [] d h = tt
all_from_each P (x ∷ xs) d h = (h 0 (omega arith), all_from_each P xs d (λ k l. h (suc k) (omega arith)))

module _ {V : Type 0} (P : List ℕ → Type 0) (seen : V → List ℕ) (vs : List V) where
  -- it holds of the first groups
  abbrev pub OfFirst : ℕ → Type 0
  OfFirst n = (k : ℕ) → k < n → P (group_at (map seen vs) k)

  pub here : (i : ℕ) (v : V) → i < length vs → v ≡ get_or vs i v → group_at (map seen vs) i ≡ seen v
  here i v l e = read-map seen vs i v [] l e

  pub one_more : (i : ℕ) (v : V) → i < length vs → v ≡ get_or vs i v → OfFirst i → P (seen v) → OfFirst (i + 1)
  one_more i v l e h p k m =
      elim (cases_eq k i) [
        | inl same ↦ subst (λ n. P (group_at (map seen vs) n)) (sym same) (subst P (sym (here i v l e)) p)
        | inr other ↦ h k (omega arith)
      ]

  pub not_each : (i : ℕ) (v : V) → i < length vs → v ≡ get_or vs i v → ¬ P (seen v) → ¬ AllByRecursion P (map seen vs)
  not_each i v l e n all = n (subst P (here i v l e) (all_at P (map seen vs) i [] all (omega (arith, l, length-map vs seen))))

  pub each : (i : ℕ) → length vs ≤ i → OfFirst i → AllByRecursion P (map seen vs)
  each i l h = all_from_each P (map seen vs) [] (λ k m. h k (omega (arith, l, m, length-map vs seen)))

  pub of_each : (i : ℕ) (v : V) → i < length vs → v ≡ get_or vs i v → AllByRecursion P (map seen vs) → P (seen v)
  of_each i v l e all = subst P (here i v l e) (all_at P (map seen vs) i [] all (omega (arith, l, length-map vs seen)))
