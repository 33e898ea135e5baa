-- A watermark that is heard ends no fewer transactions
use Rattle.std.proofs.Common.{◌≡◌, ◌∙◌, ℕ, true, nat_lt, max, List, [], ◌∷◌, zero, suc, refl, sym, ap, arith, slice_set, slice_index_or, ◌⊎◌, inl, inr}
use Rattle.std.proofs.lemmas.Bool.Decides.{nat_tests}
use Rattle.roc_base.specs.declared.id.TxnId.{TxnId}
use Rattle.roc_step.specs.Below.{is_ended, mark_of, raised}

-- a place that is set has the new value, and every other what it had
pub set_cases : (below : List ℕ) (i j v : ℕ) → (slice_index_or (slice_set below i v) j 0 ≡ slice_index_or below j 0) ⊎ ((j ≡ i) × (slice_index_or (slice_set below i v) j 0 ≡ v))
set_cases [] i j v = inl refl
set_cases (x ∷ xs) zero zero v = inr (refl, refl)
set_cases (x ∷ xs) zero (suc j) v = inl refl
set_cases (x ∷ xs) (suc i) zero v = inl refl
set_cases (x ∷ xs) (suc i) (suc j) v = elim (set_cases xs i j v) [ inl h ↦ inl h | inr h ↦ inr (ap (λ n. suc n) h.0, h.1) ]

pub ended_still : (below : List ℕ) (coord mark : ℕ) (t : TxnId) → is_ended below t ≡ true → is_ended (raised below coord mark) t ≡ true
ended_still below coord mark t h = elim (set_cases below coord t.coord (max (mark_of below coord) mark)) [
  | inl same ↦ ap (nat_lt t.seq) same ∙ h
  | inr new ↦
      (let was : nat_lt t.seq (mark_of below coord) ≡ true = ap (λ c. nat_lt t.seq (mark_of below c)) (sym new.0) ∙ h in
      ap (nat_lt t.seq) new.1 ∙ higher was)
]
  where
    higher : nat_lt t.seq (mark_of below coord) ≡ true → nat_lt t.seq (max (mark_of below coord) mark) ≡ true
    higher was = grind (arith, nat_tests)
