-- When a list of pieces is another order of pieces in program order
use Rattle.std.proofs.Common.{◌≡◌, ℕ, ◌<◌, true, false, ◌==◌, List, [], ◌∷◌, ◌++◌, refl, sym, ap, subst, ◌∙◌, ◌⊎◌, inl, inr}
use Rattle.std.proofs.lemmas.Bool.{false≢true, eq-eqb, ltb-true}
use Rattle.std.specs.Bool.{nat_lt}
use Rattle.std.specs.List.{AllByRecursion}
use Rattle.roc_sequence.specs.Lists.{Has}
use Rattle.roc_sequence.specs.Rising.{IsRising}
use Rattle.roc_sequence.proofs.Holds.{all_has, has_all}
use Rattle.roc_sequence.proofs.Members.{has_left, has_right}
use Rattle.roc_program.specs.Program.{Piece}
use Rattle.roc_merge_groups.proofs.Elements.{rising_across, numbers_one_way}
use Rattle.roc_law_groups.proofs.Commuting.{AreIndependent}
use Rattle.roc_law_groups.proofs.Moving.{MayPass, IsReordered, done, next}

-- where something stands in a list
record IsSplit (y : ℕ) (xs : List ℕ) : Type 0 where
  before : List ℕ
  behind : List ℕ
  is : xs ≡ before ++ y ∷ behind

split_at : (y : ℕ) (xs : List ℕ) → Has y xs → IsSplit y xs
split_at y [] h = absurd h
split_at y (x ∷ xs) (inl e) = record { before = []; behind = xs; is = ap (λ z. z ∷ xs) (sym e) }
split_at y (x ∷ xs) (inr h) = let s = split_at y xs h in record { before = x ∷ s.before; behind = s.behind; is = ap (λ zs. x ∷ zs) s.is }

has_without : (k y : ℕ) (xs ys : List ℕ) → Has k (xs ++ ys) → Has k (xs ++ y ∷ ys)
has_without k y [] ys h = inr h
has_without k y (x ∷ xs) ys (inl e) = inl e
has_without k y (x ∷ xs) ys (inr h) = inr (has_without k y xs ys h)

has_or_is : (k y : ℕ) (xs ys : List ℕ) → Has k (xs ++ y ∷ ys) → (k ≡ y) ⊎ Has k (xs ++ ys)
has_or_is k y [] ys (inl e) = inl e
has_or_is k y [] ys (inr h) = inr h
has_or_is k y (x ∷ xs) ys (inl e) = inr (inl e)
has_or_is k y (x ∷ xs) ys (inr h) = elim (has_or_is k y xs ys h) [ inl e ↦ inl e | inr i ↦ inr (inr i) ]

rising_without : (y : ℕ) (xs ys : List ℕ) → IsRising nat_lt (xs ++ y ∷ ys) → IsRising nat_lt (xs ++ ys)
rising_without y [] ys r = r.1
rising_without y (x ∷ xs) ys r =
    (has_all (λ z. nat_lt x z ≡ true) (xs ++ ys) (λ z h. all_has (λ z. nat_lt x z ≡ true) z (xs ++ y ∷ ys) r.0 (has_without z y xs ys h)), rising_without y xs ys r.1)

not_in_rest : (y : ℕ) (xs ys : List ℕ) → IsRising nat_lt (xs ++ y ∷ ys) → Has y (xs ++ ys) → ⊥
not_in_rest y [] ys r h = let l = all_has (λ z. nat_lt y z ≡ true) y ys r.0 h in numbers_one_way y y l l
not_in_rest y (x ∷ xs) ys r (inl e) =
    let l = all_has (λ z. nat_lt x z ≡ true) y (xs ++ y ∷ ys) r.0 (has_right y xs (y ∷ ys) (inl refl)) in
    let m : nat_lt y y ≡ true = subst (λ z. nat_lt z y ≡ true) (sym e) l in
    numbers_one_way y y m m
not_in_rest y (x ∷ xs) ys r (inr h) = not_in_rest y xs ys r.1 h

module _ (at : ℕ → Piece) where
  -- behind each stand others, and those of a lower number are independent of it
  abbrev pub MayStand : List ℕ → Type 0
  MayStand [] = Unit {0}
  MayStand (y ∷ ys) = AllByRecursion (λ x. ((x == y) ≡ false) × (x < y → AreIndependent (at x) (at y))) ys × MayStand ys

  pub reordered : (xs ys : List ℕ) → IsRising nat_lt xs → ((k : ℕ) → Has k xs → Has k ys) → ((k : ℕ) → Has k ys → Has k xs) → MayStand ys → IsReordered at xs ys
  reordered [] [] rise all only m = done
  reordered (x ∷ xs) [] rise all only m = absurd (all x (inl refl))
  reordered xs (y ∷ ys) rise all only m =
      let s = split_at y xs (only y (inl refl)) in
      let pre : List ℕ = s.before in
      let post : List ℕ = s.behind in
      let rises : IsRising nat_lt (pre ++ y ∷ post) = subst (λ zs. IsRising nat_lt zs) s.is rise in
      let in_xs : (k : ℕ) → Has k (pre ++ y ∷ post) → Has k xs = λ k h. subst (λ zs. Has k zs) (sym s.is) h in
      let behind : (k : ℕ) → Has k (pre ++ post) → Has k ys = λ k h.
      elim (all k (in_xs k (has_without k y pre post h))) [ inl e ↦ absurd (not_in_rest y pre post rises (subst (λ z. Has z (pre ++ post)) e h)) | inr i ↦ i ] in
      let here : (k : ℕ) → Has k ys → Has k (pre ++ post) = λ k h.
      elim (has_or_is k y pre post (subst (λ zs. Has k zs) s.is (only k (inr h)))) [
        | inl e ↦ absurd (false≢true (sym (all_has (λ x. ((x == y) ≡ false) × (x < y → AreIndependent (at x) (at y))) k ys m.0 h).0 ∙ eq-eqb k y e))
        | inr i ↦ i
      ] in
      let passes : MayPass at y pre = has_all (λ x. AreIndependent (at x) (at y) × ((x == y) ≡ false)) pre (λ x h.
      let k = all_has (λ x. ((x == y) ≡ false) × (x < y → AreIndependent (at x) (at y))) x ys m.0 (behind x (has_left x pre post h)) in
      let l : x < y = ltb-true x y (rising_across nat_lt pre (y ∷ post) x y rises h (inl refl)) in
      (k.1 l, k.0)) in
      subst (λ zs. IsReordered at zs (y ∷ ys)) (sym s.is) (next pre y post ys passes (reordered (pre ++ post) ys (rising_without y pre post rises) behind here m.1))
