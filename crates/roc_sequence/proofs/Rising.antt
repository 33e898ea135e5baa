-- Rising lists
use Rattle.std.proofs.Common.{◌≡◌, ℕ, zero, suc, Bool, true, List, [], ◌∷◌, ◌++◌, false, cond, filter, refl}
use Rattle.std.specs.List.{AllByRecursion, remove}
use Rattle.std.specs.Ordering.{is_lt}
use Rattle.std.specs.declared.cmp.Ordering.{Ordering}
use Rattle.std.specs.declared.cmp.Ordering.TheVariants.{Less, Equal, Greater}
use Rattle.std.proofs.lemmas.Bool.{false≢true}
use Rattle.roc_sequence.specs.Rising.{IsRising}
use Rattle.roc_sequence.proofs.Members.{from_has_filter}
use Rattle.roc_sequence.proofs.Holds.{all_has, has_all, all_append, all_remove}

-- one more, which all come before
pub rising_more : {A : Type 0} (before : A → A → Bool) (x : A) (xs : List A) → IsRising before xs → AllByRecursion (λ y. before y x ≡ true) xs → IsRising before (xs ++ x ∷ [])
rising_more before x [] r h = (tt, tt)
rising_more before x (y ∷ ys) r h = (all_append (λ z. before y z ≡ true) ys (x ∷ []) r.0 (h.0, tt), rising_more before x ys r.1 h.1)

pub rising_remove : {A : Type 0} (before : A → A → Bool) (xs : List A) (i : ℕ) → IsRising before xs → IsRising before (remove xs i)
rising_remove before [] zero h = h
rising_remove before [] (suc i) h = h
rising_remove before (x ∷ xs) zero h = h.1
rising_remove before (x ∷ xs) (suc i) h = (all_remove (λ y. before x y ≡ true) xs i h.0, rising_remove before xs i h.1)

pub rising_filter : {A : Type 0} (before : A → A → Bool) (p : A → Bool) (xs : List A) → IsRising before xs → IsRising before (filter p xs)
rising_filter before p [] r = tt
rising_filter before p (x ∷ xs) r =
    let rest = rising_filter before p xs r.1 in
    let all : AllByRecursion (λ y. before x y ≡ true) (filter p xs) = has_all (λ y. before x y ≡ true) (filter p xs) (λ a h. all_has (λ y. before x y ≡ true) a xs r.0 (from_has_filter p a xs h).0) in
    elim (p x) as (λ b. IsRising before (cond b (x ∷ filter p xs) (filter p xs))) [ true ↦ (all, rest) | false ↦ rest ]

pub less_from_test : (o : Ordering) → is_lt o ≡ true → o ≡ Less
less_from_test Less h = refl
less_from_test Equal h = absurd (false≢true h)
less_from_test Greater h = absurd (false≢true h)
