-- Places in one list
use Rattle.std.proofs.Common.{◌≡◌, suc, ◌<◌, ◌≤◌, Bool, true, false, cond, List, [], ◌∷◌, length, refl, sym, ◌∙◌, arith, ◌⊎◌, inl, inr}
use Rattle.std.proofs.lemmas.Bool.{cond-true, cond-false}
use Rattle.std.proofs.lemmas.Bool.Decides.{nat_tests}
use Rattle.roc_sequence.specs.Places.{place_of, IsListed, IsListedBefore, is_listed}

pub place_of-here : {A : Type 0} (p : A → Bool) (x : A) (xs : List A) → p x ≡ true → place_of p (x ∷ xs) ≡ 0
place_of-here p x xs h = cond-true (p x) 0 (suc (place_of p xs)) h

pub place_of-there : {A : Type 0} (p : A → Bool) (x : A) (xs : List A) → p x ≡ false → place_of p (x ∷ xs) ≡ suc (place_of p xs)
place_of-there p x xs h = cond-false (p x) 0 (suc (place_of p xs)) h

pub place_of-le : {A : Type 0} (p : A → Bool) (xs : List A) → place_of p xs ≤ length xs
place_of-le p [] = omega arith
place_of-le p (x ∷ xs) =
    let ih = place_of-le p xs in
    elim (p x) as (λ b. cond b 0 (suc (place_of p xs)) ≤ suc (length xs)) [ true ↦ omega arith | false ↦ omega arith ]

-- what the test says is the fact
pub listed_true : {A : Type 0} (is : A → A → Bool) (xs : List A) (a : A) → is_listed is xs a ≡ true → IsListed is xs a
listed_true is xs a h = grind (arith, nat_tests)

pub listed_false : {A : Type 0} (is : A → A → Bool) (xs : List A) (a : A) → is_listed is xs a ≡ false → ¬ IsListed is xs a
listed_false is xs a h = grind (arith, nat_tests)

pub listed_test : {A : Type 0} (is : A → A → Bool) (xs : List A) (a : A) → IsListed is xs a → is_listed is xs a ≡ true
listed_test is xs a h = grind (arith, nat_tests)

pub unlisted_test : {A : Type 0} (is : A → A → Bool) (xs : List A) (a : A) → ¬ IsListed is xs a → is_listed is xs a ≡ false
unlisted_test is xs a n = go (is_listed is xs a) refl
  where
    go : (b : Bool) → is_listed is xs a ≡ b → b ≡ false
    go true e = absurd (n (listed_true is xs a e))
    go false e = refl

-- a is in the list or not
pub listed_or_not : {A : Type 0} (is : A → A → Bool) (xs : List A) (a : A) → IsListed is xs a ⊎ (¬ IsListed is xs a)
listed_or_not is xs a = go (is_listed is xs a) refl
  where
    go : (b : Bool) → is_listed is xs a ≡ b → IsListed is xs a ⊎ (¬ IsListed is xs a)
    go true e = inl (listed_true is xs a e)
    go false e = inr (listed_false is xs a e)

pub listed_head : {A : Type 0} (is : A → A → Bool) (x : A) (xs : List A) → is x x ≡ true → IsListed is (x ∷ xs) x
listed_head is x xs r = let e = place_of-here (is x) x xs r in omega arith

pub listed_tail : {A : Type 0} (is : A → A → Bool) (x : A) (xs : List A) (a : A) → IsListed is xs a → IsListed is (x ∷ xs) a
listed_tail is x xs a h = elim (is a x) as (λ b. cond b 0 (suc (place_of (is a) xs)) < suc (length xs)) [ true ↦ omega arith | false ↦ omega arith ]

-- what is in a list is its head or in the rest
pub listed_cases : {A : Type 0} (is : A → A → Bool) (x : A) (xs : List A) (a : A) → IsListed is (x ∷ xs) a → (is a x ≡ true) ⊎ ((is a x ≡ false) × IsListed is xs a)
listed_cases is x xs a h = go (is a x) refl h
  where
    go : (b : Bool) → is a x ≡ b → cond b 0 (suc (place_of (is a) xs)) < suc (length xs) → (is a x ≡ true) ⊎ ((is a x ≡ false) × IsListed is xs a)
    go true e l = inl e
    go false e l = inr (e, omega arith)

-- what stands before something is in the list
pub listed_by_before : {A : Type 0} (is : A → A → Bool) (xs : List A) (a b : A) → IsListedBefore is xs a b → IsListed is xs a
listed_by_before is xs a b h = omega (arith, place_of-le (is b) xs)

-- two that stand at one place are one
pub same_place : {A : Type 0} (is : A → A → Bool) → ((a b : A) → is a b ≡ true → a ≡ b) → (xs : List A) (a b : A) → IsListed is xs a → place_of (is a) xs ≡ place_of (is b) xs → a ≡ b
same_place is exact [] a b h e = absurd (omega arith)
same_place {A} is exact (x ∷ xs) a b h e = go (is a x) (is b x) refl refl h e (same_place is exact xs a b)
  where
    go : (s t : Bool) → is a x ≡ s → is b x ≡ t → cond s 0 (suc (place_of (is a) xs)) < suc (length xs) → cond s 0 (suc (place_of (is a) xs)) ≡ cond t 0 (suc (place_of (is b) xs)) → (IsListed is xs a → place_of (is a) xs ≡ place_of (is b) xs → a ≡ b) → a ≡ b
    go true true u v l m ih = exact a x u ∙ sym (exact b x v)
    go true false u v l m ih = absurd (omega arith)
    go false true u v l m ih = absurd (omega arith)
    go false false u v l m ih = ih (omega arith) (omega arith)
