-- The front of a list up to a place, the element there, and the rest
use Rattle.std.proofs.Common.{◌≡◌, ℕ, zero, suc, ◌+◌, ◌<◌, ◌≤◌, List, [], ◌∷◌, ◌++◌, length, get_or, take, drop, refl, sym, ap, ◌∙◌, arith, add-one}
use Rattle.std.proofs.Math.ListN.{drop_of_length-le}
use Rattle.std.proofs.Math.Seq.{drop-cons, take-suc}
use Rattle.std.proofs.lemmas.List.{take-append-drop}

-- what is left from a place is the element there and what is left behind it
pub rest_at : {A : Type 0} (xs : List A) (i : ℕ) (d : A) → i < length xs → drop i xs ≡ get_or xs i d ∷ drop (i + 1) xs
rest_at xs i d h = rw (add-one, drop-cons xs i d) refl

pub no_rest : {A : Type 0} (xs : List A) (i : ℕ) → length xs ≤ i → drop i xs ≡ []
no_rest xs i h = drop_of_length-le xs h

-- the front with one more
pub front_more : {A : Type 0} (xs : List A) (i : ℕ) (x : A) → i < length xs → x ≡ get_or xs i x → take i xs ++ x ∷ [] ≡ take (i + 1) xs
front_more {A} xs i x within is =
    let next : suc i ≡ i + 1 = omega arith in
    ap (λ (y : A). take i xs ++ y ∷ []) is ∙ sym (take-suc xs i x within) ∙ ap (λ (n : ℕ). take n xs) next

pub front_whole : {A : Type 0} (xs : List A) (i : ℕ) → length xs ≤ i → take i xs ≡ xs
front_whole [] zero within = refl
front_whole [] (suc i) within = refl
front_whole (x ∷ xs) zero within = absurd (omega arith)
front_whole {A} (x ∷ xs) (suc i) within = let less : length xs ≤ i = omega arith in ap (λ (rest : List A). x ∷ rest) (front_whole xs i less)

-- the front, the element and the rest are the list
pub parts_at : {A : Type 0} (xs : List A) (i : ℕ) (x : A) → i < length xs → x ≡ get_or xs i x → take i xs ++ x ∷ drop (suc i) xs ≡ xs
parts_at {A} xs i x within is =
    ap (λ (y : A). take i xs ++ y ∷ drop (suc i) xs) is
    ∙ ap (λ (rest : List A). take i xs ++ rest) (sym (drop-cons xs i x within))
    ∙ take-append-drop i xs

-- nothing is left
pub no_elements : {A : Type 0} (xs : List A) → length xs ≡ 0 → xs ≡ []
no_elements [] e = refl
no_elements (x ∷ xs) e = absurd (omega arith)
