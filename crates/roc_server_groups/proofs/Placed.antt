-- Where something stands in a list first, and what stands there
use Rattle.std.proofs.Common.{◌≡◌, ℕ, ◌+◌, Bool, false, cond, List, [], ◌∷◌, map, Option, Some, None, find, position, slice_get, refl, sym, ap, ◌∙◌, inl, inr}
use Rattle.std.proofs.lemmas.Iterator.Adapters.{position_from-zero}
use Rattle.std.specs.List.{position_from}
use Rattle.std.specs.Option.{option_and_then}
use Rattle.roc_sequence.specs.Lists.{Has}
use Rattle.roc_sequence.proofs.Found.{found_at, not_found}

-- what is found stands at that place
pub found_by_place : {A : Type 0} (p : A → Bool) (xs : List A) → option_and_then (slice_get xs) (position p xs) ≡ find p xs
found_by_place {A} p xs = go (position p xs) refl
  where
    go : (o : Option ℕ) → position p xs ≡ o → option_and_then (slice_get xs) o ≡ find p xs
    go None e = sym (not_found p xs e)
    go (Some at) e = sym (found_at p xs at e)

-- in a list of what each element has
from-map : {A B : Type 0} (f : A → B) (p : B → Bool) (n : ℕ) (xs : List A) → position_from p n (map f xs) ≡ position_from (λ a. p (f a)) n xs
from-map f p n [] = refl
from-map f p n (x ∷ xs) = ap (cond (p (f x)) (Some n)) (from-map f p (n + 1) xs)

pub position-map : {A B : Type 0} (f : A → B) (p : B → Bool) (xs : List A) → position p (map f xs) ≡ position (λ a. p (f a)) xs
position-map f p xs = position_from-zero p (map f xs) ∙ from-map f p 0 xs ∙ sym (position_from-zero (λ a. p (f a)) xs)

-- by tests that say the same of its members
from-same : {A : Type 0} (p q : A → Bool) (n : ℕ) (xs : List A) → ((a : A) → Has a xs → p a ≡ q a) → position_from p n xs ≡ position_from q n xs
from-same p q n [] same = refl
from-same p q n (x ∷ xs) same = ap (λ b. cond b (Some n) (position_from p (n + 1) xs)) (same x (inl refl)) ∙ ap (cond (q x) (Some n)) (from-same p q (n + 1) xs (λ a h. same a (inr h)))

pub position-same : {A : Type 0} (p q : A → Bool) (xs : List A) → ((a : A) → Has a xs → p a ≡ q a) → position p xs ≡ position q xs
position-same p q xs same = position_from-zero p xs ∙ from-same p q 0 xs same ∙ sym (position_from-zero q xs)

from-none : {A : Type 0} (p : A → Bool) (n : ℕ) (xs : List A) → ((a : A) → Has a xs → p a ≡ false) → position_from p n xs ≡ None
from-none p n [] none = refl
from-none p n (x ∷ xs) none = ap (λ b. cond b (Some n) (position_from p (n + 1) xs)) (none x (inl refl)) ∙ from-none p (n + 1) xs (λ a h. none a (inr h))

pub position-none : {A : Type 0} (p : A → Bool) (xs : List A) → ((a : A) → Has a xs → p a ≡ false) → position p xs ≡ None
position-none p xs none = position_from-zero p xs ∙ from-none p 0 xs none
