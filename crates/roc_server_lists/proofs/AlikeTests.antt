-- Tests and functions that agree on what is there
use Rattle.std.proofs.Common.{◌≡◌, Bool, cond, List, [], ◌∷◌, map, filter, refl, inl, inr}
use Rattle.roc_sequence.specs.Lists.{Has}

pub filter_alike : {A : Type 0} (p q : A → Bool) (xs : List A) → ((x : A) → Has x xs → p x ≡ q x) → filter p xs ≡ filter q xs
filter_alike p q [] h = refl
filter_alike p q (x ∷ xs) h = λ i. cond (h x (inl refl) i) (x ∷ filter_alike p q xs (λ y k. h y (inr k)) i) (filter_alike p q xs (λ y k. h y (inr k)) i)

pub map_alike : {A B : Type 0} (f g : A → B) (xs : List A) → ((x : A) → Has x xs → f x ≡ g x) → map f xs ≡ map g xs
map_alike f g [] h = refl
map_alike f g (x ∷ xs) h = λ i. h x (inl refl) i ∷ map_alike f g xs (λ y k. h y (inr k)) i
