-- Lists that are built over the first so many of others
use Rattle.std.proofs.Common.{◌≡◌, ◌∙◌, ℕ, ◌+◌, ◌<◌, List, [], ◌∷◌, ◌++◌, length, map, take, get_or, sym, ap, append-nil, Option, Some, None, refl}
use Rattle.std.proofs.lemmas.List.{take_more, map-append}
use Rattle.std.proofs.lemmas.List.Concat.{flat_map-append}
use Rattle.std.specs.List.{flat_map, filter_map, cons_option}

pub map_taken : {A B : Type 0} (f : A → B) (xs : List A) (i : ℕ) (d : A) → i < length xs → map f (take (i + 1) xs) ≡ map f (take i xs) ++ f (get_or xs i d) ∷ []
map_taken f xs i d l = ap (map f) (take_more xs i d l) ∙ map-append f (take i xs) (get_or xs i d ∷ [])

pub flat_taken : {A B : Type 0} (f : A → List B) (xs : List A) (i : ℕ) (d : A) → i < length xs → flat_map f (take (i + 1) xs) ≡ flat_map f (take i xs) ++ f (get_or xs i d)
flat_taken f xs i d l =
    ap (flat_map f) (take_more xs i d l) ∙ flat_map-append f (take i xs) (get_or xs i d ∷ []) ∙ ap (λ ys. flat_map f (take i xs) ++ ys) (append-nil (f (get_or xs i d)))

-- one more was pushed
pub pushed_flat : {A B : Type 0} (f : A → List B) (xs : List A) (i : ℕ) (d : A) (ys zs : List B) → i < length xs → zs ≡ ys ++ f (get_or xs i d) → ys ≡ flat_map f (take i xs) → zs ≡ flat_map f (take (i + 1) xs)
pushed_flat f xs i d ys zs l e h = e ∙ ap (λ us. us ++ f (get_or xs i d)) h ∙ sym (flat_taken f xs i d l)

-- one more at the end
pub filter_map_behind : {A B : Type 0} (f : A → Option B) (xs : List A) (x : A) → filter_map f (xs ++ x ∷ []) ≡ filter_map f xs ++ filter_map f (x ∷ [])
filter_map_behind f [] x = refl
filter_map_behind {B = B} f (y ∷ xs) x = go (f y) (filter_map_behind f xs x)
  where
    go : (o : Option B) → filter_map f (xs ++ x ∷ []) ≡ filter_map f xs ++ filter_map f (x ∷ []) → cons_option o (filter_map f (xs ++ x ∷ [])) ≡ cons_option o (filter_map f xs) ++ filter_map f (x ∷ [])
    go None h = h
    go (Some b) h = ap (λ bs. b ∷ bs) h
