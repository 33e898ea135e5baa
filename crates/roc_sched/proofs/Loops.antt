-- Lists that a loop fills, one member after the other.
use Rattle.std.proofs.Common.{◌≡◌, ◌+◌, List, [], ◌∷◌, ◌++◌, append_assoc, Option, Some, None, refl, sym, ap, ◌∙◌}
use Rattle.std.proofs.lemmas.List.{append-nil}
use Rattle.roc_sched.specs.Each.{◌>>=◌, each}

-- what was given before, and what is still given
abbrev pub with_front : {A : Type 0} → List A → Option (List A) → Option (List A)
with_front front given = given >>= λ xs. Some (front ++ xs)

pub front_first : {A : Type 0} (xs : Option (List A)) → with_front [] xs ≡ xs
front_first (Some xs) = refl
front_first None = refl

regroup : {A : Type 0} (front : List A) (x : A) (given : Option (List A)) → with_front front (given >>= λ xs. Some (x ∷ xs)) ≡ with_front (front ++ x ∷ []) given
regroup front x (Some xs) = ap (λ (ys : List _). Some ys) (simp append_assoc)
regroup front x None = refl

pub each_goes_on : {A B : Type 0} (f : A → Option B) (front : List B) (x : A) (xs : List A) (y : B) (total : Option (List B))
    → f x ≡ Some y → with_front front (each f (x ∷ xs)) ≡ total → with_front (front ++ y ∷ []) (each f xs) ≡ total
each_goes_on f front x xs y total found so_far =
    let one : with_front front (each f (x ∷ xs)) ≡ with_front (front ++ y ∷ []) (each f xs) = rw found (regroup front y (each f xs)) in
    sym one ∙ so_far

pub each_stops : {A B : Type 0} (f : A → Option B) (front : List B) (x : A) (xs : List A) (total : Option (List B)) → f x ≡ None → with_front front (each f (x ∷ xs)) ≡ total → total ≡ None
each_stops f front x xs total none so_far =
    let one : with_front front (each f (x ∷ xs)) ≡ None = rw none refl in
    sym so_far ∙ one

pub each_ends : {A B : Type 0} (f : A → Option B) (front : List B) (total : Option (List B)) → with_front front (each f []) ≡ total → total ≡ Some front
each_ends f front total so_far = sym so_far ∙ ap (λ (ys : List _). Some ys) (append-nil front)
