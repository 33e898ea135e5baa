-- A list with some of its elements left out
use Rattle.std.proofs.Common.{◌≡◌, ◌≤◌, Bool, true, false, cond, List, [], ◌∷◌, ◌++◌, length, refl, inl, inr, arith}
use Rattle.std.proofs.lemmas.Bool.{false≢true}
use Rattle.std.specs.Prelude.{filter}
use Rattle.roc_sequence.specs.Lists.{Has}

-- the first is the second, with some left out
pub data IsThinned {A : Type 0} : List A → List A → Type 0 where
  nothing : IsThinned [] []
  kept : {x : A} {xs ys : List A} → IsThinned xs ys → IsThinned (x ∷ xs) (x ∷ ys)
  left : {y : A} {xs ys : List A} → IsThinned xs ys → IsThinned xs (y ∷ ys)

-- so it has no more of them
pub thinned_length : {A : Type 0} {xs ys : List A} → IsThinned xs ys → length xs ≤ length ys
thinned_length nothing = omega arith
thinned_length (kept t) = let ih = thinned_length t in omega (arith, ih)
thinned_length (left t) = let ih = thinned_length t in omega (arith, ih)

-- one more at the end of both, or of the second
pub thinned_both : {A : Type 0} (a : A) {xs ys : List A} → IsThinned xs ys → IsThinned (xs ++ a ∷ []) (ys ++ a ∷ [])
thinned_both a nothing = kept nothing
thinned_both a (kept t) = kept (thinned_both a t)
thinned_both a (left t) = left (thinned_both a t)

pub thinned_more : {A : Type 0} (a : A) {xs ys : List A} → IsThinned xs ys → IsThinned xs (ys ++ a ∷ [])
thinned_more a nothing = left nothing
thinned_more a (kept t) = kept (thinned_more a t)
thinned_more a (left t) = left (thinned_more a t)

-- what a test leaves of both
pub thinned_filter : {A : Type 0} (p : A → Bool) {xs ys : List A} → IsThinned xs ys → IsThinned (filter p xs) (filter p ys)
thinned_filter p nothing = nothing
thinned_filter p (kept {x = x} {xs = xs} {ys = ys} t) = go (p x) (thinned_filter p t)
  where
    go : (b : Bool) → IsThinned (filter p xs) (filter p ys) → IsThinned (cond b (x ∷ filter p xs) (filter p xs)) (cond b (x ∷ filter p ys) (filter p ys))
    go true ih = kept ih
    go false ih = ih
thinned_filter p (left {y = y} {xs = xs} {ys = ys} t) = go (p y) (thinned_filter p t)
  where
    go : (b : Bool) → IsThinned (filter p xs) (filter p ys) → IsThinned (filter p xs) (cond b (y ∷ filter p ys) (filter p ys))
    go true ih = left ih
    go false ih = ih

-- or of the second, where it leaves all of the first
pub thinned_left : {A : Type 0} (p : A → Bool) {xs ys : List A} → IsThinned xs ys → ((a : A) → Has a xs → p a ≡ true) → IsThinned xs (filter p ys)
thinned_left p nothing all = nothing
thinned_left p (kept {x = x} {xs = xs} {ys = ys} t) all = go (p x) (all x (inl refl)) (thinned_left p t (λ a h. all a (inr h)))
  where
    go : (b : Bool) → b ≡ true → IsThinned xs (filter p ys) → IsThinned (x ∷ xs) (cond b (x ∷ filter p ys) (filter p ys))
    go true e ih = kept ih
    go false e ih = absurd (false≢true e)
thinned_left p (left {y = y} {xs = xs} {ys = ys} t) all = go (p y) (thinned_left p t all)
  where
    go : (b : Bool) → IsThinned xs (filter p ys) → IsThinned xs (cond b (y ∷ filter p ys) (filter p ys))
    go true ih = left ih
    go false ih = ih
