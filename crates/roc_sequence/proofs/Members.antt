-- What is in lists
use Rattle.std.proofs.Common.{◌≡◌, ℕ, zero, suc, Bool, true, false, cond, List, [], ◌∷◌, ◌++◌, map, slice_get, Some, refl, sym, ap, ◌∙◌, ◌⊎◌, inl, inr, subst}
use Rattle.std.proofs.lemmas.Bool.{false≢true}
use Rattle.std.specs.List.{filter, flat_map}
use Rattle.roc_sequence.specs.Lists.{Has}

-- the one element of a list
pub has_one : {A : Type 0} (a x : A) → Has a (x ∷ []) → a ≡ x
has_one a x (inl e) = e
has_one a x (inr h) = elim h [ ]

-- ---- of two lists

pub has_left : {A : Type 0} (a : A) (xs ys : List A) → Has a xs → Has a (xs ++ ys)
has_left a [] ys h = absurd h
has_left a (x ∷ xs) ys (inl e) = inl e
has_left a (x ∷ xs) ys (inr h) = inr (has_left a xs ys h)

pub has_right : {A : Type 0} (a : A) (xs ys : List A) → Has a ys → Has a (xs ++ ys)
has_right a [] ys h = h
has_right a (x ∷ xs) ys h = inr (has_right a xs ys h)

pub has_append : {A : Type 0} (a : A) (xs ys : List A) → Has a (xs ++ ys) → Has a xs ⊎ Has a ys
has_append a [] ys h = inr h
has_append a (x ∷ xs) ys (inl e) = inl (inl e)
has_append a (x ∷ xs) ys (inr h) = elim (has_append a xs ys h) [ inl k ↦ inl (inr k) | inr k ↦ inr k ]

-- of a list with one more element
pub has_more : {A : Type 0} (a x : A) (xs : List A) → Has a (xs ++ x ∷ []) → Has a xs ⊎ (a ≡ x)
has_more a x xs h = elim (has_append a xs (x ∷ []) h) [ inl k ↦ inl k | inr k ↦ inr (has_one a x k) ]

-- ---- of a list made of another

pub has_map : {A B : Type 0} (f : A → B) (a : A) (xs : List A) → Has a xs → Has (f a) (map f xs)
has_map f a [] h = elim h [ ]
has_map f a (x ∷ xs) (inl e) = inl (ap f e)
has_map f a (x ∷ xs) (inr h) = inr (has_map f a xs h)

pub from_has_map : {A B : Type 0} (f : A → B) (b : B) (xs : List A) → Has b (map f xs) → (a : A) × Has a xs × (b ≡ f a)
from_has_map f b [] h = elim h [ ]
from_has_map f b (x ∷ xs) (inl e) = (x, inl refl, e)
from_has_map f b (x ∷ xs) (inr h) = let r = from_has_map f b xs h in (r.0, inr r.1, r.2)

pub has_flat_map : {A B : Type 0} (f : A → List B) (b : B) (a : A) (xs : List A) → Has a xs → Has b (f a) → Has b (flat_map f xs)
has_flat_map f b a [] h k = absurd h
has_flat_map f b a (x ∷ xs) (inl e) k = has_left b (f x) (flat_map f xs) (subst (λ y. Has b (f y)) e k)
has_flat_map f b a (x ∷ xs) (inr h) k = has_right b (f x) (flat_map f xs) (has_flat_map f b a xs h k)

pub from_has_flat_map : {A B : Type 0} (f : A → List B) (b : B) (xs : List A) → Has b (flat_map f xs) → (a : A) × Has a xs × Has b (f a)
from_has_flat_map f b [] h = absurd h
from_has_flat_map f b (x ∷ xs) h =
    elim (has_append b (f x) (flat_map f xs) h) [
      | inl k ↦ (x, inl refl, k)
      | inr k ↦ (let r = from_has_flat_map f b xs k in (r.0, inr r.1, r.2))
    ]

module _ {A : Type 0} (p : A → Bool) where
  pub has_filter : (a : A) (xs : List A) → Has a xs → p a ≡ true → Has a (filter p xs)
  has_filter a [] h k = absurd h
  has_filter a (x ∷ xs) h k = go (p x) refl h (has_filter a xs)
    where
      go : (t : Bool) → p x ≡ t → Has a (x ∷ xs) → (Has a xs → p a ≡ true → Has a (filter p xs)) → Has a (cond t (x ∷ filter p xs) (filter p xs))
      go true e (inl i) ih = inl i
      go true e (inr i) ih = inr (ih i k)
      go false e (inl i) ih = absurd (false≢true (sym e ∙ (ap p (sym i) ∙ k)))
      go false e (inr i) ih = ih i k

  pub from_has_filter : (a : A) (xs : List A) → Has a (filter p xs) → Has a xs × (p a ≡ true)
  from_has_filter a [] h = absurd h
  from_has_filter a (x ∷ xs) h = go (p x) refl h (from_has_filter a xs)
    where
      go : (t : Bool) → p x ≡ t → Has a (cond t (x ∷ filter p xs) (filter p xs)) → (Has a (filter p xs) → Has a xs × (p a ≡ true)) → Has a (x ∷ xs) × (p a ≡ true)
      go true e (inl i) ih = (inl i, ap p i ∙ e)
      go true e (inr k) ih = let r = ih k in (inr r.0, r.1)
      go false e k ih = let r = ih k in (inr r.0, r.1)

-- what stands at a place is in the list
pub has_at : {A : Type 0} (xs : List A) (i : ℕ) (a : A) → slice_get xs i ≡ Some a → Has a xs
has_at [] i a e = absurd (cc)
has_at (x ∷ xs) zero a e = inl (cc)
has_at (x ∷ xs) (suc i) a e = inr (has_at xs i a e)

-- what is found at a place is one
pub same_there : {A : Type 0} (xs : List A) (i : ℕ) (a b : A) → slice_get xs i ≡ Some a → slice_get xs i ≡ Some b → a ≡ b
same_there xs i a b h k = let both : Some a ≡ Some b = sym h ∙ k in cc
