-- Where an element of two lists, one behind the other, stands
use Rattle.std.proofs.Common.{◌≡◌, List, [], ◌∷◌, ◌++◌, refl, sym, ◌⊎◌, inl, inr}

pub not_empty : {A : Type 0} (front : List A) (x : A) (behind : List A) → [] ≡ front ++ x ∷ behind → ⊥
not_empty [] x behind e = absurd (cc)
not_empty (f ∷ front) x behind e = absurd (cc)

-- it stands in the first list, or in the second
pub split_append : {A : Type 0} (xs ys front : List A) (x : A) (behind : List A) → xs ++ ys ≡ front ++ x ∷ behind
    → ((back : List A) × (xs ≡ front ++ x ∷ back)) ⊎ ((rest : List A) × (front ≡ xs ++ rest) × (ys ≡ rest ++ x ∷ behind))
split_append [] ys front x behind e = inr (front, refl, e)
split_append (a ∷ xs) ys [] x behind e = let head : a ≡ x = cc in inl (xs, λ i. head i ∷ xs)
split_append (a ∷ xs) ys (f ∷ front) x behind e =
    let head : a ≡ f = cc in
    let tail : xs ++ ys ≡ front ++ x ∷ behind = cc in
    elim (split_append xs ys front x behind tail) [
      | inl k ↦ inl (k.0, λ i. head i ∷ k.1 i)
      | inr k ↦ inr (k.0, λ i. sym head i ∷ k.1 i, k.2)
    ]

-- in a list of one it stands alone
pub split_one : {A : Type 0} (y : A) (front : List A) (x : A) (behind : List A) → y ∷ [] ≡ front ++ x ∷ behind → (front ≡ []) × (x ≡ y)
split_one y [] x behind e = (refl, cc)
split_one y (f ∷ front) x behind e = absurd (let tail : [] ≡ front ++ x ∷ behind = cc in not_empty front x behind tail)
