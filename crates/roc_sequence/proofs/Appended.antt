-- Places in two lists, one behind the other
use Rattle.std.proofs.Common.{◌≡◌, suc, ◌+◌, ◌<◌, ◌≤◌, Bool, true, false, cond, List, [], ◌∷◌, ◌++◌, length, refl, ap, arith, ◌⊎◌, inl, inr, length-append}
use Rattle.std.proofs.lemmas.Bool.{cases_lt}
use Rattle.roc_sequence.specs.Places.{place_of, IsListed, IsListedBefore, NoneTwice}
use Rattle.roc_sequence.proofs.Places.{place_of-le, listed_head, listed_tail}

pub place_of-front : {A : Type 0} (p : A → Bool) (xs ys : List A) → place_of p xs < length xs → place_of p (xs ++ ys) ≡ place_of p xs
place_of-front p [] ys h = absurd (omega arith)
place_of-front p (x ∷ xs) ys h = go (p x) h (place_of-front p xs ys)
  where
    go : (b : Bool) → cond b 0 (suc (place_of p xs)) < suc (length xs) → (place_of p xs < length xs → place_of p (xs ++ ys) ≡ place_of p xs) → cond b 0 (suc (place_of p (xs ++ ys))) ≡ cond b 0 (suc (place_of p xs))
    go true l ih = refl
    go false l ih = ap suc (ih (omega arith))

pub place_of-behind : {A : Type 0} (p : A → Bool) (xs ys : List A) → length xs ≤ place_of p xs → place_of p (xs ++ ys) ≡ length xs + place_of p ys
place_of-behind p [] ys h = omega arith
place_of-behind p (x ∷ xs) ys h = go (p x) h (place_of-behind p xs ys)
  where
    go : (b : Bool) → suc (length xs) ≤ cond b 0 (suc (place_of p xs)) → (length xs ≤ place_of p xs → place_of p (xs ++ ys) ≡ length xs + place_of p ys) → cond b 0 (suc (place_of p (xs ++ ys))) ≡ suc (length xs) + place_of p ys
    go true l ih = absurd (omega arith)
    go false l ih = let e = ih (omega arith) in omega arith

module _ {A : Type 0} (is : A → A → Bool) (xs ys : List A) where
  pub listed_front : (a : A) → IsListed is xs a → IsListed is (xs ++ ys) a
  listed_front a h = let e = place_of-front (is a) xs ys h in omega (arith, length-append xs ys)

  pub listed_behind : (a : A) → IsListed is ys a → IsListed is (xs ++ ys) a
  listed_behind a h =
      elim (cases_lt (place_of (is a) xs) (length xs)) [
        | inl l ↦ listed_front a l
        | inr l ↦ (let e = place_of-behind (is a) xs ys l in omega (arith, length-append xs ys))
      ]

  pub listed_either : (a : A) → IsListed is (xs ++ ys) a → IsListed is xs a ⊎ ((¬ IsListed is xs a) × IsListed is ys a)
  listed_either a h =
      elim (cases_lt (place_of (is a) xs) (length xs)) [
        | inl l ↦ inl l
        | inr l ↦ inr (λ i. absurd (omega arith), let e = place_of-behind (is a) xs ys l in omega (arith, length-append xs ys))
      ]

  -- the longer list keeps the places of its front
  pub before_front : (a b : A) → IsListedBefore is xs a b → IsListedBefore is (xs ++ ys) a b
  before_front a b h =
      let l = place_of-le (is b) xs in
      let e = place_of-front (is a) xs ys (omega arith) in
      elim (cases_lt (place_of (is b) xs) (length xs)) [
        | inl k ↦ (let f = place_of-front (is b) xs ys k in omega arith)
        | inr k ↦ (let f = place_of-behind (is b) xs ys k in omega arith)
      ]

  pub from_before_front : (a b : A) → IsListed is xs b → IsListedBefore is (xs ++ ys) a b → IsListedBefore is xs a b
  from_before_front a b h k =
      let e = place_of-front (is b) xs ys h in
      elim (cases_lt (place_of (is a) xs) (length xs)) [
        | inl l ↦ (let f = place_of-front (is a) xs ys l in omega arith)
        | inr l ↦ (let f = place_of-behind (is a) xs ys l in absurd (omega arith))
      ]

  pub before_behind : (a b : A) → ¬ IsListed is xs a → ¬ IsListed is xs b → IsListedBefore is ys a b → IsListedBefore is (xs ++ ys) a b
  before_behind a b h k l =
      let e = place_of-behind (is a) xs ys (omega arith) in
      let f = place_of-behind (is b) xs ys (omega arith) in
      omega arith

  pub from_before_behind : (a b : A) → ¬ IsListed is xs a → ¬ IsListed is xs b → IsListedBefore is (xs ++ ys) a b → IsListedBefore is ys a b
  from_before_behind a b h k l =
      let e = place_of-behind (is a) xs ys (omega arith) in
      let f = place_of-behind (is b) xs ys (omega arith) in
      omega arith

  -- what is in the front stands before what is not
  pub before_new : (a b : A) → IsListed is xs a → ¬ IsListed is xs b → IsListedBefore is (xs ++ ys) a b
  before_new a b h k =
      let e = place_of-front (is a) xs ys h in
      let f = place_of-behind (is b) xs ys (omega arith) in
      omega arith

pub NoneTwice-append : {A : Type 0} (is : A → A → Bool) → ((a : A) → is a a ≡ true) → (xs ys : List A) → NoneTwice is xs → NoneTwice is ys → ((a : A) → IsListed is ys a → ¬ IsListed is xs a) → NoneTwice is (xs ++ ys)
NoneTwice-append is own [] ys h k apart = k
NoneTwice-append is own (x ∷ xs) ys h k apart = (
  λ i. elim (listed_either is xs ys x i) [
    | inl l ↦ h.0 l
    | inr l ↦ apart x l.1 (listed_head is x xs (own x))
  ],
  NoneTwice-append is own xs ys h.1 k (λ a i j. apart a i (listed_tail is x xs a j)),
)

-- lists with one more at the end
pub empty_more : {A : Type 0} (xs : List A) (x : A) → ¬ ([] ≡ xs ++ x ∷ [])
empty_more [] x e = cc
empty_more (y ∷ ys) x e = cc

pub same_more : {A : Type 0} (xs ys : List A) (x y : A) → xs ++ x ∷ [] ≡ ys ++ y ∷ [] → (xs ≡ ys) × (x ≡ y)
same_more [] [] x y e = (refl, cc)
same_more [] (z ∷ zs) x y e = absurd (empty_more zs y (cc))
same_more (z ∷ zs) [] x y e = absurd (empty_more zs x (cc))
same_more {A} (a ∷ xs) (b ∷ ys) x y e =
    let head : a ≡ b = cc in
    let tail : xs ++ x ∷ [] ≡ ys ++ y ∷ [] = cc in
    let r = same_more xs ys x y tail in
    let both : A → List A → List A = λ c cs. c ∷ cs in
    ((λ i. both (head i) (r.0 i)), r.1)
