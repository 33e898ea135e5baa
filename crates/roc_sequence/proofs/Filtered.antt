-- Places in what a test passes of a list
use Rattle.std.proofs.Common.{◌≡◌, suc, ◌<◌, Bool, true, false, cond, List, [], ◌∷◌, length, refl, sym, ap, ◌∙◌, arith}
use Rattle.std.proofs.lemmas.Bool.{false≢true}
use Rattle.std.specs.List.{filter}
use Rattle.roc_sequence.specs.Places.{place_of, IsListed, IsListedBefore, NoneTwice}
use Rattle.roc_sequence.proofs.Places.{place_of-there}

module _ {A : Type 0} (is : A → A → Bool) (exact : (a b : A) → is a b ≡ true → a ≡ b) (p : A → Bool) where
  not_same : (a x : A) → p a ≡ true → p x ≡ false → is a x ≡ false
  not_same a x h n = go (is a x) refl
    where
      go : (b : Bool) → is a x ≡ b → b ≡ false
      go true e = absurd (false≢true (sym n ∙ (ap p (sym (exact a x e)) ∙ h)))
      go false e = refl

  -- what passes keeps its place among what passes
  pub from_before_filter : (xs : List A) (a b : A) → p a ≡ true → p b ≡ true → IsListedBefore is (filter p xs) a b → IsListedBefore is xs a b
  from_before_filter [] a b h k l = l
  from_before_filter (x ∷ xs) a b h k l = go (p x) refl l (from_before_filter xs a b h k)
    where
      go : (c : Bool) → p x ≡ c → IsListedBefore is (cond c (x ∷ filter p xs) (filter p xs)) a b → (IsListedBefore is (filter p xs) a b → IsListedBefore is xs a b) → IsListedBefore is (x ∷ xs) a b
      go false e m ih =
          let f = place_of-there (is a) x xs (not_same a x h e) in
          let g = place_of-there (is b) x xs (not_same b x k e) in
          let i = ih m in
          omega arith
      go true e m ih = two (is a x) (is b x) m
        where
          two : (s t : Bool) → cond s 0 (suc (place_of (is a) (filter p xs))) < cond t 0 (suc (place_of (is b) (filter p xs))) → cond s 0 (suc (place_of (is a) xs)) < cond t 0 (suc (place_of (is b) xs))
          two s true n = absurd (omega arith)
          two true false n = omega arith
          two false false n = let i = ih (omega arith) in omega arith

  pub before_filter : (xs : List A) (a b : A) → p a ≡ true → p b ≡ true → IsListedBefore is xs a b → IsListedBefore is (filter p xs) a b
  before_filter [] a b h k l = l
  before_filter (x ∷ xs) a b h k l = go (p x) refl (before_filter xs a b h k)
    where
      go : (c : Bool) → p x ≡ c → (IsListedBefore is xs a b → IsListedBefore is (filter p xs) a b) → IsListedBefore is (cond c (x ∷ filter p xs) (filter p xs)) a b
      go false e ih =
          let f = place_of-there (is a) x xs (not_same a x h e) in
          let g = place_of-there (is b) x xs (not_same b x k e) in
          ih (omega arith)
      go true e ih = two (is a x) (is b x) l
        where
          two : (s t : Bool) → cond s 0 (suc (place_of (is a) xs)) < cond t 0 (suc (place_of (is b) xs)) → cond s 0 (suc (place_of (is a) (filter p xs))) < cond t 0 (suc (place_of (is b) (filter p xs)))
          two s true n = absurd (omega arith)
          two true false n = omega arith
          two false false n = let i = ih (omega arith) in omega arith

  pub listed_filter : (xs : List A) (a : A) → p a ≡ true → IsListed is xs a → IsListed is (filter p xs) a
  listed_filter [] a h l = l
  listed_filter (x ∷ xs) a h l = go (p x) refl (listed_filter xs a h)
    where
      go : (c : Bool) → p x ≡ c → (IsListed is xs a → IsListed is (filter p xs) a) → IsListed is (cond c (x ∷ filter p xs) (filter p xs)) a
      go false e ih = let f = place_of-there (is a) x xs (not_same a x h e) in ih (omega arith)
      go true e ih = one (is a x) l
        where
          one : (s : Bool) → cond s 0 (suc (place_of (is a) xs)) < suc (length xs) → cond s 0 (suc (place_of (is a) (filter p xs))) < suc (length (filter p xs))
          one true n = omega arith
          one false n = let i = ih (omega arith) in omega arith

  pub from_listed_filter : (xs : List A) (a : A) → IsListed is (filter p xs) a → (p a ≡ true) × IsListed is xs a
  from_listed_filter [] a l = absurd (omega arith)
  from_listed_filter (x ∷ xs) a l = go (p x) refl l (from_listed_filter xs a)
    where
      more : IsListed is xs a → IsListed is (x ∷ xs) a
      more h = elim (is a x) as (λ b. cond b 0 (suc (place_of (is a) xs)) < suc (length xs)) [ true ↦ omega arith | false ↦ omega arith ]

      go : (c : Bool) → p x ≡ c → IsListed is (cond c (x ∷ filter p xs) (filter p xs)) a → (IsListed is (filter p xs) a → (p a ≡ true) × IsListed is xs a) → (p a ≡ true) × IsListed is (x ∷ xs) a
      go false e m ih = let r = ih m in (r.0, more r.1)
      go true e m ih = one (is a x) refl m
        where
          one : (s : Bool) → is a x ≡ s → cond s 0 (suc (place_of (is a) (filter p xs))) < suc (length (filter p xs)) → (p a ≡ true) × (cond s 0 (suc (place_of (is a) xs)) < suc (length xs))
          one true f n = (ap p (exact a x f) ∙ e, omega arith)
          one false f n = let r = ih (omega arith) in (r.0, let i = r.1 in omega arith)

  pub NoneTwice-filter : (xs : List A) → NoneTwice is xs → NoneTwice is (filter p xs)
  NoneTwice-filter [] h = tt
  NoneTwice-filter (x ∷ xs) h =
      elim (p x) as (λ b. NoneTwice is (cond b (x ∷ filter p xs) (filter p xs))) [
        | true ↦ (λ i. h.0 (from_listed_filter xs x i).1, NoneTwice-filter xs h.1)
        | false ↦ NoneTwice-filter xs h.1
      ]
