-- Numbers put into an order in which each stands behind those that have to come before it
use Rattle.std.proofs.Common.{◌≡◌, ◌≢◌, ◌∙◌, ℕ, suc, ◌<◌, Bool, true, false, not, ◌==◌, cond, if◌then◌else◌, List, [], ◌∷◌, refl, sym, ap, subst, ◌⊎◌, inl, inr, arith}
use Rattle.std.proofs.lemmas.Bool.{false≢true, eqb-true, eq-eqb, not-true, not_from_false, false_from_ne_true}
use Rattle.roc_sequence.specs.Lists.{Has}
use Rattle.roc_sequence.specs.Places.{place_of, IsListed, IsListedBefore, NoneTwice}
use Rattle.roc_sequence.specs.Rising.{IsRising}
use Rattle.roc_sequence.proofs.Holds.{all_has, has_all}
use Rattle.roc_sequence.proofs.Listed.{listed_has, has_listed}

abbrev pub is_number : ℕ → ℕ → Bool
is_number a b = a == b

pub number_exact : (a b : ℕ) → is_number a b ≡ true → a ≡ b
number_exact a b h = eqb-true a b h

pub number_own : (a : ℕ) → is_number a a ≡ true
number_own a = eq-eqb a a refl

module _ (before : ℕ → ℕ → Bool) where
  -- a number before the first that it has to come before
  insert : ℕ → List ℕ → List ℕ
  insert x [] = x ∷ []
  insert x (y ∷ ys) = if before x y then x ∷ y ∷ ys else y ∷ insert x ys

  pub ordered : List ℕ → List ℕ
  ordered [] = []
  ordered (x ∷ xs) = insert x (ordered xs)

  insert_has : (x z : ℕ) (ys : List ℕ) → Has z (insert x ys) → (z ≡ x) ⊎ Has z ys
  unfolding insert
  insert_has x z [] (inl e) = inl e
  insert_has x z [] (inr h) = absurd h
  insert_has x z (y ∷ ys) h = go (before x y) h (insert_has x z ys)
    where
      go : (b : Bool) → Has z (cond b (x ∷ y ∷ ys) (y ∷ insert x ys)) → (Has z (insert x ys) → (z ≡ x) ⊎ Has z ys) → (z ≡ x) ⊎ Has z (y ∷ ys)
      go true (inl e) ih = inl e
      go true (inr k) ih = inr k
      go false (inl e) ih = inr (inl e)
      go false (inr k) ih = elim (ih k) [ inl e ↦ inl e | inr m ↦ inr (inr m) ]

  has_insert : (x z : ℕ) (ys : List ℕ) → (z ≡ x) ⊎ Has z ys → Has z (insert x ys)
  unfolding insert
  has_insert x z [] (inl e) = inl e
  has_insert x z [] (inr h) = absurd h
  has_insert x z (y ∷ ys) h = go (before x y) h (has_insert x z ys)
    where
      go : (b : Bool) → (z ≡ x) ⊎ Has z (y ∷ ys) → ((z ≡ x) ⊎ Has z ys → Has z (insert x ys)) → Has z (cond b (x ∷ y ∷ ys) (y ∷ insert x ys))
      go true (inl e) ih = inl e
      go true (inr k) ih = inr k
      go false (inl e) ih = inr (ih (inl e))
      go false (inr (inl e)) ih = inl e
      go false (inr (inr k)) ih = inr (ih (inr k))

  pub ordered_has : (z : ℕ) (xs : List ℕ) → Has z (ordered xs) → Has z xs
  unfolding ordered
  ordered_has z [] h = h
  ordered_has z (x ∷ xs) h = elim (insert_has x z (ordered xs) h) [ inl e ↦ inl e | inr k ↦ inr (ordered_has z xs k) ]

  pub has_ordered : (z : ℕ) (xs : List ℕ) → Has z xs → Has z (ordered xs)
  unfolding ordered
  has_ordered z [] h = h
  has_ordered z (x ∷ xs) (inl e) = has_insert x z (ordered xs) (inl e)
  has_ordered z (x ∷ xs) (inr h) = has_insert x z (ordered xs) (inr (has_ordered z xs h))

  -- ---- none twice

  insert_once : (x : ℕ) (ys : List ℕ) → ¬ Has x ys → NoneTwice is_number ys → NoneTwice is_number (insert x ys)
  unfolding insert
  insert_once x [] n h = (λ l. omega arith, tt)
  insert_once x (y ∷ ys) n h = go (before x y) (insert_once x ys (λ k. n (inr k)) h.1)
    where
      apart : ¬ IsListed is_number (insert x ys) y
      apart l = elim (insert_has x y ys (listed_has is_number number_exact number_own (insert x ys) y l)) [
        | inl e ↦ n (inl (sym e))
        | inr k ↦ h.0 (has_listed is_number number_exact number_own ys y k)
      ]

      go : (b : Bool) → NoneTwice is_number (insert x ys) → NoneTwice is_number (cond b (x ∷ y ∷ ys) (y ∷ insert x ys))
      go true rest = (λ l. n (listed_has is_number number_exact number_own (y ∷ ys) x l), h)
      go false rest = (apart, rest)

  pub ordered_once : (xs : List ℕ) → NoneTwice is_number xs → NoneTwice is_number (ordered xs)
  unfolding ordered
  ordered_once [] h = tt
  ordered_once (x ∷ xs) h = insert_once x (ordered xs) (λ k. h.0 (has_listed is_number number_exact number_own xs x (ordered_has x xs k))) (ordered_once xs h.1)

  -- ---- nothing stands before what has to come before it

  abbrev pub may_follow : ℕ → ℕ → Bool
  may_follow a b = not (before b a)

  module _ (through : (a b c : ℕ) → before a b ≡ true → before b c ≡ true → before a c ≡ true) (one_way : (a b : ℕ) → a ≢ b → before a b ≡ true → before b a ≡ true → ⊥) where
    insert_rises : (x : ℕ) (ys : List ℕ) → ¬ Has x ys → IsRising may_follow ys → IsRising may_follow (insert x ys)
    unfolding insert
    insert_rises x [] n r = (tt, tt)
    insert_rises x (y ∷ ys) n r = go (before x y) refl (insert_rises x ys (λ k. n (inr k)) r.1)
      where
        behind : before x y ≡ true → (z : ℕ) → Has z (y ∷ ys) → may_follow x z ≡ true
        behind e z h = not_from_false (before z x) (false_from_ne_true (before z x) (λ k. against e z h k))
          where
            against : before x y ≡ true → (z : ℕ) → Has z (y ∷ ys) → before z x ≡ true → ⊥
            against e z (inl same) k = one_way x y (λ f. n (inl f)) e (subst (λ m. before m x ≡ true) same k)
            against e z (inr h) k = false≢true (sym (not-true (before z y) (all_has (λ w. may_follow y w ≡ true) z ys r.0 h)) ∙ through z x y k e)

        front : before x y ≡ false → (z : ℕ) → Has z (insert x ys) → may_follow y z ≡ true
        front e z h = elim (insert_has x z ys h) [
          | inl same ↦ not_from_false (before z y) (ap (λ m. before m y) same ∙ e)
          | inr k ↦ all_has (λ w. may_follow y w ≡ true) z ys r.0 k
        ]

        go : (b : Bool) → before x y ≡ b → IsRising may_follow (insert x ys) → IsRising may_follow (cond b (x ∷ y ∷ ys) (y ∷ insert x ys))
        go true e rest = (has_all (λ z. may_follow x z ≡ true) (y ∷ ys) (behind e), r)
        go false e rest = (has_all (λ z. may_follow y z ≡ true) (insert x ys) (front e), rest)

    pub ordered_rises : (xs : List ℕ) → NoneTwice is_number xs → IsRising may_follow (ordered xs)
    unfolding ordered
    ordered_rises [] h = tt
    ordered_rises (x ∷ xs) h = insert_rises x (ordered xs) (λ k. h.0 (has_listed is_number number_exact number_own xs x (ordered_has x xs k))) (ordered_rises xs h.1)

  pub stands_before : (xs : List ℕ) (a b : ℕ) → IsRising may_follow xs → Has a xs → Has b xs → a ≢ b → before a b ≡ true → IsListedBefore is_number xs a b
  stands_before [] a b r h k n e = absurd h
  stands_before (x ∷ xs) a b r h k n e = go (is_number a x) refl (is_number b x) refl h k (stands_before xs a b r.1)
    where
      go : (s : Bool) → is_number a x ≡ s → (t : Bool) → is_number b x ≡ t → Has a (x ∷ xs) → Has b (x ∷ xs) → (Has a xs → Has b xs → a ≢ b → before a b ≡ true → IsListedBefore is_number xs a b)
          → cond s 0 (suc (place_of (is_number a) xs)) < cond t 0 (suc (place_of (is_number b) xs))
      go true s true t h k ih = absurd (n (number_exact a x s ∙ sym (number_exact b x t)))
      go true s false t h k ih = omega arith
      go false s true t (inl f) k ih = absurd (false≢true (sym s ∙ ap (is_number a) (sym f) ∙ number_own a))
      go false s true t (inr f) k ih =
          let is : b ≡ x = number_exact b x t in
          absurd (false≢true (sym (not-true (before a x) (all_has (λ w. may_follow x w ≡ true) a xs r.0 f)) ∙ ap (λ m. before a m) (sym is) ∙ e))
      go false s false t (inl f) k ih = absurd (false≢true (sym s ∙ ap (is_number a) (sym f) ∙ number_own a))
      go false s false t (inr f) (inl m) ih = absurd (false≢true (sym t ∙ ap (is_number b) (sym m) ∙ number_own b))
      go false s false t (inr f) (inr m) ih = let l = ih f m n e in omega arith
