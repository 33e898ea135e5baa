-- Where what a test passes of a list stands among what passes
use Rattle.std.proofs.Common.{◌≡◌, ◌<◌, ◌≤◌, ◌∙◌, ◌⊎◌, inl, inr, ℕ, zero, suc, Bool, true, false, cond, List, [], ◌∷◌, ◌++◌, Some, length, take, refl, sym, ap, arith, slice_get}
use Rattle.std.proofs.lemmas.Bool.{false≢true}
use Rattle.std.specs.List.{filter}
use Rattle.roc_law_world.specs.Rank.{rank}

module _ {A : Type 0} (p : A → Bool) where
  -- what passes stands at its rank
  pub rank_there : (xs : List A) (k : ℕ) (a : A) → slice_get xs k ≡ Some a → p a ≡ true → slice_get (filter p xs) (rank p xs k) ≡ Some a
  rank_there [] k a there passes = absurd (cc)
  rank_there (x ∷ xs) zero a there passes = go (p x) refl
    where
      same : x ≡ a
      same = cc

      go : (b : Bool) → p x ≡ b → slice_get (cond b (x ∷ filter p xs) (filter p xs)) 0 ≡ Some a
      go true e = ap Some same
      go false e = absurd (false≢true (sym e ∙ (ap p same ∙ passes)))
  rank_there (x ∷ xs) (suc k) a there passes = go (p x) (rank_there xs k a there passes)
    where
      go : (b : Bool) → slice_get (filter p xs) (rank p xs k) ≡ Some a
          → slice_get (cond b (x ∷ filter p xs) (filter p xs)) (length (cond b (x ∷ filter p (take k xs)) (filter p (take k xs)))) ≡ Some a
      go true h = h
      go false h = h

  -- of two places the later one of what passes has the higher rank
  pub rank_before : (xs : List A) (j k : ℕ) (a : A) → slice_get xs j ≡ Some a → p a ≡ true → j < k → rank p xs j < rank p xs k
  rank_before [] j k a there passes before = absurd (cc)
  rank_before (x ∷ xs) zero zero a there passes before = absurd (omega arith)
  rank_before (x ∷ xs) zero (suc k) a there passes before = go (p x) refl
    where
      go : (b : Bool) → p x ≡ b → 0 < length (cond b (x ∷ filter p (take k xs)) (filter p (take k xs)))
      go true e = omega arith
      go false e = let same : x ≡ a = cc in absurd (false≢true (sym e ∙ (ap p same ∙ passes)))
  rank_before (x ∷ xs) (suc j) zero a there passes before = absurd (omega arith)
  rank_before (x ∷ xs) (suc j) (suc k) a there passes before = go (p x) (rank_before xs j k a there passes (omega arith))
    where
      go : (b : Bool) → rank p xs j < rank p xs k → length (cond b (x ∷ filter p (take j xs)) (filter p (take j xs))) < length (cond b (x ∷ filter p (take k xs)) (filter p (take k xs)))
      go true h = omega arith
      go false h = h

  -- so what passes at one rank stands at one place
  pub rank_one : (xs : List A) (j k : ℕ) (a b : A) → slice_get xs j ≡ Some a → p a ≡ true → slice_get xs k ≡ Some b → p b ≡ true → rank p xs j ≡ rank p xs k → j ≡ k
  rank_one xs j k a b at is there passes same =
      let before : j < k → rank p xs j < rank p xs k = rank_before xs j k a at is in
      let behind : k < j → rank p xs k < rank p xs j = rank_before xs k j b there passes in
      elim (order j k) [
        | inl h ↦ absurd (let r = before h in omega arith)
        | inr (inl e) ↦ e
        | inr (inr h) ↦ absurd (let r = behind h in omega arith)
      ]
    where
      order : (j k : ℕ) → (j < k) ⊎ ((j ≡ k) ⊎ (k < j))
      order zero zero = inr (inl refl)
      order zero (suc k) = inl (omega arith)
      order (suc j) zero = inr (inr (omega arith))
      order (suc j) (suc k) = elim (order j k) [
        | inl h ↦ inl (omega arith)
        | inr (inl e) ↦ inr (inl (ap suc e))
        | inr (inr h) ↦ inr (inr (omega arith))
      ]

  -- each of what passes has a place
  pub from_rank : (xs : List A) (i : ℕ) (a : A) → slice_get (filter p xs) i ≡ Some a → (k : ℕ) × (slice_get xs k ≡ Some a) × (p a ≡ true) × (rank p xs k ≡ i)
  from_rank [] i a there = absurd (cc)
  from_rank (x ∷ xs) i a there = go (p x) refl i there (λ i h. from_rank xs i a h)
    where
      go : (b : Bool) → p x ≡ b → (i : ℕ) → slice_get (cond b (x ∷ filter p xs) (filter p xs)) i ≡ Some a
          → ((i : ℕ) → slice_get (filter p xs) i ≡ Some a → (k : ℕ) × (slice_get xs k ≡ Some a) × (p a ≡ true) × (rank p xs k ≡ i))
          → (k : ℕ) × (slice_get (x ∷ xs) k ≡ Some a) × (p a ≡ true) × (rank p (x ∷ xs) k ≡ i)
      go true e zero h ih = (0, h, ap p (sym (the_same h)) ∙ e, refl)
        where
          the_same : Some x ≡ Some a → x ≡ a
          the_same h = cc
      go true e (suc i) h ih = let r = ih i h in (suc r.0, r.1, r.2, ap (λ b. length (cond b (x ∷ filter p (take r.0 xs)) (filter p (take r.0 xs)))) e ∙ ap suc r.3)
      go false e i h ih = let r = ih i h in (suc r.0, r.1, r.2, ap (λ b. length (cond b (x ∷ filter p (take r.0 xs)) (filter p (take r.0 xs)))) e ∙ r.3)

  -- what is added at the end changes no rank
  pub rank_append : (xs ys : List A) (k : ℕ) → k ≤ length xs → rank p (xs ++ ys) k ≡ rank p xs k
  rank_append xs ys zero h = refl
  rank_append [] ys (suc k) h = absurd (omega arith)
  rank_append (x ∷ xs) ys (suc k) h = go (p x) (rank_append xs ys k (omega arith))
    where
      go : (b : Bool) → rank p (xs ++ ys) k ≡ rank p xs k → length (cond b (x ∷ filter p (take k (xs ++ ys))) (filter p (take k (xs ++ ys)))) ≡ length (cond b (x ∷ filter p (take k xs)) (filter p (take k xs)))
      go true h = ap suc h
      go false h = h

  -- all of a list has passed at its end
  pub rank_all : (xs : List A) → rank p xs (length xs) ≡ length (filter p xs)
  rank_all [] = refl
  rank_all (x ∷ xs) = go (p x) (rank_all xs)
    where
      go : (b : Bool) → rank p xs (length xs) ≡ length (filter p xs) → length (cond b (x ∷ filter p (take (length xs) xs)) (filter p (take (length xs) xs))) ≡ length (cond b (x ∷ filter p xs) (filter p xs))
      go true h = ap suc h
      go false h = h
