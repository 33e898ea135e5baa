-- The numbers of messages that were never delivered
use Rattle.std.proofs.Common.{◌≡◌, ℕ, zero, suc, inl, inr, ◌+◌, ◌<◌, ◌≤◌, ◌==◌, Bool, true, false, not, cond, List, [], ◌∷◌, ◌++◌, Ok, Err, Result, length, get_or, refl, sym, ap, subst, ◌∙◌, arith}
use Rattle.std.proofs.lemmas.Bool.{eqb-true, eq-eqb, false≢true, cases_lt}
use Rattle.std.proofs.lemmas.Bool.Decides.{nat_tests}
use Rattle.std.proofs.lemmas.List.Sorted.{searched}
use Rattle.std.specs.List.Sorted.{IsBinarySearchResult}
use Rattle.std.specs.Ordering.{nat_cmp}
use Rattle.std.specs.Result.{MatchResult}
use Rattle.std.specs.Prelude.{filter, nat_lt}
use Rattle.std.specs.List.{AllByRecursion, remove}
use Rattle.roc_sequence.specs.Rising.{IsRising}
use Rattle.roc_sequence.proofs.Holds.{all_at, all_append, all_remove, all_weaker}
use Rattle.roc_sequence.proofs.Rising.{rising_more, rising_remove}
use Rattle.roc_world.specs.Inner.Messages.{AreNumbered}

-- numbers that rise do so from place to place
pub rising_places : (xs : List ℕ) → IsRising nat_lt xs → (i j : ℕ) → i ≤ j → j < length xs → get_or xs i 0 ≤ get_or xs j 0
rising_places [] r i j l b = absurd (omega arith)
rising_places (x ∷ xs) r zero zero l b = omega arith
rising_places (x ∷ xs) r (suc i) zero l b = absurd (omega arith)
rising_places (x ∷ xs) r zero (suc j) l b = let h = all_at (λ y. nat_lt x y ≡ true) xs j 0 r.0 (omega arith) in below x (get_or xs j 0) h
  where
    below : (x y : ℕ) → nat_lt x y ≡ true → x ≤ y
    below x y h = grind (arith, nat_tests)
rising_places (x ∷ xs) r (suc i) (suc j) l b = rising_places xs r.1 i j (omega arith) (omega arith)

module _ (number : ℕ) where
  abbrev pub others : List ℕ → List ℕ
  others xs = filter (λ n. not (n == number)) xs

  -- one that is not it is kept
  kept : (x : ℕ) (xs : List ℕ) → (x ≡ number → ⊥) → others (x ∷ xs) ≡ x ∷ others xs
  kept x xs n = go (x == number) refl
    where
      go : (b : Bool) → (x == number) ≡ b → cond (not b) (x ∷ others xs) (others xs) ≡ x ∷ others xs
      go true e = absurd (n (eqb-true x number e))
      go false e = refl

  -- where it is not there, all are kept
  pub without : (xs : List ℕ) → AllByRecursion (λ x. x ≡ number → ⊥) xs → xs ≡ others xs
  without [] h = refl
  without (x ∷ xs) h = ap (λ ys. x ∷ ys) (without xs h.1) ∙ sym (kept x xs h.0)

  pub taken_out : (xs : List ℕ) (at : ℕ) → IsRising nat_lt xs → at < length xs → get_or xs at 0 ≡ number → remove xs at ≡ others xs
  taken_out [] at r l e = absurd (omega arith)
  taken_out (x ∷ xs) zero r l e = without xs (all_weaker (λ y. nat_lt x y ≡ true) (λ y. y ≡ number → ⊥) (λ y h. above y h) xs r.0) ∙ sym (dropped e)
    where
      above : (y : ℕ) → nat_lt x y ≡ true → y ≡ number → ⊥
      above y h k = let l : x < y = grind (arith, nat_tests) in absurd (omega arith)

      dropped : x ≡ number → others (x ∷ xs) ≡ others xs
      dropped e = go (x == number) refl
        where
          go : (b : Bool) → (x == number) ≡ b → cond (not b) (x ∷ others xs) (others xs) ≡ others xs
          go true f = refl
          go false f = absurd (false≢true (sym f ∙ eq-eqb x number e))
  taken_out (x ∷ xs) (suc at) r l e = ap (λ ys. x ∷ ys) (taken_out xs at r.1 (omega arith) e) ∙ sym (kept x xs (λ f. before (all_at (λ y. nat_lt x y ≡ true) xs at 0 r.0 (omega arith)) f))
    where
      before : nat_lt x (get_or xs at 0) ≡ true → x ≡ number → ⊥
      before h f = let l : x < get_or xs at 0 = grind (arith, nat_tests) in absurd (omega arith)

  -- what a search for the number says
  pub searched_for : (xs : List ℕ) (r : Result ℕ ℕ) → IsRising nat_lt xs → IsBinarySearchResult (λ y. nat_cmp y number) xs r → MatchResult r (λ at. remove xs at ≡ others xs) (λ at. xs ≡ others xs)
  searched_for xs r rising h = go r (searched xs number r h (rising_places xs rising))
    where
      each : (P : ℕ → Type 0) (xs : List ℕ) → ((k : ℕ) → k < length xs → P (get_or xs k 0)) → AllByRecursion P xs
      each P [] f = tt
      each P (x ∷ xs) f = (f 0 (omega arith), each P xs (λ k l. f (suc k) (omega arith)))

      go : (r : Result ℕ ℕ) → MatchResult r (λ i. (i < length xs) × (get_or xs i 0 ≡ number)) (λ i. (i ≤ length xs) × ((k : ℕ) → k < i → get_or xs k 0 < number) × ((k : ℕ) → i ≤ k → k < length xs → number < get_or xs k 0)) → MatchResult r (λ at. remove xs at ≡ others xs) (λ at. xs ≡ others xs)
      go (Ok at) f = taken_out xs at rising f.0 f.1
      go (Err at) f = without xs (each (λ x. x ≡ number → ⊥) xs (λ k l e. elim (cases_lt k at) [ inl b ↦ (let m = f.1 k b in absurd (omega arith)) | inr b ↦ (let m = f.2 k (omega arith) l in absurd (omega arith)) ]))

-- a list without a place is numbered as before
pub numbered_less : (count : ℕ) (xs : List ℕ) (at : ℕ) → AreNumbered count xs → AreNumbered count (remove xs at)
numbered_less count xs at h = record { rising = rising_remove nat_lt xs at h.rising; sent = all_remove (λ n. n ≤ count) xs at h.sent }

-- one more message, and its number
pub more_sent : (count : ℕ) (xs : List ℕ) → AreNumbered count xs → AreNumbered (count + 1) xs
more_sent count xs h = record { rising = h.rising; sent = all_weaker (λ n. n ≤ count) (λ n. n ≤ count + 1) (λ n l. omega arith) xs h.sent }

pub numbered_more : (count : ℕ) (xs : List ℕ) → AreNumbered count xs → AreNumbered (count + 1) (xs ++ (count + 1) ∷ [])
numbered_more count xs h =
    record {
      rising = rising_more nat_lt (count + 1) xs h.rising (all_weaker (λ n. n ≤ count) (λ n. nat_lt n (count + 1) ≡ true) (λ n l. grind (arith, nat_tests)) xs h.sent);
      sent = all_append (λ n. n ≤ count + 1) xs ((count + 1) ∷ []) (more_sent count xs h).sent (omega arith, tt);
    }

pub numbered_pushed : (count : ℕ) (xs ys : List ℕ) (long n : ℕ) → AreNumbered count xs → long ≡ count + 1 → n ≡ long → ys ≡ xs ++ n ∷ [] → AreNumbered long ys
numbered_pushed count xs ys long n h is_long is_n is = subst (AreNumbered long) (sym (is ∙ ap (λ k. xs ++ k ∷ []) (is_n ∙ is_long))) (subst (λ c. AreNumbered c (xs ++ (count + 1) ∷ [])) (sym is_long) (numbered_more count xs h))
