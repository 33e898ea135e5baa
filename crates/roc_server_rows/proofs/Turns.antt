-- Rows by turn: one that gets a list stands last, and one that loses it is left out
use Rattle.std.proofs.Common.{◌≡◌, ◌≢◌, ◌<◌, ◌≤◌, ℕ, zero, suc, Bool, true, false, cond, List, [], ◌∷◌, ◌++◌, length, set, filter, refl, sym, ap, ◌∙◌, arith}
use Rattle.std.proofs.lemmas.Bool.Decides.{nat_tests}
use Rattle.std.specs.Prelude.{nat_lt}
use Rattle.std.specs.List.{AllByRecursion}
use Rattle.roc_server_rows.specs.declared.rows.Row.{Row}
use Rattle.roc_server_rows.specs.Rows.{is_told, put_row, rows_in_turn, row_in}

lt_true : (a b : ℕ) → a < b → nat_lt a b ≡ true
lt_true a b h = grind (arith, nat_tests)

lt_false : (a b : ℕ) → b ≤ a → nat_lt a b ≡ false
lt_false a b h = grind (arith, nat_tests)

lt_from : (a b : ℕ) → nat_lt a b ≡ true → a < b
lt_from a b h = grind (arith, nat_tests)

lt_not : (a b : ℕ) → nat_lt a b ≡ false → b ≤ a
lt_not a b h = grind (arith, nat_tests)

-- ---- all rows that have lists

-- what holds of the rows that have lists holds of them in turn
module _ (P : Row → Type 0) where
  pub put_all : (r : Row) (ss : List Row) → P r → AllByRecursion P ss → AllByRecursion P (put_row r ss)
  put_all r [] p a = (p, tt)
  put_all r (s ∷ ss) p a = go (nat_lt r.turn s.turn) (put_all r ss p a.1)
    where
      go : (b : Bool) → AllByRecursion P (put_row r ss) → AllByRecursion P (cond b (r ∷ s ∷ ss) (s ∷ put_row r ss))
      go true h = (p, a)
      go false h = (a.0, h)

  pub turn_all : (rs : List Row) → ((n : ℕ) → is_told (row_in rs n) ≡ true → P (row_in rs n)) → AllByRecursion P (rows_in_turn rs)
  turn_all [] h = tt
  turn_all (r ∷ rs) h = go (is_told r) refl (turn_all rs (λ n. h (suc n)))
    where
      go : (b : Bool) → is_told r ≡ b → AllByRecursion P (rows_in_turn rs) → AllByRecursion P (cond b (put_row r (rows_in_turn rs)) (rows_in_turn rs))
      go true e a = put_all r (rows_in_turn rs) (h zero e) a
      go false e a = a

-- ---- a row that has a list now, of the last turn

abbrev IsEarlier : ℕ → Row → Type 0
IsEarlier turn s = s.turn < turn

put_last : (r : Row) (ss : List Row) → AllByRecursion (IsEarlier r.turn) ss → put_row r ss ≡ ss ++ r ∷ []
put_last r [] a = refl
put_last r (s ∷ ss) a =
    ap (λ b. cond b (r ∷ s ∷ ss) (s ∷ put_row r ss)) (lt_false r.turn s.turn (omega (arith, a.0))) ∙ ap (λ l. s ∷ l) (put_last r ss a.1)

put_front : (x r : Row) (ss : List Row) → x.turn < r.turn → put_row x (ss ++ r ∷ []) ≡ put_row x ss ++ r ∷ []
put_front x r [] h = ap (λ b. cond b (x ∷ r ∷ []) (r ∷ x ∷ [])) (lt_true x.turn r.turn h)
put_front x r (s ∷ ss) h = go (nat_lt x.turn s.turn) (put_front x r ss h)
  where
    go : (b : Bool) → put_row x (ss ++ r ∷ []) ≡ put_row x ss ++ r ∷ []
        → cond b (x ∷ s ∷ (ss ++ r ∷ [])) (s ∷ put_row x (ss ++ r ∷ [])) ≡ cond b (x ∷ s ∷ ss) (s ∷ put_row x ss) ++ r ∷ []
    go true e = refl
    go false e = ap (λ l. s ∷ l) e

pub turn_last : (rs : List Row) (n : ℕ) (r : Row) → n < length rs → is_told (row_in rs n) ≡ false → is_told r ≡ true
    → ((k : ℕ) → (row_in rs k).turn < r.turn) → rows_in_turn (set rs n r) ≡ rows_in_turn rs ++ r ∷ []
turn_last [] n r h u t a = absurd (omega arith)
turn_last (x ∷ xs) zero r h u t a =
    ap (λ b. cond b (put_row r (rows_in_turn xs)) (rows_in_turn xs)) t ∙ (put_last r (rows_in_turn xs) (turn_all (IsEarlier r.turn) xs (λ k e. a (suc k)))
    ∙ ap (λ b. cond b (put_row x (rows_in_turn xs)) (rows_in_turn xs) ++ r ∷ []) (sym u))
turn_last (x ∷ xs) (suc n) r h u t a = go (is_told x) (turn_last xs n r (omega arith) u t (λ k. a (suc k)))
  where
    go : (b : Bool) → rows_in_turn (set xs n r) ≡ rows_in_turn xs ++ r ∷ []
        → cond b (put_row x (rows_in_turn (set xs n r))) (rows_in_turn (set xs n r)) ≡ cond b (put_row x (rows_in_turn xs)) (rows_in_turn xs) ++ r ∷ []
    go true e = ap (put_row x) e ∙ put_front x r (rows_in_turn xs) (a zero)
    go false e = e

-- ---- a row without a list, before and after

pub turn_same : (rs : List Row) (n : ℕ) (r : Row) → is_told (row_in rs n) ≡ false → is_told r ≡ false → rows_in_turn (set rs n r) ≡ rows_in_turn rs
turn_same [] n r u t = refl
turn_same (x ∷ xs) zero r u t = ap (λ b. cond b (put_row r (rows_in_turn xs)) (rows_in_turn xs)) t ∙ ap (λ b. cond b (put_row x (rows_in_turn xs)) (rows_in_turn xs)) (sym u)
turn_same (x ∷ xs) (suc n) r u t = ap (λ l. cond (is_told x) (put_row x l) l) (turn_same xs n r u t)

pub turn_more : (rs : List Row) (r : Row) → is_told r ≡ false → rows_in_turn (rs ++ r ∷ []) ≡ rows_in_turn rs
turn_more [] r t = ap (λ b. cond b (r ∷ []) []) t
turn_more (x ∷ xs) r t = ap (λ l. cond (is_told x) (put_row x l) l) (turn_more xs r t)

-- ---- a row loses its list

-- none is before those in front of it
abbrev IsFrom : ℕ → Row → Type 0
IsFrom turn s = turn ≤ s.turn

abbrev IsSorted : List Row → Type 0
IsSorted [] = Unit {0}
IsSorted (r ∷ rs) = AllByRecursion (IsFrom r.turn) rs × IsSorted rs

from_lower : (a b : ℕ) (ss : List Row) → a ≤ b → AllByRecursion (IsFrom b) ss → AllByRecursion (IsFrom a) ss
from_lower a b [] h p = tt
from_lower a b (s ∷ ss) h p = (omega (arith, p.0), from_lower a b ss h p.1)

put_sorted : (r : Row) (ss : List Row) → IsSorted ss → IsSorted (put_row r ss)
put_sorted r [] s = (tt, tt)
put_sorted r (x ∷ xs) s = go (nat_lt r.turn x.turn) refl (put_sorted r xs s.1)
  where
    go : (b : Bool) → nat_lt r.turn x.turn ≡ b → IsSorted (put_row r xs) → IsSorted (cond b (r ∷ x ∷ xs) (x ∷ put_row r xs))
    go true e h = ((omega (arith, lt_from r.turn x.turn e), from_lower r.turn x.turn xs (omega (arith, lt_from r.turn x.turn e)) s.0), s)
    go false e h = (put_all (IsFrom x.turn) r xs (lt_not r.turn x.turn e) s.0, h)

turn_sorted : (rs : List Row) → IsSorted (rows_in_turn rs)
turn_sorted [] = tt
turn_sorted (r ∷ rs) = go (is_told r) (turn_sorted rs)
  where
    go : (b : Bool) → IsSorted (rows_in_turn rs) → IsSorted (cond b (put_row r (rows_in_turn rs)) (rows_in_turn rs))
    go true h = put_sorted r (rows_in_turn rs) h
    go false h = h

module _ (p : Row → Bool) where
  put_first : (r : Row) (ss : List Row) → AllByRecursion (λ s. r.turn < s.turn) ss → put_row r ss ≡ r ∷ ss
  put_first r [] a = refl
  put_first r (s ∷ ss) a = ap (λ b. cond b (r ∷ s ∷ ss) (s ∷ put_row r ss)) (lt_true r.turn s.turn a.0)

  filter_all : (Q : Row → Type 0) (ss : List Row) → AllByRecursion Q ss → AllByRecursion Q (filter p ss)
  filter_all Q [] a = tt
  filter_all Q (s ∷ ss) a = go (p s) (filter_all Q ss a.1)
    where
      go : (b : Bool) → AllByRecursion Q (filter p ss) → AllByRecursion Q (cond b (s ∷ filter p ss) (filter p ss))
      go true h = (a.0, h)
      go false h = h

  above : (a b : ℕ) (ss : List Row) → a < b → AllByRecursion (IsFrom b) ss → AllByRecursion (λ s. a < s.turn) ss
  above a b [] h q = tt
  above a b (s ∷ ss) h q = (omega (arith, q.0), above a b ss h q.1)

  put_kept : (r : Row) (ss : List Row) → IsSorted ss → p r ≡ true → filter p (put_row r ss) ≡ put_row r (filter p ss)
  put_kept r [] s e = ap (λ b. cond b (r ∷ []) []) e
  put_kept r (x ∷ xs) s e = go (nat_lt r.turn x.turn) (p x) refl refl (put_kept r xs s.1 e)
    where
      go : (b k : Bool) → nat_lt r.turn x.turn ≡ b → p x ≡ k → filter p (put_row r xs) ≡ put_row r (filter p xs)
          → filter p (cond b (r ∷ x ∷ xs) (x ∷ put_row r xs)) ≡ put_row r (cond k (x ∷ filter p xs) (filter p xs))
      go true true l k h =
          ap (λ b. cond b (r ∷ filter p (x ∷ xs)) (filter p (x ∷ xs))) e
          ∙ (ap (λ b. r ∷ cond b (x ∷ filter p xs) (filter p xs)) k
          ∙ sym (ap (λ b. cond b (r ∷ x ∷ filter p xs) (x ∷ put_row r (filter p xs))) l))
      go true false l k h =
          ap (λ b. cond b (r ∷ filter p (x ∷ xs)) (filter p (x ∷ xs))) e
          ∙ (ap (λ b. r ∷ cond b (x ∷ filter p xs) (filter p xs)) k
          ∙ sym (put_first r (filter p xs) (filter_all (λ s. r.turn < s.turn) xs (above r.turn x.turn xs (lt_from r.turn x.turn l) s.0))))
      go false true l k h =
          ap (λ b. cond b (x ∷ filter p (put_row r xs)) (filter p (put_row r xs))) k
          ∙ (ap (λ l. x ∷ l) h ∙ sym (ap (λ b. cond b (r ∷ x ∷ filter p xs) (x ∷ put_row r (filter p xs))) l))
      go false false l k h = ap (λ b. cond b (x ∷ filter p (put_row r xs)) (filter p (put_row r xs))) k ∙ h

  put_lost : (r : Row) (ss : List Row) → p r ≡ false → filter p (put_row r ss) ≡ filter p ss
  put_lost r [] e = ap (λ b. cond b (r ∷ []) []) e
  put_lost r (x ∷ xs) e = go (nat_lt r.turn x.turn) (put_lost r xs e)
    where
      go : (b : Bool) → filter p (put_row r xs) ≡ filter p xs → filter p (cond b (r ∷ x ∷ xs) (x ∷ put_row r xs)) ≡ filter p (x ∷ xs)
      go true h = ap (λ b. cond b (r ∷ filter p (x ∷ xs)) (filter p (x ∷ xs))) e
      go false h = ap (λ l. cond (p x) (x ∷ l) l) h

  -- all that have lists pass
  pub turn_kept : (rs : List Row) → ((n : ℕ) → is_told (row_in rs n) ≡ true → p (row_in rs n) ≡ true) → filter p (rows_in_turn rs) ≡ rows_in_turn rs
  turn_kept [] h = refl
  turn_kept (r ∷ rs) h = go (is_told r) refl (turn_kept rs (λ n. h (suc n)))
    where
      go : (b : Bool) → is_told r ≡ b → filter p (rows_in_turn rs) ≡ rows_in_turn rs
          → filter p (cond b (put_row r (rows_in_turn rs)) (rows_in_turn rs)) ≡ cond b (put_row r (rows_in_turn rs)) (rows_in_turn rs)
      go true e i = put_kept r (rows_in_turn rs) (turn_sorted rs) (h zero e) ∙ ap (put_row r) i
      go false e i = i

  -- all but the one that loses its list pass
  pub turn_without : (rs : List Row) (n : ℕ) (v : Row) → n < length rs → is_told v ≡ false → p (row_in rs n) ≡ false
      → ((k : ℕ) → k ≢ n → is_told (row_in rs k) ≡ true → p (row_in rs k) ≡ true) → rows_in_turn (set rs n v) ≡ filter p (rows_in_turn rs)
  turn_without [] n v h u e a = absurd (omega arith)
  turn_without (x ∷ xs) zero v h u e a =
      ap (λ b. cond b (put_row v (rows_in_turn xs)) (rows_in_turn xs)) u ∙ (sym (turn_kept xs (λ k. a (suc k) (λ z. absurd (omega arith)))) ∙ go (is_told x))
    where
      go : (b : Bool) → filter p (rows_in_turn xs) ≡ filter p (cond b (put_row x (rows_in_turn xs)) (rows_in_turn xs))
      go true = sym (put_lost x (rows_in_turn xs) e)
      go false = refl
  turn_without (x ∷ xs) (suc n) v h u e a = go (is_told x) refl (turn_without xs n v (omega arith) u e (λ k z. a (suc k) (λ y. z (omega arith))))
    where
      go : (b : Bool) → is_told x ≡ b → rows_in_turn (set xs n v) ≡ filter p (rows_in_turn xs)
          → cond b (put_row x (rows_in_turn (set xs n v))) (rows_in_turn (set xs n v)) ≡ filter p (cond b (put_row x (rows_in_turn xs)) (rows_in_turn xs))
      go true t i = ap (put_row x) i ∙ sym (put_kept x (rows_in_turn xs) (turn_sorted xs) (a zero (λ z. absurd (omega arith)) t))
      go false t i = i
