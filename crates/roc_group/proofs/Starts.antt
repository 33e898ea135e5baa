-- The names that a group knows before it runs are those that all pieces before it left
use Rattle.std.proofs.Common.{◌≡◌, ℕ, suc, ◌<◌, ◌+◌, ℤ, pos, Bool, true, false, cond, not, ◌||◌, ◌==◌, List, [], ◌∷◌, length, map, filter, get_or, slice_set, refl, sym, ap, subst, ◌∙◌, ◌⊎◌, inl, inr, arith}
use Rattle.std.proofs.lemmas.Bool.{false≢true, or_cases, eqb-true, eq-eqb, or_left, or_right}
use Rattle.std.proofs.lemmas.List.{length-set, get_or-set_other, get_or-set_same}
use Rattle.std.specs.Bool.{nat_lt}
use Rattle.std.specs.List.{list_any, filter_map, position_or_len}
use Rattle.roc_sequence.specs.Lists.{Has}
use Rattle.roc_sequence.specs.Rising.{IsRising}
use Rattle.roc_sequence.proofs.Holds.{all_has, has_all}
use Rattle.roc_sequence.proofs.Members.{from_has_filter}
use Rattle.roc_program.specs.Program.{Statement, Get, Set, Out, Piece}
use Rattle.roc_program.specs.Values.{Environment, value_of_name}
use Rattle.roc_program.specs.Names.{uses, statement_uses, piece_uses, binding, bindings_of, has_name}
use Rattle.roc_plan.specs.Groups.{with_values}
use Rattle.roc_merge_groups.proofs.Elements.{numbers_one_way}
use Rattle.roc_group.proofs.Touches.{binds, knows, binds_in, known_in}

-- ---- names of a piece, in the two ways of saying it

body_bound : (body : List Statement) (n : ℕ) → list_any (λ s. binds s n) body ≡ has_name (filter_map binding body) n
body_bound [] n = refl
body_bound (Get number from ∷ ss) n = ap (λ b. (number == n) || b) (body_bound ss n)
body_bound (Set to v ∷ ss) n = body_bound ss n
body_bound (Out v ∷ ss) n = body_bound ss n

pub bound_named : (piece : Piece) (n : ℕ) → binds_in piece n ≡ has_name (bindings_of piece) n
bound_named piece n = body_bound piece.body n

any_knows : (body : List Statement) (n : ℕ) → list_any (λ s. knows s n) body ≡ true → (list_any (λ s. statement_uses s n) body ≡ true) ⊎ (list_any (λ s. binds s n) body ≡ true)
any_knows [] n e = absurd (false≢true e)
any_knows (s ∷ ss) n e =
    elim (or_cases (knows s n) (list_any (λ s. knows s n) ss) e) [
      | inl k ↦ elim (or_cases (statement_uses s n) (binds s n) k) [
        | inl u ↦ inl (or_left (statement_uses s n) (list_any (λ s. statement_uses s n) ss) u)
        | inr b ↦ inr (or_left (binds s n) (list_any (λ s. binds s n) ss) b)
      ]
      | inr k ↦ elim (any_knows ss n k) [
        | inl u ↦ inl (or_right (statement_uses s n) (list_any (λ s. statement_uses s n) ss) u)
        | inr b ↦ inr (or_right (binds s n) (list_any (λ s. binds s n) ss) b)
      ]
    ]

pub used_or_bound : (piece : Piece) (n : ℕ) → known_in piece n ≡ true → (piece_uses piece n ≡ true) ⊎ (binds_in piece n ≡ true)
used_or_bound piece n e =
    elim (or_cases (uses piece.place n) (list_any (λ s. knows s n) piece.body) e) [
      | inl u ↦ inl (or_left (uses piece.place n) (list_any (λ s. statement_uses s n) piece.body) u)
      | inr k ↦ elim (any_knows piece.body n k) [
        | inl u ↦ inl (or_right (uses piece.place n) (list_any (λ s. statement_uses s n) piece.body) u)
        | inr b ↦ inr b
      ]
    ]

-- ---- values that are set by name

-- a name that is none of these keeps its value
pub values_other : (names : List ℕ) (values : List ℤ) (env : Environment) (n : ℕ) → ¬ Has n names → value_of_name (with_values names values env) n ≡ value_of_name env n
values_other [] values env n h = refl
values_other (m ∷ ms) [] env n h = refl
values_other (m ∷ ms) (v ∷ vs) env n h =
    values_other ms vs (slice_set env m v) n (λ k. h (inr k)) ∙ get_or-set_other env m n v (pos 0) (λ e. h (inl e))

-- a name of these has the value that is set
pub values_here : (names : List ℕ) (f : ℕ → ℤ) (env : Environment) (n : ℕ) → IsRising nat_lt names → Has n names → n < length env → value_of_name (with_values names (map f names) env) n ≡ f n
values_here [] f env n r h l = absurd h
values_here (m ∷ ms) f env n r (inl e) l =
    values_other ms (map f ms) (slice_set env m (f m)) n (λ k. let t = all_has (λ z. nat_lt m z ≡ true) n ms r.0 k in let u : nat_lt n n ≡ true = subst (λ z. nat_lt z n ≡ true) (sym e) t in numbers_one_way n n u u)
    ∙ ap (λ z. get_or (slice_set env z (f z)) n (pos 0)) (sym e)
    ∙ get_or-set_same env n (f n) (pos 0) l
values_here (m ∷ ms) f env n r (inr h) l =
    values_here ms f (slice_set env m (f m)) n r.1 h (let k = length-set env m (f m) in omega (arith, k, l))

-- ---- places in lists

pub rising_filter : (p : ℕ → Bool) (xs : List ℕ) → IsRising nat_lt xs → IsRising nat_lt (filter p xs)
rising_filter p [] r = tt
rising_filter p (x ∷ xs) r = go (p x) (rising_filter p xs r.1)
  where
    go : (b : Bool) → IsRising nat_lt (filter p xs) → IsRising nat_lt (cond b (x ∷ filter p xs) (filter p xs))
    go true s = (has_all (λ z. nat_lt x z ≡ true) (filter p xs) (λ z h. all_has (λ z. nat_lt x z ≡ true) z xs r.0 ((from_has_filter p z xs h).0)), s)
    go false s = s

-- the place at which a name stands in a list
pub at_position : (xs : List ℕ) (n : ℕ) → Has n xs → get_or xs (position_or_len (λ m. m == n) xs) 0 ≡ n
at_position [] n h = absurd h
at_position (x ∷ xs) n h = go (x == n) refl h (at_position xs n)
  where
    go : (b : Bool) → (x == n) ≡ b → Has n (x ∷ xs) → (Has n xs → get_or xs (position_or_len (λ m. m == n) xs) 0 ≡ n) → get_or (x ∷ xs) (cond (not b) (1 + position_or_len (λ m. m == n) xs) 0) 0 ≡ n
    go true e k ih = eqb-true x n e
    go false e (inl k) ih = absurd (false≢true (sym e ∙ eq-eqb x n (sym k)))
    go false e (inr k) ih = let next : 1 + position_or_len (λ m. m == n) xs ≡ suc (position_or_len (λ m. m == n) xs) = omega arith in ap (λ i. get_or (x ∷ xs) i 0) next ∙ ih k

pub position_within : (xs : List ℕ) (n : ℕ) → Has n xs → position_or_len (λ m. m == n) xs < length xs
position_within [] n h = absurd h
position_within (x ∷ xs) n h = go (x == n) refl h (position_within xs n)
  where
    go : (b : Bool) → (x == n) ≡ b → Has n (x ∷ xs) → (Has n xs → position_or_len (λ m. m == n) xs < length xs) → cond (not b) (1 + position_or_len (λ m. m == n) xs) 0 < suc (length xs)
    go true e k ih = omega arith
    go false e (inl k) ih = absurd (false≢true (sym e ∙ eq-eqb x n (sym k)))
    go false e (inr k) ih = let l = ih k in omega (arith, l)
