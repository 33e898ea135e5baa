-- What a piece touches: the columns that it accesses, and the names that it uses or binds
use Rattle.std.proofs.Common.{◌≡◌, ℕ, Bool, true, false, ◌&&◌, ◌||◌, ◌==◌, List, [], ◌∷◌, refl, sym, ◌∙◌, inl, inr}
use Rattle.std.specs.List.{list_any}
use Rattle.std.proofs.lemmas.Bool.{false≢true, or_cases, or_left, or_right}
use Rattle.roc_rows.specs.declared.cell.Cell.{Cell}
use Rattle.roc_program.specs.Program.{Access, Statement, Get, Set, Out, Piece}
use Rattle.roc_program.specs.Names.{uses, statement_uses}

-- the cell is of the access's table and column
abbrev pub is_of : Access → Cell → Bool
is_of a c = (a.table == c.table) && (a.column == c.column)

abbrev pub accesses : Statement → Cell → Bool
accesses (Get number from) c = is_of from c
accesses (Set to value) c = is_of to c
accesses (Out value) c = false

abbrev pub may_write : Statement → Cell → Bool
may_write (Get number from) c = false
may_write (Set to value) c = is_of to c
may_write (Out value) c = false

abbrev pub binds : Statement → ℕ → Bool
binds (Get number from) n = number == n
binds (Set to value) n = false
binds (Out value) n = false

abbrev pub knows : Statement → ℕ → Bool
knows s n = statement_uses s n || binds s n

-- the same of a piece
abbrev pub touches : Piece → Cell → Bool
touches piece c = list_any (λ s. accesses s c) piece.body

abbrev pub writes : Piece → Cell → Bool
writes piece c = list_any (λ s. may_write s c) piece.body

abbrev pub binds_in : Piece → ℕ → Bool
binds_in piece n = list_any (λ s. binds s n) piece.body

abbrev pub known_in : Piece → ℕ → Bool
known_in piece n = uses piece.place n || list_any (λ s. knows s n) piece.body

-- the same of pieces by number
abbrev pub binds_any : (ℕ → Piece) → List ℕ → ℕ → Bool
binds_any at ks n = list_any (λ k. binds_in (at k) n) ks

abbrev pub knows_any : (ℕ → Piece) → List ℕ → ℕ → Bool
knows_any at ks n = list_any (λ k. known_in (at k) n) ks

-- ---- tests of lists

-- where one test follows from another, so do the tests of lists
pub any_implied : {A : Type 0} (f g : A → Bool) → ((x : A) → f x ≡ true → g x ≡ true) → (xs : List A) → list_any f xs ≡ true → list_any g xs ≡ true
any_implied f g h [] e = absurd (false≢true e)
any_implied f g h (x ∷ xs) e =
    elim (or_cases (f x) (list_any f xs) e) [
      | inl k ↦ or_left (g x) (list_any g xs) (h x k)
      | inr k ↦ or_right (g x) (list_any g xs) (any_implied f g h xs k)
    ]

pub not_implied : (a b : Bool) → (a ≡ true → b ≡ true) → b ≡ false → a ≡ false
not_implied true b h e = absurd (false≢true (sym e ∙ h refl))
not_implied false b h e = refl

written_accessed : (c : Cell) (s : Statement) → may_write s c ≡ true → accesses s c ≡ true
written_accessed c (Get number from) e = absurd (false≢true e)
written_accessed c (Set to value) e = e
written_accessed c (Out value) e = absurd (false≢true e)

pub bound_known : (piece : Piece) (n : ℕ) → binds_in piece n ≡ true → known_in piece n ≡ true
bound_known piece n h = or_right (uses piece.place n) (list_any (λ s. knows s n) piece.body) (any_implied (λ s. binds s n) (λ s. knows s n) (λ s. or_right (statement_uses s n) (binds s n)) piece.body h)

-- what is not touched is not written, and what is not known is not bound
pub untouched : (piece : Piece) (c : Cell) → touches piece c ≡ false → writes piece c ≡ false
untouched piece c e = not_implied (writes piece c) (touches piece c) (any_implied (λ s. may_write s c) (λ s. accesses s c) (written_accessed c) piece.body) e

pub unknown : (piece : Piece) (n : ℕ) → known_in piece n ≡ false → binds_in piece n ≡ false
unknown piece n e =
    not_implied (binds_in piece n) (known_in piece n)
    (bound_known piece n) e

pub not_true : (b : Bool) → ¬ (b ≡ true) → b ≡ false
not_true true h = absurd (h refl)
not_true false h = refl
