-- Columns of more and more statements
use Rattle.std.specs.Prelude.{◌≡◌, ℕ, Bool, false, ◌&&◌, ◌||◌, ◌==◌, ◌<◌, List}
use Rattle.std.specs.List.{list_any}
use Rattle.roc_program.specs.Program.{Access, Statement, Get, Set, Out}
use Rattle.roc_conflict.specs.declared.columns.Columns.{Columns}
use Rattle.roc_conflict.specs.Columns.{has_column}

abbrev pub is_at : (table column : ℕ) → Access → Bool
is_at table column a = (table == a.table) && (column == a.column)

-- a statement accesses this column
abbrev pub touches : (table column : ℕ) → Statement → Bool
touches table column (Get number a) = is_at table column a
touches table column (Set a value) = is_at table column a
touches table column (Out value) = false

-- a statement writes it
abbrev pub writes : (table column : ℕ) → Statement → Bool
writes table column (Get number a) = false
writes table column (Set a value) = is_at table column a
writes table column (Out value) = false

-- of columns within the limits of the language, a table tells also of those for which one of these statements passes the test
abbrev pub Gathers : (test : ℕ → ℕ → Statement → Bool) → (old new : List (List Bool)) → List Statement → Type 0
Gathers test old new statements =
    (table column : ℕ) → table < 64 → column < 16 → has_column new table column ≡ (has_column old table column || list_any (test table column) statements)

-- both tables do
pub record AddsStatements (old new : Columns) (statements : List Statement) : Type 0 where
  pub touched : Gathers touches old.touched new.touched statements
  pub written : Gathers writes old.written new.written statements
