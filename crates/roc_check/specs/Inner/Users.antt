-- Of each column of a program the pieces that access it or write it: a set of pieces for each column, table by table
use Rattle.std.specs.Prelude.{◌≡◌, ℕ, ◌+◌, ◌*◌, ◌<◌, Bool, false, not, ◌&&◌, ◌||◌, ◌==◌, List, [], length, slice_index_or}
use Rattle.std.specs.List.{list_any}
use Rattle.roc_program.specs.Program.{Access, Statement, Get, Set, Out, Workload}
use Rattle.roc_program.specs.Conflict.{exposed}
use Rattle.roc_program.specs.declared.piece_id.PieceId.{PieceId}
use Rattle.roc_check.specs.Inner.PieceSets.{holds, is_piece}

abbrev pub is_at : (table column : ℕ) → Access → Bool
is_at table column a = (table == a.table) && (column == a.column)

-- a statement accesses this column; where writes alone count, it writes it
abbrev pub counts : (writes_alone : Bool) → (table column : ℕ) → Statement → Bool
counts writes_alone table column (Get number a) = not writes_alone && is_at table column a
counts writes_alone table column (Set a value) = is_at table column a
counts writes_alone table column (Out value) = false

-- the piece is among those of the column
abbrev pub is_user : List (List ℕ) → (table column : ℕ) → PieceId → Bool
is_user sets table column id = holds (slice_index_or sets (table * 16 + column) []) id

-- by the pieces that access each column and those that write it, one of the piece's statements collides with this one
abbrev pub meets_by : (touched written : List (List ℕ)) → Statement → PieceId → Bool
meets_by touched written (Get number a) id = is_user written a.table a.column id
meets_by touched written (Set a value) id = is_user touched a.table a.column id
meets_by touched written (Out value) id = false

-- a piece was added to the columns that these statements use
pub record Marks (writes_alone : Bool) (id : PieceId) (old new : List (List ℕ)) (statements : List Statement) : Type 0 where
  pub long : length new ≡ length old
  pub exact : (table column : ℕ) (other : PieceId) → table < 64 → column < 16
      → is_user new table column other ≡ (is_user old table column other || (is_piece other id && list_any (counts writes_alone table column) statements))

-- the pieces that pass a test were added to the columns that they use
pub record Adds (program : Workload) (writes_alone : Bool) (old new : List (List ℕ)) (test : PieceId → Bool) : Type 0 where
  pub long : length new ≡ length old
  pub exact : (table column : ℕ) (id : PieceId) → table < 64 → column < 16
      → is_user new table column id ≡ (is_user old table column id || (test id && list_any (counts writes_alone table column) (exposed program id)))

-- the sets are those of all pieces
pub record AreUsers (program : Workload) (writes_alone : Bool) (sets : List (List ℕ)) : Type 0 where
  pub exact : (table column : ℕ) (id : PieceId) → table < 64 → column < 16 → is_user sets table column id ≡ list_any (counts writes_alone table column) (exposed program id)
