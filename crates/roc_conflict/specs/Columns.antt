-- Which columns pieces access and which they write, gathered: a table of each, by table and column
use Rattle.std.specs.Prelude.{◌≡◌, ℕ, Bool, false, List, slice_index_or, []}
use Rattle.std.specs.List.{list_any}
use Rattle.roc_program.specs.Program.{Statement, Get, Set, Out, Workload}
use Rattle.roc_program.specs.Conflict.{are_in_conflict, exposed}
use Rattle.roc_program.specs.declared.piece_id.PieceId.{PieceId}
use Rattle.roc_conflict.specs.declared.columns.Columns.{Columns}
use Rattle.roc_conflict.specs.Contended.{has_conflict}

-- a table tells of this column that it is meant
abbrev pub has_column : List (List Bool) → (table column : ℕ) → Bool
has_column columns table column = slice_index_or (slice_index_or columns table []) column false

-- a statement collides with some that access and write these columns: it reads what they write, or it writes what they access
abbrev pub meets : Columns → Statement → Bool
meets columns (Get number a) = has_column columns.written a.table a.column
meets columns (Set a value) = has_column columns.touched a.table a.column
meets columns (Out value) = false

-- one of the statements that a piece exposes does
abbrev pub piece_meets : Workload → Columns → PieceId → Bool
piece_meets program columns id = list_any (meets columns) (exposed program id)

-- these are the columns of a piece: who meets them is in conflict with it
abbrev pub AreOf : Workload → PieceId → Columns → Type 0
AreOf program id columns = (other : PieceId) → piece_meets program columns other ≡ are_in_conflict program id other

-- these are the columns of all pieces: who meets them is in conflict with a piece
abbrev pub AreAll : Workload → Columns → Type 0
AreAll program columns = (id : PieceId) → piece_meets program columns id ≡ has_conflict program id
