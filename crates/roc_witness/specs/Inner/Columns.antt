-- Which columns a piece accesses, looked up by number
use Rattle.std.specs.Prelude.{◌≡◌, ℕ, ◌+◌, ◌*◌, ◌/◌, ◌%◌, Bool, false, ◌&&◌, ◌==◌, List, length, map, slice_index_or}
use Rattle.std.specs.List.{list_any, range_with_len}
use Rattle.roc_program.specs.Program.{Access, Statement, Get, Set, Out, Workload}
use Rattle.roc_program.specs.Conflict.{exposed}
use Rattle.roc_program.specs.declared.piece_id.PieceId.{PieceId}
use Rattle.roc_witness.specs.declared.columns.Columns.{Columns}
use Rattle.roc_witness.specs.Inner.Table.{numbered_piece}

-- columns by one number: sixteen for each table
abbrev pub column_of : Access → ℕ
column_of a = 16 * a.table + a.column

abbrev pub is_at : ℕ → Access → Bool
is_at n a = (n / 16 == a.table) && (n % 16 == a.column)

abbrev pub touches : ℕ → Statement → Bool
touches n (Get number a) = is_at n a
touches n (Set a value) = is_at n a
touches n (Out value) = false

abbrev pub writes : ℕ → Statement → Bool
writes n (Get number a) = false
writes n (Set a value) = is_at n a
writes n (Out value) = false

-- of each of the first columns whether a statement of these passes the test for it
abbrev pub marks : (ℕ → Statement → Bool) → List Statement → ℕ → List Bool
marks test body count = map (λ n. list_any (test n) body) (range_with_len 0 count)

-- of each column whether what a piece exposes accesses it, and whether it writes it
abbrev pub gathered_columns : Workload → PieceId → Columns
gathered_columns program id =
    let body = exposed program id in
    let count = 16 * length program.tables in
    record { piece = id; touched = marks touches body count; written = marks writes body count }

-- a statement collides with one of the piece that has these columns
abbrev pub collides : Columns → Statement → Bool
collides columns (Get number a) = slice_index_or columns.written (column_of a) false
collides columns (Set a value) = slice_index_or columns.touched (column_of a) false
collides columns (Out value) = false

-- those of the pieces of the first numbers
abbrev pub AreColumns : Workload → List Columns → Type 0
AreColumns program all = all ≡ map (λ n. gathered_columns program (numbered_piece n)) (range_with_len 0 (length all))
