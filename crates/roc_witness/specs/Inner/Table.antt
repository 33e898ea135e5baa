-- Which pieces a fixed C-edge joins, looked up by number
use Rattle.std.specs.Prelude.{◌≡◌, ℕ, ◌+◌, ◌*◌, ◌/◌, ◌%◌, Bool, false, not, ◌&&◌, ◌==◌, List, [], length, map, slice_index_or, if◌then◌else◌}
use Rattle.std.specs.List.{range_with_len}
use Rattle.roc_program.specs.Program.{Workload}
use Rattle.roc_program.specs.Pieces.{HasPiece}
use Rattle.roc_program.specs.Conflict.{are_in_conflict}
use Rattle.roc_program.specs.declared.piece_id.PieceId.{PieceId}
use Rattle.roc_scgraph.specs.declared.vertex.Vertex.{Vertex}
use Rattle.roc_scgraph.specs.Graph.{piece_id, are_siblings}

-- pieces by one number: sixteen for each procedure
abbrev pub piece_number : PieceId → ℕ
piece_number id = 16 * id.proc + id.piece

abbrev pub numbered_piece : ℕ → PieceId
numbered_piece n = record { proc = n / 16; piece = n % 16 }

-- immediate pieces that conflict
abbrev pub meet : Workload → (PieceId → Bool) → PieceId → PieceId → Bool
meet program is_immediate a b = (is_immediate a && is_immediate b) && are_in_conflict program a b

-- of each piece whether it meets each other one
abbrev pub row_for : Workload → (PieceId → Bool) → PieceId → ℕ → List Bool
row_for program is_immediate a count = map (λ n. meet program is_immediate a (numbered_piece n)) (range_with_len 0 count)

abbrev pub table_of : Workload → (PieceId → Bool) → List (List Bool)
table_of program is_immediate =
    let count = 16 * length program.procedures in
    map (λ n. row_for program is_immediate (numbered_piece n) count) (range_with_len 0 count)

-- what the table says of two pieces
abbrev pub are_met : List (List Bool) → PieceId → PieceId → Bool
are_met table a b = slice_index_or (slice_index_or table (piece_number a) []) (piece_number b) false

-- what it says of an edge between two vertices
abbrev pub joins : List (List Bool) → Vertex → Vertex → Bool
joins table a b = if are_siblings a b then not (a.piece == b.piece) else are_met table (piece_id a) (piece_id b)

-- what a table says of two pieces of the program is so
abbrev pub IsTableOf : Workload → (PieceId → Bool) → List (List Bool) → Type 0
IsTableOf program is_immediate table = (a b : PieceId) → HasPiece program a → HasPiece program b → are_met table a b ≡ meet program is_immediate a b
