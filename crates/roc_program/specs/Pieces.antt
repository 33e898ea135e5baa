-- The pieces of a program, by number
use Rattle.std.specs.Prelude.{ℕ, ◌<◌, List, length, map, slice_index_or}
use Rattle.std.specs.List.{flat_map, range_with_len}
use Rattle.roc_program.specs.Program.{Workload, Piece}
use Rattle.roc_program.specs.LookUps.{no_piece, no_procedure}
use Rattle.roc_program.specs.declared.piece_id.PieceId.{PieceId}

-- the pieces of the procedure of a number; none where there is no such procedure
abbrev pub pieces_in : Workload → ℕ → List Piece
pieces_in program proc = (slice_index_or program.procedures proc no_procedure).pieces

-- the piece of these numbers
abbrev pub piece_of : Workload → PieceId → Piece
piece_of program id = slice_index_or (pieces_in program id.proc) id.piece no_piece

-- the program has a piece of this number
pub record HasPiece (program : Workload) (id : PieceId) : Type 0 where
  pub procedure : id.proc < length program.procedures
  pub piece : id.piece < length (pieces_in program id.proc)

-- the pieces of a procedure, in the order of the text
abbrev pub piece_ids : Workload → ℕ → List PieceId
piece_ids program proc = map (λ k. record { proc = proc; piece = k }) (range_with_len 0 (length (pieces_in program proc)))

-- all pieces of a program, in the order of the text
abbrev pub all_pieces : Workload → List PieceId
all_pieces program = flat_map (piece_ids program) (range_with_len 0 (length program.procedures))
