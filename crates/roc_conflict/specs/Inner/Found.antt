-- Membership in a list of pieces
use Rattle.std.specs.Prelude.{Bool, ◌&&◌, ◌==◌, List}
use Rattle.std.specs.List.{list_any}
use Rattle.roc_program.specs.declared.piece_id.PieceId.{PieceId}

-- the two are one piece
abbrev pub is_piece : PieceId → PieceId → Bool
is_piece a b = (a.proc == b.proc) && (a.piece == b.piece)

-- the piece is among these
abbrev pub has_id : List PieceId → PieceId → Bool
has_id ids id = list_any (λ other. is_piece other id) ids
