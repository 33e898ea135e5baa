-- Sets of pieces: a word for each procedure, with a bit for each piece
use Rattle.std.specs.Prelude.{ℕ, Bool, ◌&&◌, ◌==◌, List, slice_index_or}
use Rattle.std.specs.Int.{bit_at}
use Rattle.roc_program.specs.declared.piece_id.PieceId.{PieceId}

-- the word of a procedure; none has a bit where there is no word
abbrev pub word : List ℕ → ℕ → ℕ
word set proc = slice_index_or set proc 0

abbrev pub holds : List ℕ → PieceId → Bool
holds set id = bit_at (word set id.proc) id.piece == 1

abbrev pub is_piece : PieceId → PieceId → Bool
is_piece a b = (a.proc == b.proc) && (a.piece == b.piece)
