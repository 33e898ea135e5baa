-- Of each piece of a program whether it is immediate: a list for each procedure, in the order of the text
use Rattle.std.specs.Prelude.{Bool, false, List, [], slice_index_or}
use Rattle.roc_program.specs.declared.piece_id.PieceId.{PieceId}

-- a piece that is not there is not immediate
abbrev pub is_immediate : List (List Bool) → PieceId → Bool
is_immediate classes id = slice_index_or (slice_index_or classes id.proc []) id.piece false
