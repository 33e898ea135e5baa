-- Which pieces may run at the start of their transaction: docs/LANGUAGE.md, "Conflicts"
use Rattle.std.specs.Prelude.{IsTrue}
use Rattle.roc_program.specs.Program.{Workload}
use Rattle.roc_program.specs.Conflict.{are_in_conflict}
use Rattle.roc_program.specs.Pieces.{piece_of}
use Rattle.roc_program.specs.declared.piece_id.PieceId.{PieceId}
use Rattle.roc_program.specs.Pieces.{HasPiece}

-- the least set of pieces that holds those declared `now`, and with each piece those that it conflicts with
pub data IsImmediate (program : Workload) : PieceId → Type 0 where
  declared : {id : PieceId} → HasPiece program id → IsTrue (piece_of program id).is_now → IsImmediate program id
  in_conflict : {one other : PieceId} → IsImmediate program one → IsTrue (are_in_conflict program one other) → IsImmediate program other
