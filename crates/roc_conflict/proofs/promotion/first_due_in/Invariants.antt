use Rattle.std.proofs.Common.{◌≡◌, ◌<◌, false}
use Rattle.roc_program.specs.declared.piece_id.PieceId.{PieceId}
use Rattle.roc_conflict.specs.Columns.{piece_meets}
use Rattle.roc_conflict.specs.Inner.Marks.{is_due}
use Rattle.roc_conflict.proofs.promotion.first_due_in.Given as goal

abbrev pub invariant-loop-piece : goal.invariant-loop-piece
invariant-loop-piece l = (id : PieceId) → id.proc ≡ l.proc → id.piece < l.piece → is_due l.workload (piece_meets l.workload l.reached) l.taken id ≡ false
