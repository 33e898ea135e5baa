use Rattle.std.proofs.Common.{ℕ, ◌<◌, IsTrue}
use Rattle.roc_conflict.specs.Inner.Marks.{is_held, is_marked_at}
use Rattle.roc_conflict.proofs.classes.is_row_among.Given as goal

abbrev pub invariant-loop-piece : goal.invariant-loop-piece
invariant-loop-piece l = (piece : ℕ) → piece < l.piece → IsTrue (is_held l.row piece) → IsTrue (is_marked_at l.marks l.proc piece)
