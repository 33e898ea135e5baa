use Rattle.std.proofs.Common.{ℕ, ◌<◌, IsTrue}
use Rattle.roc_conflict.specs.Inner.Marks.{is_marked_at}
use Rattle.roc_conflict.proofs.classes.hold.Given as goal

abbrev pub invariant-loop-proc : goal.invariant-loop-proc
invariant-loop-proc l = (proc piece : ℕ) → proc < l.proc → IsTrue (is_marked_at l.marks proc piece) → IsTrue (is_marked_at l.classes proc piece)
