use Rattle.std.proofs.Common.{take}
use Rattle.roc_server_table.specs.Inner.Kept.{AreDecidedToo}
use Rattle.roc_server_table.proofs.changes.mark_all.Given as goal

abbrev pub invariant-loop-id : goal.invariant-loop-id
invariant-loop-id l = AreDecidedToo l.numbers.entries (take l.id-index l.ids) l.initial.marks l.marks
