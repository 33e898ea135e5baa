use Rattle.std.proofs.Common.{take}
use Rattle.roc_server_groups.specs.Inner.Changes.{AreOut}
use Rattle.roc_server_groups.proofs.indexed.take_out.Given as goal

abbrev pub invariant-loop-id : goal.invariant-loop-id
invariant-loop-id l = AreOut (take l.id-index l.ids) l.initial.index l.index
