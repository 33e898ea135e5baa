use Rattle.std.proofs.Common.{take}
use Rattle.std.specs.List.{flat_map}
use Rattle.roc_msg.specs.Outbox.{HasSent}
use Rattle.roc_coord.specs.Inner.Again.{again_in}
use Rattle.roc_coord.proofs.again.send_each_again.Given as goal

abbrev pub invariant-loop-id : goal.invariant-loop-id
invariant-loop-id l = HasSent l.initial.outbox l.outbox (flat_map (again_in l.plan l.pending l.views) (take l.id-index l.ids))
