use Rattle.std.proofs.Common.{map, take}
use Rattle.roc_msg.specs.Outbox.{HasSent}
use Rattle.roc_coord.specs.Starts.{start_for}
use Rattle.roc_coord.proofs.starts.resend_each.Given as goal

abbrev pub invariant-loop-group : goal.invariant-loop-group
invariant-loop-group l = HasSent l.initial.outbox l.outbox (map (start_for l.plan l.x) (take l.group-index l.groups))
