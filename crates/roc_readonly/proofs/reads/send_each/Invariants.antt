use Rattle.std.proofs.Common.{map, take}
use Rattle.roc_msg.specs.Outbox.{HasSent}
use Rattle.roc_readonly.specs.Inner.Missing.{read_in}
use Rattle.roc_readonly.proofs.reads.send_each.Given as goal

abbrev pub invariant-loop-group : goal.invariant-loop-group
invariant-loop-group l = HasSent l.initial.outbox l.outbox (map (read_in l.plan l.v l.round) (take l.group-index l.groups))
