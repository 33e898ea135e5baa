use Rattle.std.proofs.Common.{map, take}
use Rattle.std.specs.List.{filter_map}
use Rattle.roc_msg.specs.Outbox.{HasSent}
use Rattle.roc_grown.specs.Server.{switched_to}
use Rattle.roc_grown.proofs.drained.send_switched.Given as goal

abbrev pub invariant-loop-told : goal.invariant-loop-told
invariant-loop-told l = HasSent l.initial.outbox l.outbox (map (switched_to l.shard) (filter_map (λ told. told) (take l.told-index l.drained)))
