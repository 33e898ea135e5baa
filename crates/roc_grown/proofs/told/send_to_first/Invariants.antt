use Rattle.std.proofs.Common.{◌+◌, ◌≤◌, map}
use Rattle.std.specs.List.{range_with_len}
use Rattle.roc_msg.specs.Outbox.{HasSent}
use Rattle.roc_grown.specs.Coord.{drained_to}
use Rattle.roc_grown.proofs.told.send_to_first.Given as goal

abbrev pub invariant-loop-shard : goal.invariant-loop-shard
invariant-loop-shard l = HasSent l.initial.outbox l.outbox (map (drained_to l.upto) (range_with_len 0 l.shard)) × (l.initial.outbox.room.messages ≤ l.outbox.room.messages + l.shard)
