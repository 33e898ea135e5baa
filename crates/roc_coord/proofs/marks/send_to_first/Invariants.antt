use Rattle.std.proofs.Common.{map}
use Rattle.std.specs.List.{range_with_len}
use Rattle.roc_msg.specs.Outbox.{HasSent}
use Rattle.roc_coord.specs.Inner.Rises.{ended_with}
use Rattle.roc_coord.proofs.marks.send_to_first.Given as goal

abbrev pub invariant-loop-shard : goal.invariant-loop-shard
invariant-loop-shard l = HasSent l.initial.outbox l.outbox (map (ended_with l.number l.mark) (range_with_len 0 l.shard))
