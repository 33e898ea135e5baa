use Rattle.std.proofs.Common.{map, take}
use Rattle.roc_msg.specs.Outbox.{HasSent}
use Rattle.roc_coord.specs.Inner.CommitWith.{commit_with}
use Rattle.roc_coord.proofs.commits.send_each.Given as goal

abbrev pub invariant-loop-shard : goal.invariant-loop-shard
invariant-loop-shard l = HasSent l.initial.outbox l.outbox (map (commit_with l.id l.edges l.facts) (take l.shard-index l.shards))
