use Rattle.std.proofs.Common.{◌≡◌, not, take}
use Rattle.std.specs.List.{filter}
use Rattle.roc_coord.specs.State.{has_commitok}
use Rattle.roc_coord.proofs.commits.unanswered.Given as goal

abbrev pub invariant-loop-shard : goal.invariant-loop-shard
invariant-loop-shard l = l.shards ≡ filter (λ shard. not (has_commitok shard l.x.commitoks)) (take l.shard-index l.x.asked)
