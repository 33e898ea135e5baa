use Rattle.std.proofs.Common.{length, map}
use Rattle.roc_merge_groups.specs.Accepted.{group_feeds}
use Rattle.roc_merge_accept.specs.Inner.Paths.{IsPaths}
use Rattle.roc_merge_accept.proofs.circle.paths_of.Given as goal

abbrev pub invariant-loop-by : goal.invariant-loop-by
invariant-loop-by l = IsPaths (group_feeds l.workload l.proc (map (λ g. g.items) l.groups)) (length l.groups) l.by l.paths
