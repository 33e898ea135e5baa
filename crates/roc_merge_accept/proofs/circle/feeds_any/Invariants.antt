use Rattle.std.proofs.Common.{◌≡◌, drop}
use Rattle.std.specs.List.{list_any}
use Rattle.roc_merge_groups.specs.Flow.{feeds}
use Rattle.roc_merge_accept.proofs.circle.feeds_any.Given as goal

abbrev pub invariant-loop-user : goal.invariant-loop-user
invariant-loop-user l = list_any (feeds l.workload l.proc l.source) (drop l.user-index l.users) ≡ list_any (feeds l.workload l.proc l.source) l.users
