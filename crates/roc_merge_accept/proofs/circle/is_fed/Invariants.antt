use Rattle.std.proofs.Common.{◌≡◌, drop}
use Rattle.std.specs.List.{list_any}
use Rattle.roc_merge_groups.specs.Flow.{feeds}
use Rattle.roc_merge_accept.proofs.circle.is_fed.Given as goal

abbrev pub invariant-loop-source : goal.invariant-loop-source
invariant-loop-source l =
    list_any (λ z. list_any (feeds l.workload l.proc z) l.users) (drop l.source-index l.sources) ≡ list_any (λ z. list_any (feeds l.workload l.proc z) l.users) l.sources
