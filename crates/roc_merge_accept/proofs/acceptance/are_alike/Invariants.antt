use Rattle.roc_conflict.specs.Classes.{is_immediate}
use Rattle.roc_merge_accept.specs.Inner.Tests.{IsAlike}
use Rattle.roc_merge_accept.proofs.Each.{OfFirst}
use Rattle.roc_merge_accept.proofs.acceptance.are_alike.Given as goal

abbrev pub invariant-loop-group : goal.invariant-loop-group
invariant-loop-group l = OfFirst (IsAlike l.workload (is_immediate l.classes) l.proc) (λ g. g.items) l.groups l.group-index
