use Rattle.roc_merge_groups.specs.Parts.{IsPart}
use Rattle.roc_merge_accept.proofs.Each.{OfFirst}
use Rattle.roc_merge_accept.proofs.partition.are_parts.Given as goal

abbrev pub invariant-loop-group : goal.invariant-loop-group
invariant-loop-group l = OfFirst (IsPart l.count) (λ g. g.items) l.groups l.group-index
