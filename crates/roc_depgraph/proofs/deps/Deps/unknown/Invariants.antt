use Rattle.std.proofs.Common.{◌≡◌, take, not, filter}
use Rattle.roc_depgraph.specs.Deps.{is_known}
use Rattle.roc_depgraph.proofs.deps.Deps.unknown.Given as goal

abbrev pub invariant-loop-id : goal.invariant-loop-id
invariant-loop-id l = l.missing.items ≡ filter (λ u. not (is_known l.self u)) (take l.id-index l.ids)
