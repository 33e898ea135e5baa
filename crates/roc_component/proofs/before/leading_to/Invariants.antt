use Rattle.std.proofs.Common.{◌≡◌, ◌++◌, drop}
use Rattle.roc_component.specs.Inner.Before.{leading_to}
use Rattle.roc_component.proofs.before.leading_to.Given as goal

abbrev pub invariant-loop-id : goal.invariant-loop-id
invariant-loop-id l = l.found.items ++ leading_to l.lists l.ids (drop l.id-index l.ids) ≡ leading_to l.lists l.ids l.ids
