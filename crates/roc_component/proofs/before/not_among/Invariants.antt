use Rattle.std.proofs.Common.{◌≡◌, ◌++◌, drop}
use Rattle.roc_component.specs.Inner.Before.{outside}
use Rattle.roc_component.proofs.before.not_among.Given as goal

abbrev pub invariant-loop-id : goal.invariant-loop-id
invariant-loop-id l = l.others.items ++ outside l.ids (drop l.id-index l.some) ≡ outside l.ids l.some
