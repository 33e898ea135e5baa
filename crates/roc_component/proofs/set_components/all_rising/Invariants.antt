use Rattle.std.proofs.Common.{take}
use Rattle.roc_component.specs.Components.{AreRisingOf}
use Rattle.roc_component.proofs.set_components.all_rising.Given as goal

abbrev pub invariant-loop-list : goal.invariant-loop-list
invariant-loop-list l = AreRisingOf (take l.list-index l.lists) l.all.items
