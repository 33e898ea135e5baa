use Rattle.std.proofs.Common.{take}
use Rattle.roc_component.specs.Inner.Turns.{AreComponentTurns}
use Rattle.roc_component.proofs.turn.turns.Given as goal

abbrev pub invariant-loop-component : goal.invariant-loop-component
invariant-loop-component l = AreComponentTurns l.lists (take l.component-index l.components) l.turns.items
