use Rattle.std.proofs.Common.{◌≡◌, map, take}
use Rattle.roc_component.specs.Inner.Turns.{turn_of}
use Rattle.roc_component.proofs.turn.member_turns.Given as goal

abbrev pub invariant-loop-id : goal.invariant-loop-id
invariant-loop-id l = l.turns.items ≡ map (turn_of l.lists l.ids) (take l.id-index l.ids)
