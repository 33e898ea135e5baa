use Rattle.std.proofs.Common.{◌≡◌, take}
use Rattle.std.specs.List.{flat_map}
use Rattle.roc_program.specs.Parts as pure
use Rattle.roc_plan.specs.Groups.{pieces_at}
use Rattle.roc_group.specs.Inner.Steady.{uses_with}
use Rattle.roc_group.proofs.uses.uses_of_pieces.Given as goal

-- what the pieces so far use
abbrev pub invariant-loop-number : goal.invariant-loop-number
invariant-loop-number l = l.uses.items ≡ flat_map (uses_with l.names) (pieces_at (pure.procedure l.procedure) (take l.number-index l.pieces))
