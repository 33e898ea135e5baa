use Rattle.std.proofs.Common.{◌≡◌, take}
use Rattle.std.specs.List.{flat_map}
use Rattle.roc_world.proofs.reads.unanswered_of.Given as goal

abbrev pub invariant-loop-coord : goal.invariant-loop-coord
invariant-loop-coord l = l.ids.items ≡ flat_map (λ c. c.core.unanswered) (take l.coord-index l.coords)
