use Rattle.std.proofs.Common.{◌≡◌, map}
use Rattle.std.specs.List.{range_with_len}
use Rattle.roc_grown.specs.Coord.{first_grown_coord}
use Rattle.roc_world.proofs.nodes.first_coords.Given as goal

abbrev pub invariant-loop-number : goal.invariant-loop-number
invariant-loop-number l = l.coords.items ≡ map first_grown_coord (range_with_len 0 l.number)
