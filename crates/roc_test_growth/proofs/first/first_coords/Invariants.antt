use Rattle.std.specs.List.{AllByRecursion}
use Rattle.roc_coord.specs.Fits.{CoordFits}
use Rattle.roc_test_growth.proofs.first.first_coords.Given as goal

abbrev pub invariant-loop-number : goal.invariant-loop-number
invariant-loop-number l = AllByRecursion (CoordFits l.plan) l.coords.items
