use Rattle.std.specs.Option.{option_copied}
use Rattle.roc_grown.specs.Fits.{GrownCoordFits}
use Rattle.roc_test_grown.proofs.coordinators.coordinates.Given as goal

abbrev pub invariant-loop-row : goal.invariant-loop-row
invariant-loop-row g l = GrownCoordFits l.plan (option_copied l.next) l.coord
