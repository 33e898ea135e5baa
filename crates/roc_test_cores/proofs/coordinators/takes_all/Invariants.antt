use Rattle.roc_coord.specs.Fits.{CoordFits}
use Rattle.roc_test_cores.proofs.coordinators.takes_all.Given as goal

abbrev pub invariant-loop-bytes : goal.invariant-loop-bytes
invariant-loop-bytes g l = CoordFits l.plan l.coord
