use Rattle.roc_coord.specs.Fits.{CoordFits}
use Rattle.roc_test_cores.proofs.coordinators.submits.Given as goal

abbrev pub invariant-loop-proc : goal.invariant-loop-proc
invariant-loop-proc g l = CoordFits l.plan l.coord
