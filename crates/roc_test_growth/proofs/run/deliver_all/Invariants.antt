use Rattle.std.specs.List.{AllByRecursion}
use Rattle.roc_coord.specs.Fits.{CoordFits}
use Rattle.roc_server.specs.Ahead.{ServingFits}
use Rattle.roc_test_growth.proofs.run.deliver_all.Given as goal

abbrev pub invariant-loop-number : goal.invariant-loop-number
invariant-loop-number g l = AllByRecursion (ServingFits l.plan) l.run.servers.items × AllByRecursion (CoordFits l.plan) l.run.coords.items
