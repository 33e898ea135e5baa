use Rattle.std.specs.Option.{option_copied}
use Rattle.roc_grown.specs.Fits.{GrownServerFits}
use Rattle.roc_test_grown.proofs.servers.serves.Given as goal

abbrev pub invariant-loop-row : goal.invariant-loop-row
invariant-loop-row g l = GrownServerFits l.plan (option_copied l.next) l.server
