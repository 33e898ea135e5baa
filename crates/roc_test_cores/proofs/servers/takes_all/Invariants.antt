use Rattle.roc_server.specs.Ahead.{ServingFits}
use Rattle.roc_test_cores.proofs.servers.takes_all.Given as goal

abbrev pub invariant-loop-bytes : goal.invariant-loop-bytes
invariant-loop-bytes g l = ServingFits l.plan l.server
