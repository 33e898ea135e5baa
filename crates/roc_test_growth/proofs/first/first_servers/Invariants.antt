use Rattle.std.specs.List.{AllByRecursion}
use Rattle.roc_server.specs.Ahead.{ServingFits}
use Rattle.roc_test_growth.proofs.first.first_servers.Given as goal

abbrev pub invariant-loop-number : goal.invariant-loop-number
invariant-loop-number l = AllByRecursion (ServingFits l.plan) l.servers.items
