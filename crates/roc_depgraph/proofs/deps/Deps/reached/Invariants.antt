use Rattle.std.proofs.Common.{◌+◌, ◌-◌, length}
use Rattle.roc_depgraph.proofs.Walk.{IsSearch, findable}
use Rattle.roc_depgraph.proofs.deps.Deps.reached.Given as goal

abbrev pub invariant-walk : goal.invariant-walk
invariant-walk l = IsSearch l.self l.fn.id l.found.keys l.todo.items

abbrev pub decreases-walk : goal.decreases-walk
decreases-walk l = (length (findable l.self l.fn.id) - length l.found.keys) + length l.todo.items
