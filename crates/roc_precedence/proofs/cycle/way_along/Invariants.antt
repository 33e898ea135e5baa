use Rattle.std.proofs.Common.{length}
use Rattle.roc_depgraph.specs.Deps.{Precedes}
use Rattle.roc_precedence.proofs.Ways.{IsOnWay}
use Rattle.roc_precedence.proofs.cycle.way_along.Given as goal

abbrev pub invariant-loop-level : goal.invariant-loop-level
invariant-loop-level l = IsOnWay (Precedes l.lists) l.fn.round.of (length l.fn.round.levels.items) l.way.items l.at l.levels.items

abbrev pub decreases-loop-level : goal.decreases-loop-level
decreases-loop-level l = length l.levels.items
