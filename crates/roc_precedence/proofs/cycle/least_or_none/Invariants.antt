use Rattle.std.proofs.Common.{take}
use Rattle.roc_depgraph.specs.Deps.{Precedes}
use Rattle.roc_precedence.specs.Inner.Rounds.{IsLeastOrNone}
use Rattle.roc_precedence.proofs.cycle.least_or_none.Given as goal

-- the least of those so far
abbrev pub invariant-loop-other : goal.invariant-loop-other
invariant-loop-other l = IsLeastOrNone (Precedes l.lists) l.id (take l.other-index l.level) l.least
