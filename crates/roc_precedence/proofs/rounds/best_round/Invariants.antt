use Rattle.std.proofs.Common.{take}
use Rattle.roc_depgraph.specs.Deps.{Precedes}
use Rattle.roc_precedence.specs.Inner.Rounds.{IsBestRound}
use Rattle.roc_precedence.proofs.rounds.best_round.Given as goal

-- the best of the ids so far
abbrev pub invariant-loop-id : goal.invariant-loop-id
invariant-loop-id l = IsBestRound (Precedes l.lists) (take l.id-index l.ids) l.best
