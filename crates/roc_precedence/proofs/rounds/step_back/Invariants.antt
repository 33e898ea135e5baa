use Rattle.std.proofs.Common.{take}
use Rattle.roc_depgraph.specs.Deps.{Precedes}
use Rattle.roc_precedence.specs.Inner.Rounds.{StepsBack}
use Rattle.roc_precedence.proofs.rounds.step_back.Given as goal

-- the lists of the ids so far were visited
abbrev pub invariant-loop-id : goal.invariant-loop-id
invariant-loop-id l = StepsBack (Precedes l.lists) (take l.id-index l.level) l.initial.found.keys l.found.keys l.next.items
