use Rattle.std.proofs.Common.{drop}
use Rattle.roc_server_groups.specs.Inner.Covered.{AreSameUses}
use Rattle.roc_server_groups.proofs.uncovered.uncovered.Given as goal

-- what is left of the uses from here on
abbrev pub invariant-loop-at : goal.invariant-loop-at
invariant-loop-at l = AreSameUses (drop l.at l.cells) l.uses.items
