use Rattle.roc_server_taken.specs.Inner.Over.{LeavesOpen}
use Rattle.roc_server_taken.specs.Inner.Standing.{components_of}
use Rattle.roc_server_taken.proofs.LeftOpen.{AreFrom}
use Rattle.roc_server_taken.proofs.standing.Standing.forget.Given as goal

-- no component stands under an ended member of a lower coordinator
abbrev pub invariant-loop-coord : goal.invariant-loop-coord
invariant-loop-coord l = record {
  left : LeavesOpen l.marks (components_of l.initial.self) (components_of l.self);
  from : AreFrom l.marks l.coord (components_of l.self);
}
