use Rattle.std.proofs.Common.{take}
use Rattle.roc_server_rows.specs.Inner.Marks.{IsWokenAt}
use Rattle.roc_server_rows.proofs.Walked.{IsVisited}
use Rattle.roc_server_rows.proofs.marks.wake.Given as goal

abbrev pub invariant-loop-place : goal.invariant-loop-place
invariant-loop-place l = IsVisited (IsWokenAt l.at) l.initial.marks l.marks (take l.place-index l.undecided)
