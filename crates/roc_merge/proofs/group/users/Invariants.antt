use Rattle.std.proofs.Common.{IsTrue}
use Rattle.roc_merge.specs.Inner.Tables.{holds, row_in}
use Rattle.roc_merge.proofs.Rows.{IsHeld}
use Rattle.roc_merge.proofs.group.users.Given as goal

abbrev pub invariant-loop-at : goal.invariant-loop-at
invariant-loop-at l = IsHeld (λ q. IsTrue (holds (row_in l.flow q) l.piece)) l.row l.at
