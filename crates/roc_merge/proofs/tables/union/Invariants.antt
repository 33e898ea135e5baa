use Rattle.roc_merge.proofs.Rows.{IsUnion}
use Rattle.roc_merge.proofs.tables.union.Given as goal

abbrev pub invariant-loop-at : goal.invariant-loop-at
invariant-loop-at l = IsUnion l.one l.other l.row l.at
