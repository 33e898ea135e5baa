use Rattle.std.proofs.Common.{◌≡◌}
use Rattle.roc_conflict.specs.Classes.{is_immediate}
use Rattle.roc_witness.specs.Inner.Table.{row_for}
use Rattle.roc_witness.proofs.table.row.Given as goal

abbrev pub invariant-loop-other : goal.invariant-loop-other
invariant-loop-other l = l.row.items ≡ row_for l.workload (is_immediate l.classes) l.one l.other-index
