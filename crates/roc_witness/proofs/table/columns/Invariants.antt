use Rattle.std.proofs.Common.{◌≡◌, map}
use Rattle.std.specs.List.{range_with_len}
use Rattle.roc_witness.specs.Inner.Columns.{gathered_columns}
use Rattle.roc_witness.specs.Inner.Table.{numbered_piece}
use Rattle.roc_witness.proofs.table.columns.Given as goal

abbrev pub invariant-loop-number : goal.invariant-loop-number
invariant-loop-number l = l.columns.items ≡ map (λ n. gathered_columns l.workload (numbered_piece n)) (range_with_len 0 l.number)
