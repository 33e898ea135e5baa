use Rattle.std.proofs.Common.{◌≡◌, map, length}
use Rattle.std.specs.List.{range_with_len}
use Rattle.roc_conflict.specs.Classes.{is_immediate}
use Rattle.roc_witness.specs.Inner.Table.{numbered_piece, row_for}
use Rattle.roc_witness.proofs.table.rows.Given as goal

abbrev pub invariant-loop-one : goal.invariant-loop-one
invariant-loop-one l = l.rows.items ≡ map (λ n. row_for l.workload (is_immediate l.classes) (numbered_piece n) (length l.columns)) (range_with_len 0 l.one-index)
