use Rattle.std.proofs.Common.{◌∙◌, ap, List, map, length, ℕ}
use Rattle.std.specs.List.{range_with_len}
use Rattle.roc_conflict.specs.Classes.{is_immediate}
use Rattle.roc_witness.specs.declared.columns.Columns.{Columns}
use Rattle.roc_witness.specs.Inner.Table.{numbered_piece, row_for}
use Rattle.roc_witness.proofs.Joined.{table_is}
use Rattle.roc_witness.proofs.table.Table.of.Goals as goal

pub returns : goal.returns
returns c =
    table_is c.args.workload.now c.in_ok-columns.ensures.well_formed (is_immediate c.args.classes.now) c.in_ok-rows.rows.items
    (c.in_ok-rows.ensures
    ∙ ap (λ (n : ℕ). map (λ k. row_for c.args.workload.now (is_immediate c.args.classes.now) (numbered_piece k) n) (range_with_len 0 n)) (ap (λ (l : List Columns). length l) c.deref.ensures.value ∙ c.in_ok-columns.ensures.count))
