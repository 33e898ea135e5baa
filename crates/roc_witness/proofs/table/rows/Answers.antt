use Rattle.std.proofs.Common.{ap, ◌∙◌, ◌∷◌, [], ◌++◌, length, Bool, List}
use Rattle.roc_conflict.specs.Classes.{is_immediate}
use Rattle.roc_program.proofs.Ranges.{map_pushed}
use Rattle.roc_program.specs.declared.piece_id.PieceId.{PieceId}
use Rattle.roc_witness.specs.declared.columns.Columns.{Columns}
use Rattle.roc_witness.specs.Inner.Table.{numbered_piece, row_for}
use Rattle.roc_witness.proofs.Gathered.{column_at}
use Rattle.roc_witness.proofs.table.rows.Goals as goal

pub loop-one-preserved : goal.loop-one-preserved
loop-one-preserved c =
    let of = column_at c.args.workload.now c.args.columns.now c.loop-one.one-index c.one-item.result c.requires c.loop-one-test.true c.one-item.is in
    map_pushed [] c.loop-one.rows.items c.push.new.self.items (λ n. row_for c.args.workload.now (is_immediate c.args.classes.now) (numbered_piece n) (length c.args.columns.now)) c.loop-one.one-index
    (c.in_ok-push.ensures.items
    ∙ ap (λ (b : List Bool). c.loop-one.rows.items ++ b ∷ [])
    (c.in_ok-row.ensures ∙ ap (λ (k : PieceId). row_for c.args.workload.now (is_immediate c.args.classes.now) k (length c.args.columns.now)) (ap (λ (k : Columns). k.piece) of)))
    c.loop-one.invariant
