use Rattle.std.proofs.Common.{ap, ◌∙◌, ◌∷◌, [], ◌++◌, Bool}
use Rattle.roc_conflict.specs.Classes.{is_immediate}
use Rattle.roc_program.proofs.Ranges.{map_pushed}
use Rattle.roc_witness.specs.declared.columns.Columns.{Columns}
use Rattle.roc_witness.specs.Inner.Table.{numbered_piece, meet}
use Rattle.roc_witness.proofs.Gathered.{column_at, own_columns}
use Rattle.roc_witness.proofs.table.row.Goals as goal

pub meet-requires : goal.meet-requires
meet-requires c =
    own_columns c.args.workload.now (numbered_piece c.loop-other.other-index) c.other-item.result
    (column_at c.args.workload.now c.args.others.now c.loop-other.other-index c.other-item.result c.requires c.loop-other-test.true c.other-item.is)

pub loop-other-preserved : goal.loop-other-preserved
loop-other-preserved c =
    let of = column_at c.args.workload.now c.args.others.now c.loop-other.other-index c.other-item.result c.requires c.loop-other-test.true c.other-item.is in
    map_pushed [] c.loop-other.row.items c.push.new.self.items (λ n. meet c.args.workload.now (is_immediate c.args.classes.now) c.args.one (numbered_piece n)) c.loop-other.other-index
    (c.in_ok-push.ensures.items
    ∙ ap (λ (b : Bool). c.loop-other.row.items ++ b ∷ []) (c.meet.ensures ∙ ap (meet c.args.workload.now (is_immediate c.args.classes.now) c.args.one) (ap (λ (k : Columns). k.piece) of)))
    c.loop-other.invariant
