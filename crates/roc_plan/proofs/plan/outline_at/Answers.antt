use Rattle.roc_program.proofs.Rows.{row_read}
use Rattle.roc_plan.proofs.plan.outline_at.Goals as goal

pub returns : goal.returns
returns c =
    row_read (λ row. row.items) c.args.outlines.now.items c.args.proc c.args.group c.index.result.now c.index-2.result.now c.requires
    c.index.ensures
    c.index-2.ensures
