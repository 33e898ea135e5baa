use Rattle.std.proofs.Common.{◌∙◌, sym, ap}
use Rattle.roc_server_rows.specs.declared.marks.Mark.{Mark}
use Rattle.roc_server_rows.proofs.ExceptedMarks.{but_through_told, but_through_untold}
use Rattle.roc_server_rows.proofs.marks.held_at.Goals as goal

pub returns-then-is_told : goal.returns-then-is_told
returns-then-is_told c =
    but_through_told c.args.except c.args.rows.now c.args.marks.now c.args.link c.mark_of.result.waits c.requires.marked c.requires.followed (sym c.is_told.ensures ∙ c.if-is_told.true)
    (ap (λ (m : Mark). m.waits) c.mark_of.ensures)

pub returns : goal.returns
returns c = but_through_untold c.args.except c.args.rows.now c.args.marks.now c.args.link c.requires.followed (sym c.is_told.ensures ∙ c.if-is_told.false)
