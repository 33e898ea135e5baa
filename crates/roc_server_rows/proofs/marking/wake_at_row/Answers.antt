use Rattle.std.proofs.Common.{◌∙◌, sym}
use Rattle.roc_server_rows.proofs.KeptMarks.{none_waits}
use Rattle.roc_server_rows.proofs.marking.wake_at_row.Goals as goal

pub returns-then-is_told : goal.returns-then-is_told
returns-then-is_told c = none_waits c.args.rows.now c.args.marks.now c.requires.marked c.args.at (sym c.is_told.ensures ∙ c.if-is_told.true)
