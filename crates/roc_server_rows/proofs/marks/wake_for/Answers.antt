use Rattle.std.proofs.Common.{◌∙◌, sym}
use Rattle.roc_server_rows.proofs.Walked.{all_for, some_for}
use Rattle.roc_server_rows.proofs.marks.wake_for.Goals as goal

pub returns-then-is_told : goal.returns-then-is_told
returns-then-is_told c = all_for c.args.rows.now c.args.at c.args.marks.now c.wake_all.new.marks c.wake_all.ensures

pub returns : goal.returns
returns c = some_for c.args.rows.now c.args.at c.args.marks.now c.wake.new.marks (sym c.is_told.ensures ∙ c.if-is_told.false) c.wake.ensures
