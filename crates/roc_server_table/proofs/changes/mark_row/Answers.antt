use Rattle.roc_server_table.proofs.DecidedToo.{set_decided}
use Rattle.roc_server_table.proofs.changes.mark_row.Goals as goal

pub returns-then-at-marks : goal.returns-then-at-marks
returns-then-at-marks c = set_decided c.args.at c.args.marks.now c.if-at-marks.true
