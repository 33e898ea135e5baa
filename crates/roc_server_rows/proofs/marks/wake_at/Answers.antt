use Rattle.std.proofs.Common.{inl, refl}
use Rattle.roc_server_rows.specs.Inner.Marks.{IsWokenAt}
use Rattle.roc_server_rows.proofs.Walked.{changed_none, changed_set}
use Rattle.roc_server_rows.proofs.marks.wake_at.Goals as goal

pub returns-then-place-marks : goal.returns-then-place-marks
returns-then-place-marks c =
    changed_set (IsWokenAt c.args.at) c.args.marks.now c.args.place c.wake_one.new.mark c.if-place-marks.true (c.wake_one.ensures.decided, c.wake_one.ensures.woken)

pub returns-else-place-marks : goal.returns-else-place-marks
returns-else-place-marks c = changed_none (IsWokenAt c.args.at) c.args.marks.now c.args.place c.if-place-marks.false (refl, inl refl)
