use Rattle.std.proofs.Common.{ap, refl}
use Rattle.roc_server_rows.specs.declared.rows.Link.{Link}
use Rattle.roc_server_rows.specs.declared.marks.Mark.{Mark}
use Rattle.roc_server_rows.specs.Inner.Marks.{IsAwake}
use Rattle.roc_server_rows.specs.Marks.{mark_in}
use Rattle.roc_server_rows.proofs.Walked.{changed_none, changed_set}
use Rattle.roc_server_rows.proofs.marks.awaken.Goals as goal

pub returns-then-place-marks : goal.returns-then-place-marks
returns-then-place-marks c =
    let m : Mark = record { decided = (mark_in c.args.marks.now c.args.place).decided; waits = c.no_link.result } in
    changed_set IsAwake c.args.marks.now c.args.place m c.if-place-marks.true (refl, ap (λ (l : Link). l.birth) c.no_link.ensures)

pub returns-else-place-marks : goal.returns-else-place-marks
returns-else-place-marks c = changed_none IsAwake c.args.marks.now c.args.place c.if-place-marks.false (refl, refl)
