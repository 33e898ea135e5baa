use Rattle.std.proofs.Common.{List, subst, append-nil}
use Rattle.roc_base.specs.declared.id.TxnId.{TxnId}
use Rattle.roc_server_taken.specs.Components.{AreOver}
use Rattle.roc_server_lists.proofs.HeardMarks.{hears, heard_left, marks_tried}
use Rattle.roc_server_lists.proofs.preparing.prepare_heard.Goals as goal

pub returns-clause-heard : goal.returns-clause-heard
returns-clause-heard c =
    hears c.args.parts.now c.args.coord c.args.mark (record { marks = c.raised-marks.result; over = c.in_ok-over.over }) c.raised-marks.ensures
    (subst (λ (cs : List (List TxnId)). AreOver c.raised-marks.result cs c.in_ok-over.over.items) (append-nil c.args.parts.now.taken.components) c.in_ok-over.ensures)

pub returns-clause-tried : goal.returns-clause-tried
returns-clause-tried c =
    marks_tried c.args.parts.now c.args.coord c.args.mark (record { marks = c.raised-marks.result; over = c.in_ok-over.over }) c.raised-marks.ensures
    (subst (λ (cs : List (List TxnId)). AreOver c.raised-marks.result cs c.in_ok-over.over.items) (append-nil c.args.parts.now.taken.components) c.in_ok-over.ensures)
    c.requires.sound

pub returns-clause-left : goal.returns-clause-left
returns-clause-left c =
    heard_left c.args.parts.now c.args.coord c.args.mark (record { marks = c.raised-marks.result; over = c.in_ok-over.over }) c.raised-marks.ensures
    (subst (λ (cs : List (List TxnId)). AreOver c.raised-marks.result cs c.in_ok-over.over.items) (append-nil c.args.parts.now.taken.components) c.in_ok-over.ensures)
