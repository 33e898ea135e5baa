use Rattle.std.proofs.Common.{◌++◌, ap, ◌∙◌}
use Rattle.roc_plan.specs.Groups.{group_of}
use Rattle.roc_report.specs.Checked.{Group}
use Rattle.roc_report.specs.Checked.{checked_text}
use Rattle.roc_check.specs.Lines.{group_line}
use Rattle.roc_check.proofs.Added.{line_added}
use Rattle.roc_check.proofs.text.push_each_group.Goals as goal

pub loop-number-preserved : goal.loop-number-preserved
loop-number-preserved c =
    let plan = c.args.plan.now in
    let old = c.loop-number.text.items in
    let proc = c.args.proc in
    let number = c.loop-number.number in
    line_added plan.program c.args.text.now.items old c.append_check.new.into.items (group_line plan proc) number
    c.loop-number.invariant
    (c.in_ok-append_check.ensures.ok
    ∙ (ap (λ w. old ++ checked_text w (Group proc number c.is_immediate-immediate.result c.pieces-pieces.result.now)) c.workload.ensures.program
    ∙ (ap (λ b. old ++ checked_text plan.program (Group proc number b c.pieces-pieces.result.now)) c.is_immediate-immediate.ensures
    ∙ ap (λ ps. old ++ checked_text plan.program (Group proc number (group_of plan proc number).is_immediate ps)) c.pieces-pieces.ensures)))
