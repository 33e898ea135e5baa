use Rattle.std.proofs.Common.{◌++◌, ap, ◌∙◌}
use Rattle.std.proofs.lemmas.Result.{on_ok_weaker}
use Rattle.roc_report.specs.Checked.{Proc}
use Rattle.roc_report.specs.Checked.{checked_text}
use Rattle.roc_check.specs.Lines.{piece_lines, group_lines}
use Rattle.roc_check.proofs.Added.{procedure_added}
use Rattle.roc_check.proofs.text.push_procedure.Goals as goal

pub returns : goal.returns
returns c =
    let plan = c.args.plan.now in
    let start = c.args.text.now.items in
    let line = Proc c.args.proc in
    on_ok_weaker c.push_groups.result
    (procedure_added plan.program start _ _ c.push_groups.new.text.items line (piece_lines plan c.args.proc) (group_lines plan c.args.proc)
    (c.in_ok-append_check.ensures.ok ∙ ap (λ w. start ++ checked_text w line) c.workload.ensures.program) c.in_ok-push_pieces.ensures)
    c.push_groups.ensures
