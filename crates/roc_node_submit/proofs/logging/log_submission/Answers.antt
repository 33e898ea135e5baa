use Rattle.roc_log.specs.declared.line.LogLine.TheVariants as line
use Rattle.roc_log.specs.Sent.{outs_logged}
use Rattle.roc_node_submit.proofs.Logged.{line_then}
use Rattle.roc_node_submit.proofs.logging.log_submission.Goals as goal

pub returns : goal.returns
returns c =
    let program = c.args.setting.plan.now.program in
    line_then c.append_outs.result c.workload.result.now program c.args.setting.logs (line.Submit c.args.proc c.args.args.now) (outs_logged c.args.setting.header.now c.args.sends.now) _ _ _
    c.workload.ensures.program c.if-not-setting.false c.in_ok-append_submit.ensures.ok (c.append_outs.ensures.ok program)
