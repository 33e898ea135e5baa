use Rattle.std.proofs.Common.{refl, ◌++◌, ◌∙◌, ap, List}
use Rattle.roc_msg.specs.declared.outbox.Outgoing.{Outgoing}
use Rattle.roc_log.specs.LogLine.{lines_text}
use Rattle.roc_log.specs.declared.line.LogLine.TheVariants as line
use Rattle.roc_log.specs.Sent.{outs_logged}
use Rattle.roc_node_submit.specs.CoordRun.{reply_logged}
use Rattle.roc_node_submit.proofs.Logged.{line_then, lines_then}
use Rattle.roc_node_submit.proofs.logging.log_message.Goals as goal

pub returns : goal.returns
returns c =
    let program = c.args.setting.plan.now.program in
    let outs = outs_logged c.args.setting.header.now c.args.outbox.now.messages in
    let answers = reply_logged c.args.answer.now in
    line_then c.log_answer.result program program c.args.setting.logs (line.In c.args.bytes.now) (outs ++ answers) _ _ _ refl c.if-not-setting.false (c.in_ok-append_in.ensures.ok program)
    (lines_then c.log_answer.result program outs answers _ _ _ (c.in_ok-append_outs.ensures.ok program ∙ ap (λ (l : List Outgoing). c.append_in.new.into.items ++ lines_text program (outs_logged c.args.setting.header.now l)) c.messages.ensures)
    (c.log_answer.ensures program))
