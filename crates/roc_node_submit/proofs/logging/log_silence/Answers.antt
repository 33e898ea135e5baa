use Rattle.std.proofs.Common.{refl}
use Rattle.roc_log.specs.declared.line.LogLine.TheVariants as line
use Rattle.roc_log.specs.Sent.{outs_logged}
use Rattle.roc_node_submit.proofs.Logged.{line_then, outs_told}
use Rattle.roc_node_submit.proofs.logging.log_silence.Goals as goal

pub returns : goal.returns
returns c =
    let program = c.args.setting.plan.now.program in
    let header = c.args.setting.header.now in
    let outs = c.args.outbox.now.messages in
    line_then c.append_outs.result program program c.args.setting.logs line.Tick (outs_logged header outs) _ _ _ refl c.if-not-setting.false (c.in_ok-append_tick.ensures.ok program)
    (outs_told c.append_outs.result program header c.messages.result.now outs _ _ c.messages.ensures (c.append_outs.ensures.ok program))
