use Rattle.std.proofs.Common.{◌++◌, ◌∙◌, ap}
use Rattle.roc_log.specs.LogLine.{log_line_text}
use Rattle.roc_node_serve.specs.Inner.LogTurn.{event_line}
use Rattle.roc_node_serve.proofs.Logs.{event_text}
use Rattle.roc_node_serve.proofs.logging.event_lines.Goals as goal

pub returns : goal.returns
returns c = λ program.
    event_text c.args.setting.logs program (event_line c.args.event) _ c.append_event.new.into.items _ c.if-not-setting.false
    (c.in_ok-append_event.ensures program ∙ ap (λ l. l ++ log_line_text program (event_line c.args.event)) c.new-text.ensures.items) (c.in_ok-append_outs.ensures.ok program)
