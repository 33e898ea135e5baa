use Rattle.std.proofs.Common.{◌∙◌, ap}
use Rattle.roc_grown.specs.Server.{GrownServerState}
use Rattle.roc_grown_node.specs.Setting.{grown_setting_of}
use Rattle.roc_grown_serve.proofs.Servers.{same_server, tick_leads}
use Rattle.roc_grown_serve.proofs.server_node.take_tick.Goals as goal

pub returns-clause-leads : goal.returns-clause-leads
returns-clause-leads c = let e = c.output_of.ensures in
    tick_leads (grown_setting_of c.args.setting) c.args.server_node.now _ c.output_of.result c.args.outbox.now c.tick.new.outbox _ _ c.in-Ok.ensures.sent.0 c.requires.empty
    (same_server c.args.server_node.now _ c.in-Ok.ensures.same) c.messages.ensures (c.switched-switched.ensures ∙ ap (λ (s : GrownServerState). s.switched) c.in-Ok.ensures.same) e.goes e.sends
