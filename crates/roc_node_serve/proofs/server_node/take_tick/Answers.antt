use Rattle.roc_node.specs.Setting.{setting_of}
use Rattle.roc_node_serve.proofs.Servers.{same_server, tick_leads}
use Rattle.roc_node_serve.proofs.server_node.take_tick.Goals as goal

pub returns-clause-leads : goal.returns-clause-leads
returns-clause-leads g c = let e = c.output_of.ensures in
    tick_leads c.args.setting.logs (setting_of c.args.setting) c.args.server_node.now _ c.output_of.result c.args.outbox.now c.tick.new.outbox _ c.in-Ok.ensures.sent.0 c.requires.empty
    (same_server c.args.server_node.now _ c.in-Ok.ensures.same) c.messages.ensures e.goes e.sends (e.log c.args.setting.plan.now.program)
