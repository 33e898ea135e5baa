use Rattle.std.proofs.Common.{◌∙◌, refl, sym}
use Rattle.roc_grown_node.specs.Setting.{grown_setting_of}
use Rattle.roc_grown_serve.proofs.Servers.{core_leads, stopped_by}
use Rattle.roc_grown_serve.proofs.server_node.take_message.Goals as goal

pub returns-then-is_stop-clause-leads : goal.returns-then-is_stop-clause-leads
returns-then-is_stop-clause-leads c = let e = c.take_stop.ensures in
    stopped_by (grown_setting_of c.args.setting) _ _ c.take_stop.result _ _ _ (sym c.is_stop.ensures ∙ c.if-is_stop.true) refl refl e.counted e.stops e.sends

pub returns-clause-leads : goal.returns-clause-leads
returns-clause-leads c =
    core_leads (grown_setting_of c.args.setting) c.args.server_node.now c.take_for_core.new.server_node c.take_for_core.result _ _ _ (sym c.is_stop.ensures ∙ c.if-is_stop.false)
    c.take_for_core.ensures.leads
