use Rattle.std.proofs.Common.{◌∙◌, refl, sym}
use Rattle.roc_node.specs.Setting.{setting_of}
use Rattle.roc_node_serve.proofs.Journals.{keeps_delivered}
use Rattle.roc_node_serve.proofs.Servers.{core_leads, stop_leads}
use Rattle.roc_node_serve.proofs.server_node.take_message.Goals as goal

pub returns-then-is_stop-clause-leads : goal.returns-then-is_stop-clause-leads
returns-then-is_stop-clause-leads g c = let e = c.take_stop.ensures in
    stop_leads c.args.setting.logs (setting_of c.args.setting) _ _ c.take_stop.result _ _ _
    (sym c.is_stop.ensures ∙ c.if-is_stop.true) refl refl e.counted e.stops (e.log c.args.setting.plan.now.program)

pub returns-clause-leads : goal.returns-clause-leads
returns-clause-leads g c =
    core_leads c.args.setting.logs (setting_of c.args.setting) c.args.server_node.now c.take_for_core.new.server_node c.take_for_core.result _ _ _
    (sym c.is_stop.ensures ∙ c.if-is_stop.false) c.take_for_core.ensures.leads

pub returns-clause-keeps : goal.returns-clause-keeps
returns-clause-keeps g c = keeps_delivered _ _ _ _ _ _ _ _ _ _ _ (sym c.is_stop.ensures ∙ c.if-is_stop.false) c.take_for_core.ensures.keeps
