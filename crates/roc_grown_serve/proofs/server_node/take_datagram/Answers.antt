use Rattle.std.proofs.Common.{◌∙◌, refl, sym, ap}
use Rattle.roc_grown_node.specs.Judgement.{grown_judged}
use Rattle.roc_grown_node.specs.Setting.{grown_setting_of}
use Rattle.roc_grown_serve.specs.Inner.GrownTurn.{bare}
use Rattle.roc_grown_serve.proofs.Servers.{delivery_leads, skip_leads}
use Rattle.roc_grown_serve.proofs.server_node.take_datagram.Goals as goal

pub returns-in-Ok-Delivery-clause-leads : goal.returns-in-Ok-Delivery-clause-leads
returns-in-Ok-Delivery-clause-leads c =
    let S = grown_setting_of c.args.setting in
    delivery_leads S c.args.server_node.now (record c.args.server_node.now { heard = c.hear.new.self }) _ c.take_message.result
    (record { address = c.args.from; bytes = c.args.bytes.now }) c.in-Ok-Delivery.sender c.in-Ok-Delivery.file c.in-Ok-Delivery.msg
    (ap (λ b. grown_judged S b c.args.bytes.now) (sym c.switched.ensures) ∙ sym c.in-Ok-Delivery.ensures.is ∙ c.in-Ok-Delivery.field-0-is)
    (ap (λ h. bare (record c.args.server_node.now { heard = h })) c.hear.ensures) c.take_message.ensures.leads

pub returns-in-Ok-Skipped-clause-leads : goal.returns-in-Ok-Skipped-clause-leads
returns-in-Ok-Skipped-clause-leads c =
    let S = grown_setting_of c.args.setting in
    skip_leads S c.args.server_node.now _ _ (record { address = c.args.from; bytes = c.args.bytes.now }) c.in-Ok-Skipped.skip
    (ap (λ b. grown_judged S b c.args.bytes.now) (sym c.switched.ensures) ∙ sym c.in-Ok-Skipped.ensures.is ∙ c.in-Ok-Skipped.field-0-is) refl refl c.skip.ensures refl c.new.ensures.items
