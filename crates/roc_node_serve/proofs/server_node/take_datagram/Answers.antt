use Rattle.std.proofs.Common.{◌∙◌, refl, sym}
use Rattle.roc_node.specs.Setting.{setting_of}
use Rattle.roc_node_serve.proofs.Journals.{keeps_wider, left_by_delivery}
use Rattle.roc_node_serve.proofs.Servers.{skip_leads}
use Rattle.roc_node_serve.proofs.server_node.take_datagram.Goals as goal

pub returns-in-Ok-Delivery-clause-keeps : goal.returns-in-Ok-Delivery-clause-keeps
returns-in-Ok-Delivery-clause-keeps g c =
    keeps_wider _ _ _ _ _ _ _ _ _ _
    (left_by_delivery _ c.args.server_node.now (record { address = c.args.from; bytes = c.args.bytes.now }) c.in-Ok-Delivery.sender c.in-Ok-Delivery.msg _ refl
    (sym c.in-Ok-Delivery.ensures.is ∙ c.in-Ok-Delivery.field-0-is)) c.take_delivery.ensures.keeps

pub returns-in-Ok-Skipped-clause-leads : goal.returns-in-Ok-Skipped-clause-leads
returns-in-Ok-Skipped-clause-leads g c =
    skip_leads c.args.setting.logs (setting_of c.args.setting) c.args.server_node.now _ _ (record { address = c.args.from; bytes = c.args.bytes.now }) c.in-Ok-Skipped.skip
    (sym c.in-Ok-Skipped.ensures.is ∙ c.in-Ok-Skipped.field-0-is) refl refl c.skip.ensures refl c.new.ensures.items c.new-in-Ok-Skipped.ensures.items
