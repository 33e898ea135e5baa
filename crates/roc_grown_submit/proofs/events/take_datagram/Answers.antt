-- The step of a delivery is that of its message
use Rattle.std.proofs.Common.{sym, ◌∙◌}
use Rattle.roc_grown_node.specs.Setting.{grown_setting_of}
use Rattle.roc_grown_submit.proofs.Turning.{as_judged, judged_at}
use Rattle.roc_grown_submit.proofs.events.take_datagram.Goals as goal

pub returns-in-Ok-Delivery-clause-takes : goal.returns-in-Ok-Delivery-clause-takes
returns-in-Ok-Delivery-clause-takes c =
    let d = c.in-Ok-Delivery in
    judged_at c.take_message.result (grown_setting_of c.args.setting) c.args.coord_node.now c.take_message.new.coord_node c.args.bytes.now c.switched.result c.switched.ensures
    (as_judged c.take_message.result (grown_setting_of c.args.setting) c.args.coord_node.now c.take_message.new.coord_node d._sender d.file d.msg _ (sym d.field-0-is ∙ d.ensures.is) c.take_message.ensures.takes)
