-- The step of a delivery is that of its message, and its lines are those.
use Rattle.std.proofs.Common.{sym, ◌∙◌}
use Rattle.roc_node.specs.Setting.{setting_of}
use Rattle.roc_node_submit.proofs.Coords.{as_judged}
use Rattle.roc_node_submit.proofs.coord_node.take_datagram.Goals as goal

pub returns-in-Ok-Delivery-clause-takes : goal.returns-in-Ok-Delivery-clause-takes
returns-in-Ok-Delivery-clause-takes c =
    let d = c.in-Ok-Delivery in
    as_judged c.take_message.result (setting_of c.args.setting) c.args.setting.logs c.args.coord_node.now c.take_message.new.coord_node c.args.bytes.now d._sender d.msg _ (sym d.field-0-is ∙ d.ensures.is)
    (c.take_message.ensures.takes d._sender)
