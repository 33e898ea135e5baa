use Rattle.std.proofs.Common.{option_copied}
use Rattle.roc_world.proofs.NodeSteps.{coord_takes}
use Rattle.roc_world.proofs.nodes.handle_at_coord.Goals as goal

pub returns : goal.returns
returns c =
    coord_takes c.args.coords.now.items c.args.number c.index_mut-coord.result.now c.handle.new.self c.requires.exists c.index_mut-coord.ensures.value
    c.args.plan.now (option_copied c.args.next) c.args.file c.args.msg.now c.in-Ok.answer c.switched.result c.args.outbox.now c.handle.new.outbox c.switched.ensures c.in-Ok.ensures.step
