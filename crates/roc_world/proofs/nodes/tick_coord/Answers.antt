use Rattle.std.proofs.Common.{option_copied}
use Rattle.roc_world.proofs.NodeSteps.{coord_ticks}
use Rattle.roc_world.proofs.nodes.tick_coord.Goals as goal

pub returns : goal.returns
returns c =
    coord_ticks c.args.coords.now.items c.args.number c.index_mut-coord.result.now c.tick.new.self c.requires.exists c.index_mut-coord.ensures.value
    c.args.plan.now (option_copied c.args.next) c.switched.result c.args.outbox.now c.tick.new.outbox c.switched.ensures c.in-Ok.ensures.sent c.in-Ok.ensures.same
