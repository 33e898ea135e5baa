use Rattle.roc_world.proofs.NodeSteps.{coord_drains}
use Rattle.roc_world.proofs.nodes.drain_at.Goals as goal

pub returns : goal.returns
returns c =
    coord_drains c.args.coords.now.items c.args.number c.index_mut-coord.result.now c.drain.new.self c.requires.exists c.index_mut-coord.ensures.value
    c.args.plan.now c.switched.result c.args.outbox.now c.drain.new.outbox c.switched.ensures c.in-Ok.ensures.step
