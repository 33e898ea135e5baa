use Rattle.roc_world.proofs.NodeSteps.{server_ticks}
use Rattle.roc_world.proofs.nodes.tick_server.Goals as goal

pub returns : goal.returns
returns c =
    server_ticks c.args.servers.now.items c.args.shard.0 c.index_mut-server.result.now c.tick.new.self c.requires.exists c.index_mut-server.ensures.value
    c.switched.result c.args.outbox.now c.tick.new.outbox c.switched.ensures c.in-Ok.ensures.sent c.in-Ok.ensures.same
