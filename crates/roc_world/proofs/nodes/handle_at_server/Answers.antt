use Rattle.std.proofs.Common.{option_copied}
use Rattle.roc_world.proofs.NodeSteps.{server_takes}
use Rattle.roc_world.proofs.nodes.handle_at_server.Goals as goal

pub returns : goal.returns
returns c =
    server_takes c.args.servers.now.items c.args.shard.0 c.index_mut-server.result.now c.handle.new.self c.requires.exists c.index_mut-server.ensures.value
    c.args.plan.now (option_copied c.args.next) c.args.file c.args.msg.now c.in-Ok.handled c.switched.result c.args.outbox.now c.handle.new.outbox c.switched.ensures c.in-Ok.ensures.step
