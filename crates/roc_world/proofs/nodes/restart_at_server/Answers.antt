use Rattle.roc_world.proofs.NodeSteps.{server_restarts}
use Rattle.roc_world.proofs.nodes.restart_at_server.Goals as goal

pub returns : goal.returns
returns c = server_restarts c.args.servers.now.items c.args.shard.0 c.index_mut.result.now c.restart.new.self c.requires.exists c.index_mut.ensures.value c.restart.ensures
