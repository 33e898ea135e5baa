use Rattle.roc_world.proofs.FirstNodes.{firsts_more, first_server_at}
use Rattle.roc_world.proofs.nodes.first_servers.Goals as goal

pub loop-number-preserved : goal.loop-number-preserved
loop-number-preserved c =
    firsts_more (first_server_at c.args.plan.now) c.loop-number.number c.loop-number.servers.items c.push.new.self.items c.in_ok-new.field-0 c.loop-number.invariant c.in_ok-new.ensures.first c.in_ok-push.ensures.items
