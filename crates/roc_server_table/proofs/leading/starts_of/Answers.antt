use Rattle.roc_server_table.proofs.LedTo.{starts_more}
use Rattle.roc_server_table.proofs.leading.starts_of.Goals as goal

pub loop-edge-preserved : goal.loop-edge-preserved
loop-edge-preserved c =
    starts_more c.args.numbers.now.entries c.args.edges.now c.loop-edge.edge-index c.edge-item.result c.from.result c.loop-edge.starts.items c.push_start.new.starts.items c.loop-edge-test.true
    c.edge-item.is c.from.ensures.value c.loop-edge.invariant c.in_ok-push_start.ensures
