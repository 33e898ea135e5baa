use Rattle.std.proofs.Common.{◌∙◌}
use Rattle.roc_node_local.proofs.Giving.{next_shard}
use Rattle.roc_node_local.proofs.stops.send_to_each.Goals as goal

pub loop-addr-preserved : goal.loop-addr-preserved
loop-addr-preserved g c = (
  next_shard _ _ _ c.args.bytes.now c.args.cluster.now c.addrs-addr-items.result.now c.loop-addr.addr-index _ c.addrs-addr-items.ensures c.loop-addr-test.true
      c.loop-addr.invariant.0 c.send_thrice.ensures.given,
  c.send_thrice.ensures.faults ∙ c.loop-addr.invariant.1,
  c.send_thrice.ensures.bound ∙ c.loop-addr.invariant.2,
  c.send_thrice.ensures.arrivals ∙ c.loop-addr.invariant.3,
)
