use Rattle.std.proofs.Common.{◌∙◌}
use Rattle.roc_io.specs.Link.{send_failed}
use Rattle.roc_node_local.proofs.Giving.{same_again}
use Rattle.roc_node_local.proofs.stops.send_thrice.Goals as goal

pub loop-preserved : goal.loop-preserved
loop-preserved g c = (
  same_again (send_failed c.send.result) c.loop.counter _ _ _ _ c.loop.invariant.0 c.send.ensures.arrivals c.send.ensures.cause c.send.ensures.sent c.send.ensures.events,
  c.send.ensures.faults ∙ c.loop.invariant.1,
  c.send.ensures.bound ∙ c.loop.invariant.2,
  c.send.ensures.arrivals ∙ c.loop.invariant.3,
)
