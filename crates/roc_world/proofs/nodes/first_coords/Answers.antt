use Rattle.roc_grown.specs.Coord.{first_grown_coord}
use Rattle.roc_world.proofs.FirstNodes.{firsts_more}
use Rattle.roc_world.proofs.nodes.first_coords.Goals as goal

pub loop-number-preserved : goal.loop-number-preserved
loop-number-preserved c = firsts_more first_grown_coord c.loop-number.number c.loop-number.coords.items c.push.new.self.items c.new.result c.loop-number.invariant c.new.ensures c.in_ok-push.ensures.items
