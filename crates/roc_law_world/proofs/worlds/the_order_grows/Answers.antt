use Rattle.roc_law_world.proofs.AnyWorld.{order_grows}
use Rattle.roc_law_world.proofs.worlds.the_order_grows.Goals as goal

pub returns : goal.returns
returns c = order_grows
