use Rattle.roc_law_world.proofs.WovenOrder.{prefix}
use Rattle.roc_law_world.proofs.beginnings.views_read_a_prefix.Goals as goal

pub returns : goal.returns
returns c plan b coords steps w accepted begins run = let f = c.looks_fit.ensures plan b coords steps w accepted begins run in prefix plan b coords steps w run f.0 f.1 f.4 f.5
