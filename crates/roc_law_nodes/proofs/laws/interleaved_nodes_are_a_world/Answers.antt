use Rattle.roc_law_nodes.proofs.Woven.{world_of}
use Rattle.roc_law_nodes.proofs.laws.interleaved_nodes_are_a_world.Goals as goal

pub returns : goal.returns
returns c N moves all r = world_of N r
