use Rattle.roc_law_grown_nodes.proofs.GrownWoven.{world_of}
use Rattle.roc_law_grown_nodes.proofs.laws.interleaved_grown_nodes_are_a_world.Goals as goal

pub returns : goal.returns
returns c N moves all grown r = world_of N grown r
