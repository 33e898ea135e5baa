use Rattle.roc_law_nodes.proofs.WorldFolds.{server_fold, coord_fold}
use Rattle.roc_law_nodes.proofs.laws.world_is_folds.Goals as goal

pub returns-clause-servers : goal.returns-clause-servers
returns-clause-servers c plan coords steps w run shard s there = server_fold plan coords run shard s there

pub returns-clause-coords : goal.returns-clause-coords
returns-clause-coords c plan coords steps w run number d there = coord_fold plan coords run number d there
