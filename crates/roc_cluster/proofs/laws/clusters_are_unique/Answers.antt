use Rattle.roc_cluster.proofs.Whole.{file_once}
use Rattle.roc_cluster.proofs.laws.clusters_are_unique.Goals as goal

pub returns : goal.returns
returns c = file_once
