use Rattle.roc_cluster.proofs.Whole.{file_has_none}
use Rattle.roc_cluster.proofs.laws.cluster_files_keep_the_rules.Goals as goal

pub returns : goal.returns
returns c shards bytes cluster fault file first = file_has_none shards bytes cluster first.0 fault file first.1 first.2
