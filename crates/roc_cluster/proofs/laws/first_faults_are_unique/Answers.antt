use Rattle.roc_cluster.proofs.Whole.{fault_once}
use Rattle.roc_cluster.proofs.laws.first_faults_are_unique.Goals as goal

pub returns : goal.returns
returns c = fault_once
