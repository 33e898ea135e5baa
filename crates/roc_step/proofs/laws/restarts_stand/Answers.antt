use Rattle.roc_step.proofs.KeptFolds.{stands_again}
use Rattle.roc_step.proofs.laws.restarts_stand.Goals as goal

pub returns : goal.returns
returns c plan shard msgs s v x = stands_again plan shard msgs s v x
