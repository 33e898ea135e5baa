use Rattle.roc_step.proofs.KeptFolds.{stands_on}
use Rattle.roc_step.proofs.laws.records_stand.Goals as goal

pub returns : goal.returns
returns c plan shard msgs s v m r q x = stands_on plan shard msgs s v x m r q
