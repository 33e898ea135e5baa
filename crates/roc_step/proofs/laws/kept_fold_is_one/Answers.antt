use Rattle.std.proofs.Common.{refl}
use Rattle.roc_step.proofs.KeptFolds.{one_fold}
use Rattle.roc_step.proofs.laws.kept_fold_is_one.Goals as goal

pub returns : goal.returns
returns c plan shard msgs s t v u f g = one_fold plan shard f g refl
