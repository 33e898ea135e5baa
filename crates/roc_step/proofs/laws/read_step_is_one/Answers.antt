use Rattle.roc_step.proofs.OneStep.{one_read_step}
use Rattle.roc_step.proofs.laws.read_step_is_one.Goals as goal

pub returns : goal.returns
returns c = one_read_step
