use Rattle.roc_step.proofs.OneStep.{one_step}
use Rattle.roc_step.proofs.laws.step_is_one.Goals as goal

pub returns : goal.returns
returns c = one_step
