use Rattle.roc_grown.proofs.Steps.{grown_step_there}
use Rattle.roc_grown.proofs.laws.grown_steps_are_there.Goals as goal

pub returns : goal.returns
returns c = grown_step_there
