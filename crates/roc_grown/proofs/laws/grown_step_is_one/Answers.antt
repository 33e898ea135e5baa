use Rattle.std.proofs.Common.{refl}
use Rattle.roc_grown.proofs.Steps.{one_grown_step}
use Rattle.roc_grown.proofs.laws.grown_step_is_one.Goals as goal

pub returns : goal.returns
returns c plan next s file msg g other h k = one_grown_step plan next s file h k refl
