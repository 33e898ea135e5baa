use Rattle.std.proofs.Common.{refl}
use Rattle.roc_generate.specs.Draws.{next_state}
use Rattle.roc_generate.proofs.laws.first_draws.Goals as goal

pub returns-clause-one : goal.returns-clause-one
unfolding next_state
returns-clause-one c = refl

pub returns-clause-zero : goal.returns-clause-zero
unfolding next_state
returns-clause-zero c = refl
