use Rattle.roc_plan.proofs.Turned.{in_turn}
use Rattle.roc_plan.proofs.laws.groups_can_run_in_turn.Goals as goal

pub returns : goal.returns
returns c = in_turn
