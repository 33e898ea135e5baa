use Rattle.roc_check.proofs.Formed.{accepted_by_text}
use Rattle.roc_check.proofs.laws.plans_are_accepted.Goals as goal

pub returns : goal.returns
returns c = accepted_by_text
