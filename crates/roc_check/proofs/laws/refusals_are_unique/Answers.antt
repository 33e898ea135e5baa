use Rattle.roc_check.proofs.Unique.{one_refusal, plan_not_refused}
use Rattle.roc_check.proofs.Chosen.{plan_or_refusal}
use Rattle.roc_check.proofs.laws.refusals_are_unique.Goals as goal

pub returns-clause-line : goal.returns-clause-line
returns-clause-line c = one_refusal

pub returns-clause-no_plan : goal.returns-clause-no_plan
returns-clause-no_plan c = plan_not_refused

pub returns-clause-one_of : goal.returns-clause-one_of
returns-clause-one_of c = plan_or_refusal
