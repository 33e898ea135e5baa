use Rattle.roc_law_plans.proofs.SmallPlans as small
use Rattle.roc_law_plans.proofs.laws.small_plans_are_accepted.Goals as goal

pub returns-clause-smallest : goal.returns-clause-smallest
returns-clause-smallest c = small.smallest_accepted

pub returns-clause-observed : goal.returns-clause-observed
returns-clause-observed c = small.observed_accepted
