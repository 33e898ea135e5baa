use Rattle.roc_generate.proofs.Fitting.{canonical_text, planned}
use Rattle.roc_generate.proofs.laws.workloads_have_plans.Goals as goal

pub returns-clause-canonical : goal.returns-clause-canonical
returns-clause-canonical c = canonical_text

pub returns-clause-plan : goal.returns-clause-plan
returns-clause-plan c = planned
