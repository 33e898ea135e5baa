use Rattle.roc_generate.proofs.Fitting.{load_fits}
use Rattle.roc_generate.proofs.laws.schedules_fit.Goals as goal

pub returns : goal.returns
returns c = load_fits c.plans_are_unique.ensures.plan
