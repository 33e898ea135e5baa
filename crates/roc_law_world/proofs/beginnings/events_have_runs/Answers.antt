use Rattle.roc_law_world.proofs.Outcomes.{run_there}
use Rattle.roc_law_world.proofs.beginnings.events_have_runs.Goals as goal

pub returns : goal.returns
returns c plan b coords events some may = run_there c.events_have_outcomes.ensures.outcome plan b coords events some may
