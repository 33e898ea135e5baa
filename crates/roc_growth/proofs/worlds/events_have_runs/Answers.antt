use Rattle.roc_growth.proofs.Outcomes.{run_there}
use Rattle.roc_growth.proofs.worlds.events_have_runs.Goals as goal

pub returns : goal.returns
returns c plan next coords events of counted some may =
    run_there plan next of (λ w e fits event. c.events_have_outcomes.ensures.outcome plan next w e of fits event) coords counted events some may
