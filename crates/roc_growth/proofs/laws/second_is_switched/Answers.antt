use Rattle.roc_growth.proofs.Submitting.{as_switched, submitted_by}
use Rattle.roc_growth.proofs.laws.second_is_switched.Goals as goal

pub returns-clause-step : goal.returns-clause-step
returns-clause-step c plan next coords steps w accepted of run = submitted_by plan next coords (λ steps w run. c.grown_runs_are_two.ensures plan next coords steps w accepted of run) steps w run

pub returns-clause-file : goal.returns-clause-file
returns-clause-file c plan next coords steps w accepted of run = as_switched plan next coords (λ steps w run. c.grown_runs_are_two.ensures plan next coords steps w accepted of run) steps w run
