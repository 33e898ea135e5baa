use Rattle.roc_growth.proofs.FitGrown.{first_fits, comes_fits, run_fits}
use Rattle.roc_growth.proofs.worlds.grown_worlds_fit.Goals as goal

pub returns-clause-first : goal.returns-clause-first
returns-clause-first c = first_fits

pub returns-clause-kept : goal.returns-clause-kept
returns-clause-kept c plan next w e o of fits h = comes_fits plan next of w fits e o h

pub returns-clause-runs : goal.returns-clause-runs
returns-clause-runs c plan next coords steps w of some run = run_fits plan next of coords some steps w run
