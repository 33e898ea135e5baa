use Rattle.roc_law_world.proofs.FitWorlds.{begun_fits, comes_fits, run_fits}
use Rattle.roc_law_world.proofs.beginnings.worlds_fit.Goals as goal

pub returns-clause-first : goal.returns-clause-first
returns-clause-first c plan b coords some = begun_fits plan b coords some

pub returns-clause-kept : goal.returns-clause-kept
returns-clause-kept c = comes_fits

pub returns-clause-runs : goal.returns-clause-runs
returns-clause-runs c plan b coords steps w some r = run_fits plan b coords some steps w r
