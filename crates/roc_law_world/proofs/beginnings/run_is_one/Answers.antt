use Rattle.roc_law_world.proofs.OneRun.{one_run}
use Rattle.roc_law_world.proofs.beginnings.run_is_one.Goals as goal

pub returns : goal.returns
returns c plan b coords steps others w v r q same = one_run plan (c.step_is_one.ensures plan) (c.read_step_is_one.ensures plan) b coords r q same
