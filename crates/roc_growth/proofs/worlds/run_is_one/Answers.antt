use Rattle.roc_growth.proofs.OneRun.{one_run}
use Rattle.roc_growth.proofs.worlds.run_is_one.Goals as goal

pub returns : goal.returns
returns c plan next coords steps others w v r q e = one_run c.step_is_one.ensures c.read_step_is_one.ensures plan next coords r q e
