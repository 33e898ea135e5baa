use Rattle.roc_growth.proofs.PlainRuns.{runs_plainly}
use Rattle.roc_growth.proofs.worlds.runs_without_growth.Goals as goal

pub returns : goal.returns
returns c plan coords steps w run = runs_plainly c.order_exists.ensures c.order_is_one.ensures.members plan coords steps w run
