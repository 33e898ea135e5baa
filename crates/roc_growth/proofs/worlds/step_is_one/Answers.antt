use Rattle.roc_growth.proofs.OneRun.{one_step}
use Rattle.roc_growth.proofs.worlds.step_is_one.Goals as goal

pub returns : goal.returns
returns c plan next = one_step c.step_is_one.ensures c.read_step_is_one.ensures plan next
