use Rattle.roc_law_world.proofs.OneRun.{one_step}
use Rattle.roc_law_world.proofs.worlds.step_is_one.Goals as goal

pub returns : goal.returns
returns c plan = one_step plan (c.step_is_one.ensures plan) (c.read_step_is_one.ensures plan)
