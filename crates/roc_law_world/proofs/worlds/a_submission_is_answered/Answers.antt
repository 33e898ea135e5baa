use Rattle.std.proofs.Common.{refl}
use Rattle.roc_law_world.proofs.SmallestRun.{id, answered_world, run, quiet}
use Rattle.roc_law_world.proofs.worlds.a_submission_is_answered.Goals as goal

pub returns-clause-accepted : goal.returns-clause-accepted
returns-clause-accepted c = c.small_plans_are_accepted.ensures.smallest

pub returns-clause-answered : goal.returns-clause-answered
returns-clause-answered c = (run.0, answered_world, run.1, id, refl, refl, quiet)
