use Rattle.std.proofs.Common.{refl, [], ◌∷◌}
use Rattle.roc_law_plans.specs.SmallPlans.{observed}
use Rattle.roc_law_protocol.specs.Forgotten.{IsSettledIn}
use Rattle.roc_law_world.specs.Bare.{bare}
use Rattle.roc_law_world.specs.World.{first_beginning}
use Rattle.roc_law_world.proofs.ObservedTransaction.{shard, id, view}
use Rattle.roc_law_world.proofs.ObservedRun.{last_world, forgetful_server, run, quiet, not_last, taken_last, late_last}
use Rattle.roc_law_world.proofs.worlds.a_view_is_answered.Goals as goal

pub returns-clause-accepted : goal.returns-clause-accepted
returns-clause-accepted c = c.small_plans_are_accepted.ensures.observed

pub returns-clause-answered : goal.returns-clause-answered
returns-clause-answered c = (run.0, last_world, run.1, id, view, refl, refl, refl, quiet, not_last, forgetful_server, refl, taken_last, refl, settled, late_last.0, late_last.1, late_last.2, late_last.3)
  where
    settled : IsSettledIn (bare last_world) id
    settled =
        (c.forgotten_is_answered.ensures.gone observed (first_beginning observed) 1 run.0 last_world c.small_plans_are_accepted.ensures.observed (c.first_worlds_begin.ensures observed) run.1
        shard forgetful_server refl id (id ∷ []) taken_last refl).2
