use Rattle.roc_law_world.proofs.Outcomes.{event_of, outcome}
use Rattle.roc_law_world.proofs.worlds.events_have_outcomes.Goals as goal

pub returns-clause-only : goal.returns-clause-only
returns-clause-only c = event_of

pub returns-clause-outcome : goal.returns-clause-outcome
returns-clause-outcome c plan w e fits event = outcome c.order_exists.ensures c.order_is_one.ensures.members plan w fits e event
