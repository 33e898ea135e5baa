use Rattle.roc_growth.proofs.Outcomes.{event_of, outcome}
use Rattle.roc_growth.proofs.worlds.events_have_outcomes.Goals as goal

pub returns-clause-only : goal.returns-clause-only
returns-clause-only c = event_of

pub returns-clause-outcome : goal.returns-clause-outcome
returns-clause-outcome c plan next w e of fits event = outcome c.order_exists.ensures c.order_is_one.ensures.members plan next of w fits e event
