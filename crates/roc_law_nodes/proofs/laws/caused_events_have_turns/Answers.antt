use Rattle.roc_law_world.specs.World.{first_beginning}
use Rattle.roc_law_nodes.proofs.Going.{going_on}
use Rattle.roc_law_nodes.proofs.Spelled.{spelled_is_caused}
use Rattle.roc_law_nodes.proofs.laws.caused_events_have_turns.Goals as goal

pub returns-clause-spelled : goal.returns-clause-spelled
returns-clause-spelled c tag sent to packet msg spells was = spelled_is_caused c.spelled_is_read.ensures tag sent to packet msg spells was

pub returns-clause-turns : goal.returns-clause-turns
returns-clause-turns c N moves all some r shard n there event caused =
    going_on N (λ steps w run. c.worlds_fit.ensures.runs N.plan (first_beginning N.plan) N.coords steps w some run)
    (λ w e fits may. (let o = c.events_have_outcomes.ensures.outcome N.plan w e fits may in (o.0, o.1))) r shard n there event caused
