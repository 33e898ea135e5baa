use Rattle.roc_node_serve.proofs.Logs.{event_as}
use Rattle.roc_node_serve.proofs.logging.append_event.Goals as goal

pub returns-in-Some : goal.returns-in-Some
returns-in-Some c = λ program. event_as program _ _ _ _ _ c.in-Some.is (c.append_in.ensures.ok program)

pub returns-in-None : goal.returns-in-None
returns-in-None c = λ program. event_as program _ _ _ _ _ c.in-None.is (c.append_tick.ensures.ok program)
