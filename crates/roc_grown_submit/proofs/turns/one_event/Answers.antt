use Rattle.roc_io.specs.declared.link.Arrival.TheVariants.{Datagram, Quiet, NoMemory}
use Rattle.roc_node.proofs.Moving.{Moves-one, loses_one}
use Rattle.roc_grown_submit.proofs.Turning.{due_packet}
use Rattle.roc_grown_submit.proofs.turns.one_event.Goals as goal

pub returns-in-Ok-clause-takes : goal.returns-in-Ok-clause-takes
returns-in-Ok-clause-takes g c =
    due_packet _ _ _ c.in-Ok.output c.in-Datagram.from c.deref.result.now _ _ _ c.deref.ensures.value c.in-Ok.ensures.takes
    (Moves-one _ _ (Datagram c.in-Datagram.from) _ c.in-Datagram.ensures.arrivals c.in-Datagram.ensures.sent c.in-Datagram.ensures.lost c.in-Datagram.ensures.events)

pub returns-in-Err-clause-takes : goal.returns-in-Err-clause-takes
returns-in-Err-clause-takes g c =
    let e = c.in-Datagram.ensures in loses_one _ _ (Datagram c.in-Datagram.from) _ e.arrivals e.sent e.lost e.events

pub returns-in-Err-take_silence-clause-takes : goal.returns-in-Err-take_silence-clause-takes
returns-in-Err-take_silence-clause-takes g c = let e = c.in-Quiet.ensures in loses_one _ _ Quiet _ e.arrivals e.sent e.lost e.events

pub returns-in-NoMemory-clause-takes : goal.returns-in-NoMemory-clause-takes
returns-in-NoMemory-clause-takes g c = let e = c.in-NoMemory.ensures in loses_one _ _ NoMemory _ e.arrivals e.sent e.lost e.events
