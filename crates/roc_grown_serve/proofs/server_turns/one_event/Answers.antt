use Rattle.roc_io.specs.declared.link.Arrival.TheVariants.{Datagram, Quiet, NoMemory, Failed}
use Rattle.roc_io.specs.Link.{came, none_came, vain}
use Rattle.roc_node.proofs.Moving.{Moves-one}
use Rattle.roc_grown_serve.proofs.Turning.{takes_packet, takes_silence, wants_memory, hears_nothing}
use Rattle.roc_grown_serve.proofs.server_turns.one_event.Goals as goal

pub returns-in-Ok-clause-takes : goal.returns-in-Ok-clause-takes
returns-in-Ok-clause-takes g c = let e = c.in-Datagram.ensures in
    takes_packet _ _ _ _ _ c.in-Ok.output c.in-Datagram.from c.deref.result.now _ c.deref.ensures.value c.in-Ok.ensures.leads
    (Moves-one _ _ (Datagram c.in-Datagram.from) _ e.arrivals e.sent e.lost e.events)

pub returns-in-Err-clause-takes : goal.returns-in-Err-clause-takes
returns-in-Err-clause-takes g c = let e = c.in-Datagram.ensures in wants_memory _ _ _ _ _ (came _) (Moves-one _ _ (Datagram c.in-Datagram.from) _ e.arrivals e.sent e.lost e.events)

pub returns-in-Ok-take_silence-clause-takes : goal.returns-in-Ok-take_silence-clause-takes
returns-in-Ok-take_silence-clause-takes g c = let e = c.in-Quiet.ensures in
    takes_silence _ _ _ _ _ c.in-Ok-take_silence.output c.in-Ok-take_silence.ensures.leads (Moves-one _ _ Quiet _ e.arrivals e.sent e.lost e.events)

pub returns-in-Err-take_silence-clause-takes : goal.returns-in-Err-take_silence-clause-takes
returns-in-Err-take_silence-clause-takes g c = let e = c.in-Quiet.ensures in wants_memory _ _ _ _ _ none_came (Moves-one _ _ Quiet _ e.arrivals e.sent e.lost e.events)

pub returns-in-NoMemory-clause-takes : goal.returns-in-NoMemory-clause-takes
returns-in-NoMemory-clause-takes g c = let e = c.in-NoMemory.ensures in wants_memory _ _ _ _ _ vain (Moves-one _ _ NoMemory _ e.arrivals e.sent e.lost e.events)

pub returns-in-Failed-clause-takes : goal.returns-in-Failed-clause-takes
returns-in-Failed-clause-takes g c = let e = c.in-Failed.ensures in hears_nothing _ _ _ _ _ (Moves-one _ _ Failed _ e.arrivals e.sent e.lost e.events)
