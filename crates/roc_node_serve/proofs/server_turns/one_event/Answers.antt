use Rattle.std.proofs.Common.{refl}
use Rattle.roc_io.specs.declared.link.Arrival.TheVariants.{Datagram, Quiet, NoMemory, Failed}
use Rattle.roc_io.specs.Link.{none_came, vain}
use Rattle.roc_node.proofs.Moving.{Moves-one}
use Rattle.roc_node_serve.proofs.Turning.{takes_packet, hinders_packet, takes_silence, wants_memory, hears_nothing}
use Rattle.roc_node_serve.proofs.server_turns.one_event.Goals as goal

pub returns-in-Ok-clause-takes : goal.returns-in-Ok-clause-takes
returns-in-Ok-clause-takes g c =
    takes_packet _ _ _ _ _ _ _ _ _ c.in-Ok.output c.in-Datagram.from c.deref.result.now _ c.deref.ensures.value c.in-Ok.ensures.leads c.in-Ok.ensures.keeps
    (Moves-one _ _ (Datagram c.in-Datagram.from) _ c.in-Datagram.ensures.arrivals c.in-Datagram.ensures.sent c.in-Datagram.ensures.lost c.in-Datagram.ensures.events)

pub returns-in-Err-clause-takes : goal.returns-in-Err-clause-takes
returns-in-Err-clause-takes g c =
    hinders_packet _ _ _ _ _ _ _ _ _ c.in-Err.fault _ c.in-Datagram.from c.deref.result.now _ c.turn_of.ensures c.deref.ensures.value c.in-Err.ensures.hinders c.in-Err.ensures.keeps
    (Moves-one _ _ (Datagram c.in-Datagram.from) _ c.in-Datagram.ensures.arrivals c.in-Datagram.ensures.sent c.in-Datagram.ensures.lost c.in-Datagram.ensures.events)

pub returns-in-Ok-take_silence-clause-takes : goal.returns-in-Ok-take_silence-clause-takes
returns-in-Ok-take_silence-clause-takes g c = let e = c.in-Quiet.ensures in
    takes_silence _ _ _ _ _ _ _ _ _ (λ now name image tells left. g.met.D.Disk.only_now now name image tells left) c.in-Ok-take_silence.ensures.untouched
    c.in-Ok-take_silence.ensures.same c.requires.ready
    c.in-Ok-take_silence.output c.in-Ok-take_silence.ensures.leads (Moves-one _ _ Quiet _ e.arrivals e.sent e.lost e.events)

pub returns-in-Err-take_silence-clause-takes : goal.returns-in-Err-take_silence-clause-takes
returns-in-Err-take_silence-clause-takes g c = let e = c.in-Quiet.ensures in
    wants_memory _ _ _ _ _ _ _ _ _ (λ now name image tells left. g.met.D.Disk.only_now now name image tells left) c.in-Err-take_silence.ensures.untouched
    c.in-Err-take_silence.ensures.same c.requires.ready
    none_came (Moves-one _ _ Quiet _ e.arrivals e.sent e.lost e.events)

pub returns-in-NoMemory-clause-takes : goal.returns-in-NoMemory-clause-takes
returns-in-NoMemory-clause-takes g c = let e = c.in-NoMemory.ensures in
    wants_memory _ _ _ _ _ _ _ _ _ (λ now name image tells left. g.met.D.Disk.only_now now name image tells left) refl refl c.requires.ready
    vain (Moves-one _ _ NoMemory _ e.arrivals e.sent e.lost e.events)

pub returns-in-Failed-clause-takes : goal.returns-in-Failed-clause-takes
returns-in-Failed-clause-takes g c = let e = c.in-Failed.ensures in
    hears_nothing _ _ _ _ _ _ _ _ _ (λ now name image tells left. g.met.D.Disk.only_now now name image tells left) refl refl c.requires.ready
    (Moves-one _ _ Failed _ e.arrivals e.sent e.lost e.events)
