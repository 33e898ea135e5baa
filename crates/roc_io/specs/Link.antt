-- What a link binds, sends and receives.
use Rattle.std.specs.Prelude.{◌≡◌, ℕ, ◌-◌, ◌<◌, ◌≤◌, Bool, true, false, List, [], ◌∷◌, length, map, Option, Some, None, IfSome, option_map}
use Rattle.roc_io.specs.Cause.{last_count}
use Rattle.roc_io.specs.Observed.{Adds}
use Rattle.roc_io.specs.declared.link.Bound.{Bound}
use Rattle.roc_io.specs.declared.link.Bound.TheVariants.{Ok as BoundOk, Failed as BoundFailed}
use Rattle.roc_io.specs.declared.link.Sent.{Sent}
use Rattle.roc_io.specs.declared.link.Sent.TheVariants.{Ok as SentOk, Failed as SentFailed}
use Rattle.roc_io.specs.declared.link.Arrival.{Arrival}
use Rattle.roc_io.specs.declared.link.Arrival.TheVariants.{Datagram, Quiet, NoMemory, Failed}
use Rattle.roc_io.specs.Packet.{Packet}

abbrev pub bind_failed : Bound → Bool
bind_failed BoundOk = false
bind_failed BoundFailed = true

abbrev pub send_failed : Sent → Bool
send_failed SentOk = false
send_failed SentFailed = true

abbrev pub receive_failed : Arrival → Bool
receive_failed Failed = true
receive_failed (Datagram from) = false
receive_failed Quiet = false
receive_failed NoMemory = false

-- What a receive makes of the arrivals left, and what it leaves in the buffer: a datagram is the first of
-- them, Quiet comes only where none is left, memory is wanting only for one that is left, and any answer
-- but a datagram leaves them as they were.
abbrev pub Receives : Arrival → Option (List Packet) → Option (List Packet) → List ℕ → Type 0
Receives (Datagram from) old new into = old ≡ option_map (λ left. record { address = from; bytes = into } ∷ left) new
Receives Quiet old new into = (new ≡ old) × IfSome old (λ left. left ≡ []) × (into ≡ [])
Receives NoMemory old new into = (new ≡ old) × IfSome old (λ left. 0 < length left) × (into ≡ [])
Receives Failed old new into = (new ≡ old) × (into ≡ [])

-- what a receive gave: a datagram; nothing, since none came in time; or nothing, since the link failed or memory was wanting
pub data Reception : Type 0 where
  came : Packet → Reception
  none_came : Reception
  vain : Reception

abbrev pub reception : Arrival → (into : List ℕ) → Reception
reception (Datagram from) into = came (record { address = from; bytes = into })
reception Quiet into = none_came
reception NoMemory into = vain
reception Failed into = vain

-- receives that gave this led from the first of these arrivals to the second: each datagram was the first that was left, and none came only
-- where none was left
abbrev pub Hears : List Reception → (old new : List Packet) → Type 0
Hears [] old new = new ≡ old
Hears (came packet ∷ rest) old new = (left : List Packet) × (old ≡ packet ∷ left) × Hears rest left new
Hears (none_came ∷ rest) old new = (old ≡ []) × Hears rest old new
Hears (vain ∷ rest) old new = Hears rest old new

-- the same, where the arrivals are told
abbrev pub HearsTold : List Reception → (old new : Option (List Packet)) → Type 0
HearsTold given None None = Unit {0}
HearsTold given (Some old) (Some new) = Hears given old new
HearsTold given None (Some new) = ⊥
HearsTold given (Some old) None = ⊥

-- ---- what goes over a link, in order

-- a datagram that a link took for sending, one that it did not take, or what a receive gave
pub data LinkEvent : Type 0 where
  sending : Packet → LinkEvent
  losing : Packet → LinkEvent
  receiving : Reception → LinkEvent

-- the event of a send that failed or did not
abbrev pub send_event : (failed : Bool) → Packet → LinkEvent
send_event true packet = losing packet
send_event false packet = sending packet

-- the datagrams among events that a link took, in order
abbrev pub sends_of : List LinkEvent → List Packet
sends_of [] = []
sends_of (sending packet ∷ events) = packet ∷ sends_of events
sends_of (losing packet ∷ events) = sends_of events
sends_of (receiving given ∷ events) = sends_of events

-- those that it did not take
abbrev pub losses_of : List LinkEvent → List Packet
losses_of [] = []
losses_of (sending packet ∷ events) = losses_of events
losses_of (losing packet ∷ events) = packet ∷ losses_of events
losses_of (receiving given ∷ events) = losses_of events

-- what the receives among them gave, in order
abbrev pub receives_of : List LinkEvent → List Reception
receives_of [] = []
receives_of (sending packet ∷ events) = receives_of events
receives_of (losing packet ∷ events) = receives_of events
receives_of (receiving given ∷ events) = given ∷ receives_of events

-- what a link was asked for where this came of it: a send that it did not take was asked for as one that it took
abbrev pub asked_for : LinkEvent → LinkEvent
asked_for (sending packet) = sending packet
asked_for (losing packet) = sending packet
asked_for (receiving given) = receiving given

-- A link was asked for these events, in this order, while its count of lost sends went from the first number to the second. What came of them
-- stands at the same places: each receive, and each send as taken or as lost. Where new is told, it is old with these behind it; and the link sent
-- those that it took, where that is told. As many as it lost were counted, or more, as long as that count stays below its last value.
pub record AddsEvents (lost_old lost_new : ℕ) (sent_old sent_new : Option (List Packet)) (old new : Option (List LinkEvent)) (asked : List LinkEvent) : Type 0 where
  pub told : List LinkEvent
  pub adds : Adds old new told
  pub each : map asked_for told ≡ asked
  pub sent : Adds sent_old sent_new (sends_of told)
  pub lost : lost_new < last_count → length (losses_of told) ≤ lost_new - lost_old
