-- In a run in which no server stops behind it, a delivery counts
use Rattle.std.proofs.Common.{◌≡◌, ℕ, suc, Bool, true, false, List, ◌∷◌, ◌++◌, Option, Some, None}
use Rattle.std.proofs.lemmas.Bool.{false≢true}
use Rattle.std.specs.Prelude.{take, drop}
use Rattle.std.specs.List.{list_all}
use Rattle.roc_sequence.proofs.Holds.{every_has}
use Rattle.roc_base.specs.declared.node.Node.{Node}
use Rattle.roc_msg.specs.declared.msg.Envelope.{Envelope}
use Rattle.roc_law_protocol.specs.declared.event.Event.{Event}
use Rattle.roc_law_protocol.specs.declared.event.Event.TheVariants.{Submit, Deliver, Tick, Stop}
use Rattle.roc_law_protocol.specs.Quiet.{StopsReceiver, Counts}

-- the event stops no server
abbrev pub goes_on : Option Event → Bool
goes_on (Some (Stop shard during)) = false
goes_on e = true

none_stopped : (e : Option Event) (to : Node) → goes_on e ≡ true → ¬ StopsReceiver e to
none_stopped None to is h = h
none_stopped (Some (Submit n proc args)) to is h = h
none_stopped (Some (Deliver k)) to is h = h
none_stopped (Some (Tick node)) to is h = h
none_stopped (Some (Stop shard during)) to is h = false≢true is

pub counts_at : (events : List (Option Event)) (sent : List Envelope) (place k : ℕ) → events ≡ take place events ++ Some (Deliver k) ∷ drop (suc place) events
    → list_all goes_on (drop (suc place) events) ≡ true → Counts events sent k
counts_at events sent place k at none =
    record {
      front = take place events;
      behind = drop (suc place) events;
      at = at;
      since = λ e m h there. none_stopped e m.to (every_has goes_on (drop (suc place) events) none e h);
    }
