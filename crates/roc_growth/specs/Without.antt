-- A world of one file, its events and what is seen of them, as those of two of which the second never comes: docs/PROTOCOL.md, "Growth"
use Rattle.std.specs.Prelude.{false, List, [], ◌∷◌, Option, Some, None, map}
use Rattle.roc_msg.specs.declared.msg.Envelope.{Envelope}
use Rattle.roc_step.specs.State.{ServerState, Viewing}
use Rattle.roc_coord.specs.State.{CoordState}
use Rattle.roc_law_protocol.specs.declared.event.Event as its
use Rattle.roc_law_protocol.specs.declared.event.Event.TheVariants as one
use Rattle.roc_law_protocol.specs.declared.event.Seen as its_seen
use Rattle.roc_law_protocol.specs.declared.event.Seen.TheVariants as seen_there
use Rattle.roc_law_world.specs.World.{World}
use Rattle.roc_law_world.specs.Run as views
use Rattle.roc_epoch.specs.Files.{file_of}
use Rattle.roc_two_files.specs.Sealed.{Sealed}
use Rattle.roc_grown.specs.Server.{GrownServerState, none_drained}
use Rattle.roc_grown.specs.Coord.{GrownCoordState}
use Rattle.roc_growth.specs.declared.event.Event.{Event}
use Rattle.roc_growth.specs.declared.event.Event.TheVariants.{Submit, Deliver, Tick, Stop}
use Rattle.roc_growth.specs.declared.event.Seen.{Seen}
use Rattle.roc_growth.specs.declared.event.Seen.TheVariants as seen
use Rattle.roc_growth.specs.World.{GrownWorld}
use Rattle.roc_growth.specs.Run.{Stepped}

-- nobody has told it anything of another file
abbrev pub plain_server : ServerState → Viewing → GrownServerState
plain_server s v = record { core = s; viewing = v; drained = none_drained; switched = false }

abbrev pub plain_servers : List ServerState → List Viewing → List GrownServerState
plain_servers [] vs = []
plain_servers (s ∷ ss) [] = []
plain_servers (s ∷ ss) (v ∷ vs) = plain_server s v ∷ plain_servers ss vs

-- it takes submissions
abbrev pub plain_coord : CoordState → GrownCoordState
plain_coord c = record { core = c; draining = false; upto = None; at = []; switched = false }

abbrev pub sealed_plain : Envelope → Sealed
sealed_plain m = record { file = file_of false m.msg; message = m }

-- each node is plain, and each message is of the file of a node that has not switched
abbrev pub plain_world : World → GrownWorld
plain_world w =
    record {
      servers = plain_servers w.servers w.viewing;
      coords = map plain_coord w.coords;
      sent = map sealed_plain w.sent;
      undelivered = w.undelivered;
      history = w.history;
      order = w.order;
      looks = w.looks;
    }

abbrev pub same_event : its.Event → Event
same_event (one.Submit coord proc args) = Submit coord proc args
same_event (one.Deliver k) = Deliver k
same_event (one.Tick node) = Tick node
same_event (one.Stop shard during) = Stop shard during

abbrev pub same_event_if : Option its.Event → Option Event
same_event_if None = None
same_event_if (Some e) = Some (same_event e)

abbrev pub same_seen : its_seen.Seen → Seen
same_seen (seen_there.Submitted id) = seen.Submitted id
same_seen seen_there.Spent = seen.Spent
same_seen seen_there.Busy = seen.Busy
same_seen seen_there.Done = seen.Done
same_seen (seen_there.Answered id reply) = seen.Answered id reply
same_seen seen_there.Gone = seen.Gone
same_seen (seen_there.Ignored why) = seen.Ignored why

abbrev pub plain_step : views.Stepped → Stepped
plain_step x =
    record {
      event = same_event_if x.event;
      outcome = record {
        seen = same_seen x.outcome.seen;
        components = x.outcome.components;
        decided = x.outcome.decided;
        ran = x.outcome.ran;
        world = plain_world x.outcome.world;
      };
    }
