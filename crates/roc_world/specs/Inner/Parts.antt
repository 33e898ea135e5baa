-- What a world's fields hold, as the definitions see it
use Rattle.std.specs.Prelude.{◌≡◌, ℕ, List, Option, Some, map, take, slice_get, slice_set}
use Rattle.roc_base.specs.declared.id.TxnId.{TxnId}
use Rattle.roc_base.specs.declared.node.Node.TheVariants.{Server}
use Rattle.roc_base.specs.declared.node.Shard.{Shard}
use Rattle.roc_plan.specs.Groups.{Plan}
use Rattle.roc_law_protocol.specs.Happens.{RanAt}
use Rattle.roc_epoch.specs.declared.next.Next.{Next}
use Rattle.roc_two_files.specs.Sealed.{Sealed}
use Rattle.roc_grown.specs.Server.{GrownServerState, GrownStep, GrownHandles, restarted, grown_server_tick}
use Rattle.roc_growth.specs.declared.event.Event.{Event}
use Rattle.roc_growth.specs.declared.event.Seen.{Seen}
use Rattle.roc_growth.specs.Happens.{IsSentTo, Happens}
use Rattle.roc_growth.specs.World.{GrownWorld, sends, mark_delivered, at_server}
use Rattle.roc_world.specs.Inner.Looks.{looked}
use Rattle.roc_world.specs.declared.parts.Parts.{Parts}

abbrev pub world_of : Parts → GrownWorld
world_of p =
    record {
      servers = p.servers.items;
      coords = p.coords.items;
      sent = p.network.sent;
      undelivered = p.network.undelivered;
      history = p.history;
      order = p.order;
      looks = map looked p.looks.items;
    }

-- the event leads from the one world to the other, and this is seen of it
abbrev pub Leads : Plan → Option Next → GrownWorld → Event → Seen → GrownWorld → Type 0
Leads plan next w e seen after =
    (components : List (List TxnId)) × (decided : List TxnId) × (ran : List RanAt)
    × Happens plan next w e (record { seen = seen; components = components; decided = decided; ran = ran; world = after })

-- the server of a shard took a message, and so many of the messages that came of it were sent; no kept read is dropped yet
pub record TakesCut (plan : Plan) (next : Option Next) (w : GrownWorld) (shard : Shard) (number many : ℕ) (after : GrownWorld) : Type 0 where
  pub message : Sealed
  pub sent : IsSentTo w.sent number shard.0 message
  pub state : GrownServerState
  pub there : slice_get w.servers shard.0 ≡ Some state
  pub step : GrownStep
  pub handles : GrownHandles plan next state message.file message.message.msg step
  pub is : after ≡ at_server (mark_delivered w number) shard.0 (record step { sends = take many step.sends })

-- a server drops the reads that it keeps, and ticks
pub record StartsAgain (w : GrownWorld) (shard : Shard) (after : GrownWorld) : Type 0 where
  pub state : GrownServerState
  pub there : slice_get w.servers shard.0 ≡ Some state
  pub is : after ≡ sends (record w { servers = slice_set w.servers shard.0 (restarted state) }) state.switched (Server shard) (grown_server_tick state)
