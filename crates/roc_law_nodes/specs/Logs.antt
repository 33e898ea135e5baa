-- Which logs are those of the running nodes of a run: docs/PROTOCOL.md, "Auditing"
use Rattle.std.specs.Prelude.{◌≡◌, ◌↔◌, ℕ, List, Some, filter, slice_get}
use Rattle.roc_sequence.specs.Lists.{Has}
use Rattle.roc_base.specs.declared.node.Shard.{Shard}
use Rattle.roc_base.specs.declared.node.Node.{Node}
use Rattle.roc_base.specs.declared.node.Node.TheVariants.{Server, Coord}
use Rattle.roc_io.specs.declared.link.Addr.{Addr}
use Rattle.roc_io.specs.Packet.{Packet}
use Rattle.roc_plan.specs.Groups.{Plan}
use Rattle.roc_sched.specs.declared.line.Request.{Request}
use Rattle.roc_wire.specs.Reading.{IsBytes}
use Rattle.roc_law_world.specs.World.{World}
use Rattle.roc_law_world.specs.Run.{Stepped, IsNodeOf}
use Rattle.roc_log.specs.declared.line.LogLine.{LogLine}
use Rattle.roc_log.specs.declared.line.Log.{Log}
use Rattle.roc_node.specs.NodeEvent.{NodeEvent, took, node_setting}
use Rattle.roc_node_serve.specs.ServerRun.{ServerNodeState, IsServerRun}
use Rattle.roc_law_nodes.specs.Own.{own_events}
use Rattle.roc_law_nodes.specs.Turns.{turns_bring, is_for_core}
use Rattle.roc_law_nodes.specs.Interleaved.{AllSettings, AllNodes, Move, CoordPlace, node_at, events_at, IsCoordAt}
use Rattle.roc_law_nodes.specs.WorldOf.{owns_to}

-- whatever came is of bytes
abbrev pub CameInBytes : List NodeEvent → Type 0
CameInBytes events = (packet : Packet) → Has (took packet) events → IsBytes packet.bytes

-- A running node is this node of the world in a run, and logs these lines: the own events that it brings to its core are those in the run. A Stop is for
-- no core. A coordinator's node is between two turns, or within one, where it waits for a datagram
pub data LogsInRun (plan : Plan) (tag : List ℕ) (steps : List Stepped) (w : World) : Node → List LogLine → Type 0 where
  by_server : (shard : Shard) (cluster : List Addr) (events : List NodeEvent) (n : ServerNodeState)
      → IsServerRun (node_setting plan tag (Server shard) cluster) shard events n → CameInBytes events
      → filter is_for_core (turns_bring tag events) ≡ own_events (Server shard) w.sent steps → LogsInRun plan tag steps w (Server shard) n.logged
  by_coord : (number : ℕ) (cluster : List Addr) (requests : List Request) (events : List NodeEvent) (place : CoordPlace)
      → IsCoordAt (node_setting plan tag (Coord number) cluster) number requests events place → CameInBytes events
      → filter is_for_core (owns_to (node_setting plan tag (Coord number) cluster) number requests events place) ≡ own_events (Coord number) w.sent steps
      → LogsInRun plan tag steps w (Coord number) (node_at place).logged

-- each log is that of a running node, and each node of the world has one
pub record AreLogsOfNodes (plan : Plan) (steps : List Stepped) (w : World) (logs : List Log) : Type 0 where
  pub each : (log : Log) → Has log logs → IsNodeOf w log.node × LogsInRun plan log.tag steps w log.node log.lines
  pub all : (node : Node) → IsNodeOf w node → (log : Log) × Has log logs × (log.node ≡ node)

-- ---- where the turns of all nodes are interleaved

-- the log of one of these nodes
pub data IsLogAt (N : AllSettings) (all : AllNodes) : Log → Type 0 where
  of_server : (shard : Shard) (n : ServerNodeState) → slice_get all.servers shard.0 ≡ Some n → IsLogAt N all (record { tag = N.tag; node = Server shard; lines = n.logged })
  of_coord : (number : ℕ) (place : CoordPlace) → slice_get all.coords number ≡ Some place → IsLogAt N all (record { tag = N.tag; node = Coord number; lines = (node_at place).logged })

-- these are the logs of all of them
abbrev pub AreLogsAt : AllSettings → AllNodes → List Log → Type 0
AreLogsAt N all logs = (log : Log) → Has log logs ↔ IsLogAt N all log

-- whatever came to any of them is of bytes
abbrev pub AllCameInBytes : List Move → Type 0
AllCameInBytes moves = (node : Node) → CameInBytes (events_at node moves)
