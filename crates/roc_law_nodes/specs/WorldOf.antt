-- The world of nodes whose turns are interleaved: docs/PROTOCOL.md, "Running nodes"
use Rattle.std.specs.Prelude.{◌≡◌, ℕ, List, ◌++◌, map, filter, Some, slice_get}
use Rattle.roc_base.specs.declared.node.Node.TheVariants.{Server, Coord}
use Rattle.roc_base.specs.declared.node.Shard.{Shard}
use Rattle.roc_replay.specs.Readback.{history_in}
use Rattle.roc_sched.specs.declared.line.Request.{Request}
use Rattle.roc_law_world.specs.Run.{Stepped, IsRun}
use Rattle.roc_law_world.specs.World.{World}
use Rattle.roc_node.specs.NodeEvent.{NodeEvent, NodeSetting}
use Rattle.roc_node_submit.specs.CoordRun.{first_coord_node_state}
use Rattle.roc_law_nodes.specs.Own.{OwnEvent, own_events}
use Rattle.roc_law_nodes.specs.Turns.{turns_bring, is_for_core, own_requests, next_requests, coord_owns}
use Rattle.roc_law_nodes.specs.Interleaved.{AllSettings, AllNodes, Move, CoordPlace, between, within, node_at, setting_at, events_at}

-- the own events of a coordinator's node that these events led to this place: within a turn, with the submissions of that turn
abbrev pub owns_to : NodeSetting → (number : ℕ) → List Request → List NodeEvent → CoordPlace → List OwnEvent
owns_to S number requests events (between node) = coord_owns S (first_coord_node_state number requests) events
owns_to S number requests events (within before now) =
    coord_owns S (first_coord_node_state number requests) events ++ own_requests S.plan (next_requests S before)

-- These steps of the world lead to the nodes: each node has its state, and keeps for views what it keeps; all messages were sent in the order in which
-- the nodes sent them, and the history is what the coordinators' lines tell, in their order. And the own events of each node are those that its turns bring
-- to its core
pub record IsWorldOf (N : AllSettings) (moves : List Move) (all : AllNodes) (steps : List Stepped) (w : World) : Type 0 where
  pub run : IsRun N.plan N.coords steps w
  pub servers : w.servers ≡ map (λ n. n.state) all.servers
  pub viewing : w.viewing ≡ map (λ n. n.viewing) all.servers
  pub coords : w.coords ≡ map (λ c. (node_at c).state) all.coords
  pub sent : w.sent ≡ all.sent
  pub history : w.history ≡ history_in (map (λ t. t.1) all.told)
  pub server_owns : (shard : Shard) → own_events (Server shard) w.sent steps ≡ filter is_for_core (turns_bring N.tag (events_at (Server shard) moves))
  pub coord_owns : (number : ℕ) (place : CoordPlace) → slice_get all.coords number ≡ Some place
      → own_events (Coord number) w.sent steps
      ≡ filter is_for_core (owns_to (setting_at N (Coord number)) number (N.requests number) (events_at (Coord number) moves) place)
