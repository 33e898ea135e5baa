-- All nodes at once: one server's node for each shard and any number of coordinators' nodes, each run by its own loop, their turns in one order:
-- docs/PROTOCOL.md, "Running nodes"
use Rattle.std.specs.Prelude.{◌≡◌, ℕ, Bool, true, false, ◌==◌, List, [], ◌∷◌, ◌++◌, drop, filter, length, map, Option, Some, None, slice_get, slice_set, if◌then◌else◌}
use Rattle.std.specs.List.{filter_map, range_with_len}
use Rattle.roc_sequence.specs.Lists.{Has}
use Rattle.roc_base.specs.declared.node.Node.{Node}
use Rattle.roc_base.specs.declared.node.Node.TheVariants.{Server, Coord}
use Rattle.roc_base.specs.declared.node.Shard.{Shard}
use Rattle.roc_base.specs.Node.{is_node}
use Rattle.roc_io.specs.declared.link.Addr.{Addr}
use Rattle.roc_msg.specs.declared.msg.Msg.{Msg}
use Rattle.roc_msg.specs.declared.msg.Envelope.{Envelope}
use Rattle.roc_plan.specs.Groups.{Plan}
use Rattle.roc_law_protocol.specs.World.{sent_by}
use Rattle.roc_report.specs.Line.{Line}
use Rattle.roc_sched.specs.declared.line.Request.{Request}
use Rattle.roc_node.specs.Judgement.{judged}
use Rattle.roc_node.specs.declared.judging.Judged.{Judged}
use Rattle.roc_node.specs.declared.judging.Judged.TheVariants.{Delivery, Skipped}
use Rattle.roc_node.specs.NodeEvent.{NodeEvent, took, silent, NodeSetting, node_setting}
use Rattle.roc_node_serve.specs.ServerRun.{ServerNodeState, first_server_node_state, is_stop, AfterTurn}
use Rattle.roc_node_submit.specs.CoordRun.{CoordNodeState, first_coord_node_state, is_answered, coord_submitted, coord_took, IsCoordRun}

-- ---- the nodes

-- what stays the same: the plan, the workload's tag, the addresses of the shards as each node has them, how many coordinators there are, and what
-- each of them is to submit
pub record AllSettings : Type 0 where
  pub plan : Plan
  pub tag : List ℕ
  pub clusters : Node → List Addr
  pub coords : ℕ
  pub requests : ℕ → List Request

-- each node's own setting
abbrev pub setting_at : AllSettings → Node → NodeSetting
setting_at N node = node_setting N.plan N.tag node (N.clusters node)

-- A coordinator's node between two turns. Or within one: its submissions are made, and its receive is still to come; what it was before them, and
-- what it is
pub data CoordPlace : Type 0 where
  between : CoordNodeState → CoordPlace
  within : (before now : CoordNodeState) → CoordPlace

abbrev pub node_at : CoordPlace → CoordNodeState
node_at (between node) = node
node_at (within before now) = now

pub record AllNodes : Type 0 where
  -- the node of each shard's server, and that of each coordinator, by number
  pub servers : List ServerNodeState
  pub coords : List CoordPlace
  -- each message that a core sent, in the order of the turns
  pub sent : List Envelope
  -- the lines of the coordinators' submissions and answers, in that order too, each with the number of its coordinator
  pub told : List (ℕ × Line)

-- before any turn
abbrev pub first_nodes : AllSettings → AllNodes
first_nodes N =
    record {
      servers = map (λ n. first_server_node_state N.plan (record { 0 = n })) (range_with_len 0 N.plan.program.shards);
      coords = map (λ n. between (first_coord_node_state n (N.requests n))) (range_with_len 0 N.coords);
      sent = [];
      told = [];
    }

-- ---- what comes next

-- A turn of a shard's server: a receive, and what comes of it. A coordinator's turn is in two: the submissions before its receive, and that receive
-- with what comes of it. Between the two others may take their turns, so that an answer to a submission may come in the same turn
pub data Move : Type 0 where
  serves : Shard → NodeEvent → Move
  submits : (number : ℕ) → Move
  takes : (number : ℕ) → NodeEvent → Move

-- what a list gained
abbrev pub gained : {A : Type 0} → (before after : List A) → List A
gained before after = drop (length before) after

-- the node of a shard is this one then; what its core sent is in the network
abbrev pub server_moved : AllNodes → Shard → (node next : ServerNodeState) → AllNodes
server_moved all shard node next =
    record all { servers = slice_set all.servers shard.0 next; sent = all.sent ++ map (sent_by (Server shard)) (gained node.messages next.messages) }

-- the same of a coordinator's, which tells what it wrote
abbrev pub coord_moved : AllNodes → (number : ℕ) → (old new : CoordPlace) → AllNodes
coord_moved all number old new =
    record all {
      coords = slice_set all.coords number new;
      sent = all.sent ++ map (sent_by (Coord number)) (gained (node_at old).messages (node_at new).messages);
      told = all.told ++ map (λ line. (number, line)) (gained (node_at old).lines (node_at new).lines);
    }

-- ---- causality

-- some node sent this message to this node
abbrev pub WasSentTo : List Envelope → Node → Msg → Type 0
WasSentTo sent to msg = (from : Node) × Has (record { from = from; to = to; msg = msg }) sent

-- a stop is no core's message, so it may come from anywhere; any other was sent to the node
abbrev pub IsMessageSent : List Envelope → Node → (stops : Bool) → Msg → Type 0
IsMessageSent sent node true msg = Unit {0}
IsMessageSent sent node false msg = WasSentTo sent node msg

-- what a node takes for a delivery has a message that was sent to it; what it skips may be anything
abbrev pub IsJudgedSent : List Envelope → Node → Judged → Type 0
IsJudgedSent sent node (Delivery header msg) = IsMessageSent sent node (is_stop msg) msg
IsJudgedSent sent node (Skipped skip) = Unit {0}

-- silence may come at any time
abbrev pub IsCaused : (tag : List ℕ) → List Envelope → Node → NodeEvent → Type 0
IsCaused tag sent node (took packet) = IsJudgedSent sent node (judged tag packet.bytes)
IsCaused tag sent node silent = Unit {0}

-- ---- runs of all nodes

-- One move after another leads from before any turn to these nodes. Nothing is asked of a node's turn but what its own loop does, and that the
-- message that it takes was sent to it before. A message may come at any time later, again and again, or never; and a node may take no further turn.
-- Where a network brings only what was sent, the order in which the moves begin is such an order: a node sends behind the receive of its move
pub data AreInterleaved (N : AllSettings) : List Move → AllNodes → Type 0 where
  none_moved : AreInterleaved N [] (first_nodes N)
  server_moves : {moves : List Move} {all : AllNodes} (shard : Shard) (node next : ServerNodeState) (event : NodeEvent)
      → AreInterleaved N moves all → slice_get all.servers shard.0 ≡ Some node → node.stopped ≡ false
      → IsCaused N.tag all.sent (Server shard) event → AfterTurn (setting_at N (Server shard)) node event next
      → AreInterleaved N (moves ++ serves shard event ∷ []) (server_moved all shard node next)
  coord_submits : {moves : List Move} {all : AllNodes} (number : ℕ) (node : CoordNodeState)
      → AreInterleaved N moves all → slice_get all.coords number ≡ Some (between node) → is_answered node ≡ false
      → AreInterleaved N (moves ++ submits number ∷ []) (coord_moved all number (between node) (within node (coord_submitted (setting_at N (Coord number)) node)))
  coord_takes : {moves : List Move} {all : AllNodes} (number : ℕ) (before node : CoordNodeState) (event : NodeEvent)
      → AreInterleaved N moves all → slice_get all.coords number ≡ Some (within before node)
      → IsCaused N.tag all.sent (Coord number) event
      → AreInterleaved N (moves ++ takes number event ∷ []) (coord_moved all number (within before node) (between (coord_took (setting_at N (Coord number)) node event)))

-- ---- one node's part

-- the event that a node takes in a move
abbrev pub taken_in : Node → Move → Option NodeEvent
taken_in node (serves shard event) = if is_node (Server shard) node then Some event else None
taken_in node (submits number) = None
taken_in node (takes number event) = if is_node (Coord number) node then Some event else None

-- the events that a node takes, in order
abbrev pub events_at : Node → List Move → List NodeEvent
events_at node moves = filter_map (taken_in node) moves

-- the lines of a coordinator, in order
abbrev pub lines_by : (number : ℕ) → List (ℕ × Line) → List Line
lines_by number told = map (λ t. t.1) (filter (λ t. t.0 == number) told)

-- the coordinator's own loop leads to this place by these events
abbrev pub IsCoordAt : NodeSetting → (number : ℕ) → List Request → List NodeEvent → CoordPlace → Type 0
IsCoordAt S number requests events (between node) = IsCoordRun S number requests events node
IsCoordAt S number requests events (within before now) =
    IsCoordRun S number requests events before × (is_answered before ≡ false) × (now ≡ coord_submitted S before)
