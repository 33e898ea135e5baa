-- All nodes that may go over to a grown workload at once: one server's node for each shard and one coordinator's node for each number, each run by its own loop,
-- their turns in one order: docs/PROTOCOL.md, "Running nodes"
use Rattle.std.specs.Prelude.{◌≡◌, ℕ, Bool, true, false, List, [], ◌∷◌, ◌++◌, map, Some, slice_get, slice_set}
use Rattle.std.specs.List.{range_with_len}
use Rattle.roc_sequence.specs.Lists.{Has}
use Rattle.roc_base.specs.declared.node.Node.{Node}
use Rattle.roc_base.specs.declared.node.Node.TheVariants.{Server, Coord}
use Rattle.roc_base.specs.declared.node.Shard.{Shard}
use Rattle.roc_io.specs.declared.link.Addr.{Addr}
use Rattle.roc_msg.specs.declared.msg.Msg.{Msg}
use Rattle.roc_plan.specs.Groups.{Plan}
use Rattle.roc_law_protocol.specs.World.{sent_by}
use Rattle.roc_report.specs.Line.{Line}
use Rattle.roc_sched.specs.declared.line.Request.{Request}
use Rattle.roc_epoch.specs.declared.file.File.{File}
use Rattle.roc_epoch.specs.declared.next.Next.{Next}
use Rattle.roc_two_files.specs.Sealed.{Sealed}
use Rattle.roc_node.specs.NodeEvent.{NodeEvent, took, silent}
use Rattle.roc_node_serve.specs.ServerRun.{is_stop}
use Rattle.roc_grown_node.specs.Setting.{GrownNodeSetting, grown_node_setting}
use Rattle.roc_grown_node.specs.Judgement.{grown_judged}
use Rattle.roc_grown_node.specs.Posting.{Filed}
use Rattle.roc_grown_node.specs.declared.judging.GrownJudged.{GrownJudged}
use Rattle.roc_grown_node.specs.declared.judging.GrownJudged.TheVariants.{Delivery, Skipped}
use Rattle.roc_grown_serve.specs.GrownRun.{GrownNodeState, first_grown_node, AfterGrownTurn}
use Rattle.roc_grown_submit.specs.GrownCoordRun.{GrownCoordNodeState, first_grown_coord_node_state, are_all_answered, grown_submitted_node, grown_coord_took, IsGrownCoordRun}
use Rattle.roc_law_nodes.specs.Interleaved.{Move, serves, submits, takes, gained}

-- ---- the nodes

-- what stays the same: the plan of the first file and its tag, the file that comes next with the number of coordinators, the addresses of the shards as each
-- node has them, and what each coordinator is to submit of the first file and then of the second
pub record AllGrownSettings : Type 0 where
  pub plan : Plan
  pub tag : List ℕ
  pub next : Next
  pub clusters : Node → List Addr
  pub requests : ℕ → List Request
  pub later : ℕ → List Request

-- a coordinator's node is not told how many coordinators there are: it judges as if there were sixteen
abbrev pub next_at : AllGrownSettings → Node → Next
next_at N (Server shard) = N.next
next_at N (Coord number) = record N.next { coords = 16 }

-- each node's own setting
abbrev pub grown_setting_at : AllGrownSettings → Node → GrownNodeSetting
grown_setting_at N node = grown_node_setting N.plan N.tag (next_at N node) node (N.clusters node)

-- A coordinator's node between two turns. Or within one: its drain and its submissions are made, and its receive is still to come; what it was before them,
-- and what it is
pub data GrownCoordPlace : Type 0 where
  between : GrownCoordNodeState → GrownCoordPlace
  within : (before now : GrownCoordNodeState) → GrownCoordPlace

abbrev pub grown_node_at : GrownCoordPlace → GrownCoordNodeState
grown_node_at (between node) = node
grown_node_at (within before now) = now

pub record AllGrownNodes : Type 0 where
  -- the node of each shard's server, and that of each coordinator, by number
  pub servers : List GrownNodeState
  pub coords : List GrownCoordPlace
  -- each message that a core sent, with its file, in the order of the turns
  pub sent : List Sealed
  -- the lines of the coordinators' submissions and answers, in that order too, each with the number of its coordinator
  pub told : List (ℕ × Line)

-- before any turn
abbrev pub first_grown_nodes : AllGrownSettings → AllGrownNodes
first_grown_nodes N =
    record {
      servers = map (λ n. first_grown_node N.plan (record { 0 = n })) (range_with_len 0 N.plan.program.shards);
      coords = map (λ n. between (first_grown_coord_node_state n (N.requests n) (N.later n))) (range_with_len 0 N.next.coords);
      sent = [];
      told = [];
    }

-- ---- what comes next

-- a message that this node sent
abbrev pub sealed_of : (from : Node) → Filed → Sealed
sealed_of from m = record { file = m.file; message = sent_by from m.out }

-- the node of a shard is this one then; what its core sent is in the network
abbrev pub grown_server_moved : AllGrownNodes → Shard → (node next : GrownNodeState) → AllGrownNodes
grown_server_moved all shard node next =
    record all { servers = slice_set all.servers shard.0 next; sent = all.sent ++ map (sealed_of (Server shard)) (gained node.messages next.messages) }

-- the same of a coordinator's, which tells what it wrote
abbrev pub grown_coord_moved : AllGrownNodes → (number : ℕ) → (old new : GrownCoordPlace) → AllGrownNodes
grown_coord_moved all number old new =
    record all {
      coords = slice_set all.coords number new;
      sent = all.sent ++ map (sealed_of (Coord number)) (gained (grown_node_at old).messages (grown_node_at new).messages);
      told = all.told ++ map (λ line. (number, line)) (gained (grown_node_at old).lines (grown_node_at new).lines);
    }

-- ---- causality

-- some node sent this message of this file to this node
abbrev pub WasSentAs : List Sealed → (to : Node) → File → Msg → Type 0
WasSentAs sent to file msg = (from : Node) × Has (record { file = file; message = record { from = from; to = to; msg = msg } }) sent

-- a stop is no core's message, so it may come from anywhere; any other was sent to the node
abbrev pub IsFiledSent : List Sealed → Node → (stops : Bool) → File → Msg → Type 0
IsFiledSent sent node true file msg = Unit {0}
IsFiledSent sent node false file msg = WasSentAs sent node file msg

-- what a node takes for a delivery has a message of that file that was sent to it; what it skips may be anything
abbrev pub IsGrownJudgedSent : List Sealed → Node → GrownJudged → Type 0
IsGrownJudgedSent sent node (Delivery header file msg) = IsFiledSent sent node (is_stop msg) file msg
IsGrownJudgedSent sent node (Skipped skip) = Unit {0}

-- silence may come at any time
abbrev pub IsGrownCaused : GrownNodeSetting → (switched : Bool) → List Sealed → Node → NodeEvent → Type 0
IsGrownCaused S switched sent node (took packet) = IsGrownJudgedSent sent node (grown_judged S switched packet.bytes)
IsGrownCaused S switched sent node silent = Unit {0}

-- ---- runs of all nodes

-- One move after another leads from before any turn to these nodes. Nothing is asked of a node's turn but what its own loop does, and that the message that it
-- takes was sent to it before, as one of the file that the node takes it for. A message may come at any time later, again and again, or never; and a node may take
-- no further turn
pub data AreGrownInterleaved (N : AllGrownSettings) : List Move → AllGrownNodes → Type 0 where
  none_moved : AreGrownInterleaved N [] (first_grown_nodes N)
  server_moves : {moves : List Move} {all : AllGrownNodes} (shard : Shard) (node next : GrownNodeState) (event : NodeEvent)
      → AreGrownInterleaved N moves all → slice_get all.servers shard.0 ≡ Some node → node.stopped ≡ false
      → IsGrownCaused (grown_setting_at N (Server shard)) node.state.switched all.sent (Server shard) event → AfterGrownTurn (grown_setting_at N (Server shard)) node event next
      → AreGrownInterleaved N (moves ++ serves shard event ∷ []) (grown_server_moved all shard node next)
  coord_submits : {moves : List Move} {all : AllGrownNodes} (number : ℕ) (node : GrownCoordNodeState)
      → AreGrownInterleaved N moves all → slice_get all.coords number ≡ Some (between node)
      → AreGrownInterleaved N (moves ++ submits number ∷ [])
      (grown_coord_moved all number (between node) (within node (grown_submitted_node (grown_setting_at N (Coord number)) node)))
  coord_takes : {moves : List Move} {all : AllGrownNodes} (number : ℕ) (before node : GrownCoordNodeState) (event : NodeEvent)
      → AreGrownInterleaved N moves all → slice_get all.coords number ≡ Some (within before node) → are_all_answered node ≡ false
      → IsGrownCaused (grown_setting_at N (Coord number)) node.state.switched all.sent (Coord number) event
      → AreGrownInterleaved N (moves ++ takes number event ∷ [])
      (grown_coord_moved all number (within before node) (between (grown_coord_took (grown_setting_at N (Coord number)) node event)))

-- ---- one node's part

-- the coordinator's own loop leads to this place by these events
abbrev pub IsGrownCoordAt : GrownNodeSetting → (number : ℕ) → (requests later : List Request) → List NodeEvent → GrownCoordPlace → Type 0
IsGrownCoordAt S number requests later events (between node) = IsGrownCoordRun S number requests later events node
IsGrownCoordAt S number requests later events (within before now) = IsGrownCoordRun S number requests later events before × (now ≡ grown_submitted_node S before)
