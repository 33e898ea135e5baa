-- The run of a server's node that may go over to a grown workload: what its core does with what comes to it, what the node sends of which file, and what it
-- counts: docs/PROTOCOL.md, "Growth"
use Rattle.std.specs.Prelude.{◌≡◌, Bool, true, false, List, [], ◌∷◌, ◌++◌, Some, map}
use Rattle.roc_base.specs.declared.node.Shard.{Shard}
use Rattle.roc_epoch.specs.declared.file.File.{File}
use Rattle.roc_grown.specs.declared.handled.GrownHandled.{GrownHandled}
use Rattle.roc_grown.specs.declared.handled.GrownHandled.TheVariants.{Done, Gone, Ignored}
use Rattle.roc_grown.specs.declared.handled.GrownHandled.TheVariants as answer
use Rattle.roc_grown.specs.Server.{GrownHandles, GrownServerState, GrownStep, first_grown_server, grown_server_tick}
use Rattle.roc_io.specs.Cause.{one_more}
use Rattle.roc_io.specs.declared.link.Addr.{Addr}
use Rattle.roc_io.specs.Link.{LinkEvent, sending}
use Rattle.roc_io.specs.Packet.{Packet}
use Rattle.roc_msg.specs.declared.msg.Msg.{Msg}
use Rattle.roc_msg.specs.declared.outbox.Outgoing.{Outgoing}
use Rattle.roc_node.specs.Counts.{no_counts, one_ignore_more, with_skip, with_taken}
use Rattle.roc_node.specs.declared.counts.Counts.{Counts}
use Rattle.roc_node.specs.declared.judging.Skip.{Skip}
use Rattle.roc_node.specs.NodeEvent.{NodeEvent, took, silent, receive_of}
use Rattle.roc_node.specs.Posting.{Hearsay, none_heard, heard_of}
use Rattle.roc_node_serve.specs.ServerRun.{is_stop}
use Rattle.roc_plan.specs.Groups.{Plan}
use Rattle.roc_wire.specs.declared.header.Header.{Header}
use Rattle.roc_grown_node.specs.declared.judging.GrownJudged.{GrownJudged}
use Rattle.roc_grown_node.specs.declared.judging.GrownJudged.TheVariants.{Delivery, Skipped}
use Rattle.roc_grown_node.specs.Judgement.{grown_judged}
use Rattle.roc_grown_node.specs.Posting.{Filed, filed, grown_packets_for}
use Rattle.roc_grown_node.specs.Setting.{GrownNodeSetting}

-- a server's node so far
pub record GrownNodeState : Type 0 where
  -- its core, with what it keeps for views
  pub state : GrownServerState
  -- all messages that the core sent, each with its file
  pub messages : List Filed
  -- what it asked of its link, in order: the receive of each turn, and behind it, before the next one, the datagrams that went out for the
  -- messages of that turn
  pub traffic : List LinkEvent
  -- where it last heard each coordinator
  pub heard : Hearsay
  pub counts : Counts
  -- it took a stop, and takes nothing since
  pub stopped : Bool

-- before any turn
abbrev pub first_grown_node : Plan → Shard → GrownNodeState
first_grown_node plan shard =
    record { state = first_grown_server plan shard; messages = []; traffic = []; heard = none_heard; counts = no_counts; stopped = false }

-- its core, which has switched or not, sends messages
abbrev pub grown_sends : GrownNodeSetting → (switched : Bool) → GrownNodeState → List Outgoing → GrownNodeState
grown_sends S switched node outs = record node {
  messages = node.messages ++ map (filed switched) outs;
  traffic = node.traffic ++ map sending (grown_packets_for S switched node.heard outs);
}

-- a delivery more was taken, and this is what the core answered to it. It skips none
abbrev pub with_grown_answer : Counts → GrownHandled → Counts
with_grown_answer c Done = with_taken c
with_grown_answer c Gone = with_taken c
with_grown_answer c answer.Skipped = with_taken c
with_grown_answer c (Ignored reason) = record c { taken = one_more c.taken; ignores = one_ignore_more c.ignores reason }

-- its core takes a step for a delivery; what it sends is of the file that it has behind the step
abbrev pub grown_took : GrownNodeSetting → GrownNodeState → GrownStep → GrownNodeState
grown_took S node g = record (grown_sends S g.state.switched node g.sends) { state = g.state; counts = with_grown_answer node.counts g.answer }

-- one receive gave an event
abbrev pub grown_received : GrownNodeState → NodeEvent → GrownNodeState
grown_received node event = record node { traffic = node.traffic ++ receive_of event ∷ [] }

-- a stop was taken
abbrev pub grown_stopped : GrownNodeState → GrownNodeState
grown_stopped node = record node { counts = with_taken node.counts; stopped = true }

abbrev pub grown_skipped : GrownNodeState → Skip → GrownNodeState
grown_skipped node skip = record node { counts = with_skip node.counts skip }

-- a datagram of this sender came from this address
abbrev pub grown_heard : GrownNodeState → Header → Addr → GrownNodeState
grown_heard node header from = record node { heard = heard_of node.heard header.from from }

-- a delivery of a file: a stop is for the node, and any other message for its core, whose step it is
abbrev pub TakesGrownMessage : GrownNodeSetting → GrownNodeState → (stops : Bool) → File → Msg → GrownNodeState → Type 0
TakesGrownMessage S node true file msg next = next ≡ grown_stopped node
TakesGrownMessage S node false file msg next = (g : GrownStep) × GrownHandles S.plan (Some S.next) node.state file msg g × (next ≡ grown_took S node g)

-- a datagram; one that is skipped is counted, and changes nothing else
abbrev pub TakesGrownJudged : GrownNodeSetting → GrownNodeState → Packet → GrownJudged → GrownNodeState → Type 0
TakesGrownJudged S node packet (Delivery header file msg) next = TakesGrownMessage S (grown_heard node header packet.address) (is_stop msg) file msg next
TakesGrownJudged S node packet (Skipped skip) next = next ≡ grown_skipped node skip

-- what comes of an event; silence is a tick
abbrev pub AfterGrownEvent : GrownNodeSetting → GrownNodeState → NodeEvent → GrownNodeState → Type 0
AfterGrownEvent S node (took packet) next = TakesGrownJudged S node packet (grown_judged S node.state.switched packet.bytes) next
AfterGrownEvent S node silent next = next ≡ grown_sends S node.state.switched node (grown_server_tick node.state)

-- a turn: one receive gives the event, and all that comes of it stands behind that receive
abbrev pub AfterGrownTurn : GrownNodeSetting → GrownNodeState → NodeEvent → GrownNodeState → Type 0
AfterGrownTurn S node event next = AfterGrownEvent S (grown_received node event) event next

-- the turns of these events, one by one, lead from one node to another
pub data IsGrownRunFrom (S : GrownNodeSetting) (first : GrownNodeState) : List NodeEvent → GrownNodeState → Type 0 where
  begun : IsGrownRunFrom S first [] first
  goes_on : {events : List NodeEvent} {node : GrownNodeState} (event : NodeEvent) (next : GrownNodeState)
      → IsGrownRunFrom S first events node → node.stopped ≡ false → AfterGrownTurn S node event next → IsGrownRunFrom S first (events ++ event ∷ []) next

-- the same from before any turn
abbrev pub IsGrownServerRun : GrownNodeSetting → Shard → List NodeEvent → GrownNodeState → Type 0
IsGrownServerRun S shard events node = IsGrownRunFrom S (first_grown_node S.plan shard) events node
