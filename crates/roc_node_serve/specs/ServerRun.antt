-- The run of a server's node: what its core does with what comes to it, what the node sends, and what it counts:
-- docs/PROTOCOL.md, "Running nodes"
use Rattle.std.specs.Prelude.{◌≡◌, ℕ, Bool, true, false, List, [], ◌∷◌, ◌++◌, map}
use Rattle.roc_base.specs.declared.node.Shard.{Shard}
use Rattle.roc_io.specs.declared.link.Addr.{Addr}
use Rattle.roc_io.specs.Cause.{one_more}
use Rattle.roc_io.specs.Link.{LinkEvent, sending}
use Rattle.roc_io.specs.Packet.{Packet}
use Rattle.roc_log.specs.declared.line.LogLine.{LogLine}
use Rattle.roc_log.specs.declared.line.LogLine.TheVariants.{In, Tick}
use Rattle.roc_log.specs.Sent.{outs_logged}
use Rattle.roc_msg.specs.declared.msg.Msg.{Msg}
use Rattle.roc_msg.specs.declared.msg.Msg.TheVariants.{Stop}
use Rattle.roc_msg.specs.declared.outbox.Outgoing.{Outgoing}
use Rattle.roc_plan.specs.Groups.{Plan}
use Rattle.roc_wire.specs.declared.header.Header.{Header}
use Rattle.roc_step.specs.declared.handled.Handled.{Handled}
use Rattle.roc_step.specs.declared.handled.Handled.TheVariants.{Done, Gone, Ignored}
use Rattle.roc_step.specs.First.{first_server}
use Rattle.roc_step.specs.Reads.{first_viewing, AnswersReads, ReadStep}
use Rattle.roc_step.specs.State.{ServerState, ServerStep, Viewing}
use Rattle.roc_step.specs.Step.{Handles, tick_sends}
use Rattle.roc_node.specs.Judgement.{judged}
use Rattle.roc_node.specs.declared.judging.Judged.{Judged}
use Rattle.roc_node.specs.declared.judging.Judged.TheVariants.{Delivery, Skipped}
use Rattle.roc_node.specs.declared.judging.Skip.{Skip}
use Rattle.roc_node.specs.Posting.{Hearsay, none_heard, heard_of, packets_for}
use Rattle.roc_node.specs.declared.counts.Counts.{Counts}
use Rattle.roc_node.specs.Counts.{no_counts, one_ignore_more, with_skip, with_taken}
use Rattle.roc_node.specs.NodeEvent.{NodeEvent, took, silent, receive_of, NodeSetting}

-- a server's node so far
pub record ServerNodeState : Type 0 where
  -- its core
  pub state : ServerState
  -- what its core keeps for views
  pub viewing : Viewing
  -- all messages that the core sent
  pub messages : List Outgoing
  -- what it asked of its link, in order: the receive of each turn, and behind it, before the next one, the datagrams that went out for the
  -- messages of that turn
  pub traffic : List LinkEvent
  -- the lines of its log, kept or not: each event that its core or a stop took, and behind it what the core sent
  pub logged : List LogLine
  -- where it last heard each coordinator
  pub heard : Hearsay
  pub counts : Counts
  -- it took a stop, and takes nothing since
  pub stopped : Bool

-- before any turn
abbrev pub first_server_node_state : Plan → Shard → ServerNodeState
first_server_node_state plan shard = record {
  state = first_server plan shard;
  viewing = first_viewing;
  messages = [];
  traffic = [];
  logged = [];
  heard = none_heard;
  counts = no_counts;
  stopped = false;
}

-- its core sends messages for an event that is logged so
abbrev pub server_sends : NodeSetting → ServerNodeState → LogLine → List Outgoing → ServerNodeState
server_sends S node line outs = record node {
  messages = node.messages ++ outs;
  traffic = node.traffic ++ map sending (packets_for S.header S.cluster node.heard outs);
  logged = node.logged ++ line ∷ outs_logged S.header outs;
}

-- a delivery more was taken, and this is what the core answered to it
abbrev pub with_answer : Counts → Handled → Counts
with_answer c Done = with_taken c
with_answer c Gone = with_taken c
with_answer c (Ignored reason) = record c { taken = one_more c.taken; ignores = one_ignore_more c.ignores reason }

-- its core takes a step for a delivery in these bytes, and this comes of it for reads
abbrev pub server_took : NodeSetting → ServerNodeState → (bytes : List ℕ) → ServerStep → ReadStep → ServerNodeState
server_took S node bytes r q = record (server_sends S node (In bytes) (r.sends ++ q.sends)) { state = r.state; viewing = q.viewing; counts = with_answer node.counts r.answer }

-- one receive gave an event
abbrev pub server_received : ServerNodeState → NodeEvent → ServerNodeState
server_received node event = record node { traffic = node.traffic ++ receive_of event ∷ [] }

-- these bytes stopped it
abbrev pub server_stopped : ServerNodeState → (bytes : List ℕ) → ServerNodeState
server_stopped node bytes = record node { counts = with_taken node.counts; logged = node.logged ++ In bytes ∷ []; stopped = true }

abbrev pub server_skipped : ServerNodeState → Skip → ServerNodeState
server_skipped node skip = record node { counts = with_skip node.counts skip }

-- a datagram of this sender came from this address
abbrev pub server_heard : ServerNodeState → Header → Addr → ServerNodeState
server_heard node header from = record node { heard = heard_of node.heard header.from from }

abbrev pub is_stop : Msg → Bool
is_stop Stop = true
is_stop msg = false

-- a delivery in these bytes: a stop is for the node, and any other message for its core, whose step it is
abbrev pub TakesMessage : NodeSetting → ServerNodeState → (stops : Bool) → (bytes : List ℕ) → Msg → ServerNodeState → Type 0
TakesMessage S node true bytes msg next = next ≡ server_stopped node bytes
TakesMessage S node false bytes msg next =
    (r : ServerStep) × (q : ReadStep) × Handles S.plan node.state msg r × AnswersReads S.plan node.viewing msg r q × (next ≡ server_took S node bytes r q)

-- a datagram; one that is skipped is counted, and changes nothing else
abbrev pub TakesJudged : NodeSetting → ServerNodeState → Packet → Judged → ServerNodeState → Type 0
TakesJudged S node packet (Delivery header msg) next = TakesMessage S (server_heard node header packet.address) (is_stop msg) packet.bytes msg next
TakesJudged S node packet (Skipped skip) next = next ≡ server_skipped node skip

-- what comes of an event; silence is a tick
abbrev pub AfterEvent : NodeSetting → ServerNodeState → NodeEvent → ServerNodeState → Type 0
AfterEvent S node (took packet) next = TakesJudged S node packet (judged S.header.tag packet.bytes) next
AfterEvent S node silent next = next ≡ server_sends S node Tick (tick_sends node.state)

-- a turn: one receive gives the event, and all that comes of it stands behind that receive
abbrev pub AfterTurn : NodeSetting → ServerNodeState → NodeEvent → ServerNodeState → Type 0
AfterTurn S node event next = AfterEvent S (server_received node event) event next

-- the turns of these events, one by one, lead from one node to another
pub data IsServerRunFrom (S : NodeSetting) (first : ServerNodeState) : List NodeEvent → ServerNodeState → Type 0 where
  begun : IsServerRunFrom S first [] first
  goes_on : {events : List NodeEvent} {node : ServerNodeState} (event : NodeEvent) (next : ServerNodeState)
      → IsServerRunFrom S first events node → node.stopped ≡ false → AfterTurn S node event next → IsServerRunFrom S first (events ++ event ∷ []) next

-- the same from before any turn, of a server without a journal
abbrev pub IsServerRun : NodeSetting → Shard → List NodeEvent → ServerNodeState → Type 0
IsServerRun S shard events node = IsServerRunFrom S (first_server_node_state S.plan shard) events node

-- before any turn, where a journal was opened and the server keeps this: nobody was heard, and it has sent one tick, of which what is for
-- shards goes out
abbrev pub opened_node : NodeSetting → ServerState → Viewing → ServerNodeState
opened_node S s v = server_sends S (record (first_server_node_state S.plan s.shard) { state = s; viewing = v }) Tick (tick_sends s)
