-- What comes of an event: docs/PROTOCOL.md, "World"
use Rattle.std.specs.Prelude.{◌≡◌, ℕ, ℤ, ◌-◌, ◌<◌, List, [], ◌∷◌, Option, Some, None, Result, Ok, Err, map, slice_get}
use Rattle.roc_base.specs.declared.id.TxnId.{TxnId}
use Rattle.roc_base.specs.declared.node.Node.{Node}
use Rattle.roc_base.specs.declared.node.Node.TheVariants.{Server, Coord}
use Rattle.roc_msg.specs.declared.msg.Msg.{Msg}
use Rattle.roc_msg.specs.declared.msg.Envelope.{Envelope}
use Rattle.roc_msg.specs.declared.outbox.Outgoing.{Outgoing}
use Rattle.roc_plan.specs.Groups.{Plan}
use Rattle.roc_step.specs.declared.handled.Handled.{Handled as ServerHandled}
use Rattle.roc_step.specs.declared.handled.Handled.TheVariants as server_answer
use Rattle.roc_step.specs.declared.started.StartedGroup.{StartedGroup}
use Rattle.roc_step.specs.State.{answered, ServerState, ServerStep}
use Rattle.roc_step.specs.Step as server
use Rattle.roc_coord.specs.declared.handled.Handled.{Handled as CoordHandled}
use Rattle.roc_coord.specs.declared.handled.Handled.TheVariants as coord_answer
use Rattle.roc_coord.specs.declared.handled.SubmitFault.{SubmitFault}
use Rattle.roc_coord.specs.declared.handled.SubmitFault.TheVariants as fault
use Rattle.roc_coord.specs.State.{CoordState, CoordStep}
use Rattle.roc_coord.specs.Step.{after_message}
use Rattle.roc_coord.specs.Submit.{Submission}
use Rattle.roc_law_protocol.specs.Aside.{after_transaction, transaction_tick_sends}
use Rattle.roc_audit.specs.declared.entry.Entry.{Entry}
use Rattle.roc_audit.specs.declared.entry.Entry.TheVariants as entry
use Rattle.roc_law_protocol.specs.declared.event.Event.{Event}
use Rattle.roc_law_protocol.specs.declared.event.Event.TheVariants.{Submit, Deliver, Tick, Stop}
use Rattle.roc_law_protocol.specs.declared.event.Kept.{Kept}
use Rattle.roc_law_protocol.specs.declared.event.Kept.TheVariants.{Lost, Sent}
use Rattle.roc_law_protocol.specs.declared.event.Seen.{Seen}
use Rattle.roc_law_protocol.specs.declared.event.Seen.TheVariants as seen
use Rattle.roc_step.specs.Restarts.{cut_short}
use Rattle.roc_law_protocol.specs.World.{World, sends, mark_delivered, at_server, at_coord}

-- a group that ran, and the shard on which it did
pub record RanAt : Type 0 where
  pub shard : ℕ
  pub group : StartedGroup

abbrev pub ran_at : (shard : ℕ) → StartedGroup → RanAt
ran_at shard e = record { shard = shard; group = e }

-- what is seen of an event, the components newly decided, as they were taken, and the transactions in them, one after another, the groups
-- that ran, in the order in which they did, and the world after it
pub record Outcome : Type 0 where
  pub seen : Seen
  pub components : List (List TxnId)
  pub decided : List TxnId
  pub ran : List RanAt
  pub world : World

-- a node of which nothing was decided, and on which nothing ran
abbrev pub undecided : Seen → World → Outcome
undecided what w = record { seen = what; components = []; decided = []; ran = []; world = w }

-- ---- a submission

-- what comes of a submission at a coordinator: refused as spent or busy it changes nothing, and it is refused for nothing else
abbrev pub Submits : World → (number proc : ℕ) → List ℤ → CoordState → List Outgoing → Result TxnId SubmitFault → Outcome → Type 0
Submits w number proc args after outs (Ok id) o = o ≡ undecided (seen.Submitted id) (at_coord w number after outs (entry.Submitted id proc args ∷ []))
Submits w number proc args after outs (Err fault.Spent) o = o ≡ undecided seen.Spent w
Submits w number proc args after outs (Err fault.Busy) o = o ≡ undecided seen.Busy w
Submits w number proc args after outs (Err fault.NoProc) o = ⊥
Submits w number proc args after outs (Err fault.Args) o = ⊥
Submits w number proc args after outs (Err fault.NoMemory) o = ⊥

abbrev pub IsSubmissionOf : World → (number proc : ℕ) → List ℤ → Submission → Outcome → Type 0
IsSubmissionOf w number proc args s o = Submits w number proc args s.state s.sends s.answer o

-- ---- a delivery

abbrev pub server_seen : ServerHandled → Seen
server_seen server_answer.Done = seen.Done
server_seen server_answer.Gone = seen.Gone
server_seen (server_answer.Ignored reason) = seen.Ignored reason

abbrev pub coord_seen : CoordHandled → Seen
coord_seen coord_answer.Done = seen.Done
coord_seen (coord_answer.Answered id reply) = seen.Answered id reply
coord_seen (coord_answer.Ignored reason) = seen.Ignored reason

-- an answer is what the history gains
abbrev pub answer_entries : CoordHandled → List Entry
answer_entries (coord_answer.Answered id reply) = entry.Answered id reply ∷ []
answer_entries coord_answer.Done = []
answer_entries (coord_answer.Ignored reason) = []

-- a server took a message in this world
abbrev pub served : World → (shard : ℕ) → ServerStep → Outcome
served w shard r = record { seen = server_seen r.answer; components = r.components; decided = r.decided; ran = map (ran_at shard) r.ran; world = at_server w shard r }

-- a coordinator did
abbrev pub coordinated : World → (number : ℕ) → CoordStep → Outcome
coordinated w number r = undecided (coord_seen r.answer) (at_coord w number r.state r.sends (answer_entries r.answer))

-- a message comes to a node of this world, whose state changes by the node's step
abbrev pub IsReceived : Plan → World → Msg → Node → Outcome → Type 0
IsReceived plan w msg (Server shard) o = (s : ServerState) × (r : ServerStep) × (slice_get w.servers shard.0 ≡ Some s) × server.Handles plan s msg r × (o ≡ served w shard.0 r)
IsReceived plan w msg (Coord number) o = (s : CoordState) × (slice_get w.coords number ≡ Some s) × (o ≡ coordinated w number (after_message plan s msg))

-- ---- a tick: it changes no state

abbrev pub Ticks : Plan → World → Node → Outcome → Type 0
Ticks plan w (Server shard) o = (s : ServerState) × (slice_get w.servers shard.0 ≡ Some s) × (o ≡ served w shard.0 (answered s (server.tick_sends s)))
Ticks plan w (Coord number) o = (s : CoordState) × (slice_get w.coords number ≡ Some s) × (o ≡ undecided seen.Done (at_coord w number s (transaction_tick_sends plan s) []))

-- ---- a stop: the server of a shard takes a message, or has no record of it; so many of its messages are sent; and it starts again

-- message k was sent to the server of the shard
pub record IsSentTo (sent : List Envelope) (k shard : ℕ) (m : Envelope) : Type 0 where
  pub some : 0 < k
  pub there : slice_get sent (k - 1) ≡ Some m
  pub to : m.to ≡ Server (record { 0 = shard })

-- the world in which it stops, and what came of the message there
pub data TransactionStopsIn (plan : Plan) (w : World) (shard : ℕ) (s : ServerState) : Option (ℕ × Kept) → World → ServerStep → Type 0 where
  at_rest : TransactionStopsIn plan w shard s None w (answered s [])
  unrecorded : (k : ℕ) (m : Envelope) → IsSentTo w.sent k shard m → TransactionStopsIn plan w shard s (Some (k, Lost)) (mark_delivered w k) (answered s [])
  recorded : (k many : ℕ) (m : Envelope) (r : ServerStep) → IsSentTo w.sent k shard m → server.Handles plan s m.msg r
      → TransactionStopsIn plan w shard s (Some (k, Sent many)) (mark_delivered w k) (cut_short many r)

-- the step, and what a tick of the server sends that started again
abbrev pub transaction_restarted : World → (shard : ℕ) → ServerStep → Outcome
transaction_restarted w shard r = record (served w shard r) { world = sends (at_server w shard r) (Server (record { 0 = shard })) (server.tick_sends r.state) }

pub record IsTransactionStop (plan : Plan) (w : World) (shard : ℕ) (during : Option (ℕ × Kept)) (o : Outcome) : Type 0 where
  pub state : ServerState
  pub there : slice_get w.servers shard ≡ Some state
  pub before : World
  pub step : ServerStep
  pub stops : TransactionStopsIn plan w shard state during before step
  pub is : o ≡ transaction_restarted before shard step

-- ---- any event

-- o is what comes of an event
abbrev pub Happens : Plan → World → Event → Outcome → Type 0
Happens plan w (Submit number proc args) o = (s : CoordState) × (slice_get w.coords number ≡ Some s) × IsSubmissionOf w number proc args (after_transaction plan s proc args) o
Happens plan w (Deliver k) o = (m : Envelope) × (0 < k) × (slice_get w.sent (k - 1) ≡ Some m) × IsReceived plan (mark_delivered w k) m.msg m.to o
Happens plan w (Tick node) o = Ticks plan w node o
Happens plan w (Stop shard during) o = IsTransactionStop plan w shard.0 during o
