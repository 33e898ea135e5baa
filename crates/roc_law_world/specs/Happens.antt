-- What comes of an event: docs/PROTOCOL.md, "World"
use Rattle.std.specs.Prelude.{◌≡◌, ℕ, ℤ, ◌-◌, ◌<◌, List, [], ◌∷◌, Option, Some, None, Result, Ok, Err, map, slice_get}
use Rattle.roc_base.specs.declared.id.TxnId.{TxnId}
use Rattle.roc_base.specs.declared.node.Node.{Node}
use Rattle.roc_base.specs.declared.node.Node.TheVariants.{Server, Coord}
use Rattle.roc_msg.specs.declared.msg.Msg.{Msg}
use Rattle.roc_msg.specs.declared.msg.Envelope.{Envelope}
use Rattle.roc_msg.specs.declared.outbox.Outgoing.{Outgoing}
use Rattle.roc_plan.specs.Groups.{Plan}
use Rattle.roc_step.specs.State.{answered, ServerState, ServerStep, Viewing}
use Rattle.roc_step.specs.Reads.{AnswersReads, ReadStep}
use Rattle.roc_step.specs.Step as server
use Rattle.roc_step.specs.Restarts.{without_reads, cut_short, cut_reads}
use Rattle.roc_coord.specs.declared.handled.SubmitFault.{SubmitFault}
use Rattle.roc_coord.specs.declared.handled.SubmitFault.TheVariants as fault
use Rattle.roc_coord.specs.State.{CoordState, CoordStep}
use Rattle.roc_coord.specs.Step.{after_message}
use Rattle.roc_coord.specs.Submit.{Submission, after_submit}
use Rattle.roc_coord.specs.Tick as coord
use Rattle.roc_audit.specs.declared.entry.Entry.TheVariants as entry
use Rattle.roc_law_protocol.specs.declared.event.Event.{Event}
use Rattle.roc_law_protocol.specs.declared.event.Event.TheVariants.{Submit, Deliver, Tick, Stop}
use Rattle.roc_law_protocol.specs.declared.event.Seen.{Seen}
use Rattle.roc_law_protocol.specs.declared.event.Seen.TheVariants as seen
use Rattle.roc_law_protocol.specs.declared.event.Kept.{Kept}
use Rattle.roc_law_protocol.specs.declared.event.Kept.TheVariants.{Lost, Sent}
use Rattle.roc_law_protocol.specs.Happens.{RanAt, ran_at, server_seen, coord_seen, answer_entries, IsSentTo}
use Rattle.roc_law_world.specs.World.{World, sends, mark_delivered, at_server, at_coord, at_coord_tick}

-- what is seen of an event, the components newly decided, as they were taken, and the transactions in them, one after another, the groups
-- that ran, in the order in which they did, and the world after it
pub record Outcome : Type 0 where
  pub seen : Seen
  pub components : List (List TxnId)
  pub decided : List TxnId
  pub ran : List RanAt
  pub world : World

-- a node of which nothing was decided, and on which nothing ran
abbrev pub undecided : Seen → World → Outcome
undecided what w = record { seen = what; components = []; decided = []; ran = []; world = w }

-- what comes of a submission at a coordinator: refused as spent or busy it changes nothing, and it is refused for nothing else
abbrev pub Submits : World → (number proc : ℕ) → List ℤ → CoordState → List Outgoing → Result TxnId SubmitFault → Outcome → Type 0
Submits w number proc args after outs (Ok id) o = o ≡ undecided (seen.Submitted id) (at_coord w number after outs (entry.Submitted id proc args ∷ []))
Submits w number proc args after outs (Err fault.Spent) o = o ≡ undecided seen.Spent w
Submits w number proc args after outs (Err fault.Busy) o = o ≡ undecided seen.Busy w
Submits w number proc args after outs (Err fault.NoProc) o = ⊥
Submits w number proc args after outs (Err fault.Args) o = ⊥
Submits w number proc args after outs (Err fault.NoMemory) o = ⊥

abbrev pub IsSubmissionOf : World → (number proc : ℕ) → List ℤ → Submission → Outcome → Type 0
IsSubmissionOf w number proc args s o = Submits w number proc args s.state s.sends s.answer o

-- a server took a message in this world
abbrev pub served : World → (shard : ℕ) → ServerStep → ReadStep → Outcome
served w shard r q =
    record { seen = server_seen r.answer; components = r.components; decided = r.decided; ran = map (ran_at shard) r.ran; world = at_server w shard r q }

-- a coordinator did
abbrev pub coordinated : World → (number : ℕ) → CoordStep → Outcome
coordinated w number r = undecided (coord_seen r.answer) (at_coord w number r.state r.sends (answer_entries r.answer))

-- the server of a shard takes a message, and o comes of it
pub record IsServed (plan : Plan) (w : World) (msg : Msg) (shard : ℕ) (o : Outcome) : Type 0 where
  pub state : ServerState
  pub there : slice_get w.servers shard ≡ Some state
  pub viewing : Viewing
  pub keeps : slice_get w.viewing shard ≡ Some viewing
  pub step : ServerStep
  pub handles : server.Handles plan state msg step
  pub reads : ReadStep
  pub answers : AnswersReads plan viewing msg step reads
  pub is : o ≡ served w shard step reads

-- a message comes to a node of this world, whose state changes by the node's step
abbrev pub IsReceived : Plan → World → Msg → Node → Outcome → Type 0
IsReceived plan w msg (Server shard) o = IsServed plan w msg shard.0 o
IsReceived plan w msg (Coord number) o = (s : CoordState) × (slice_get w.coords number ≡ Some s) × (o ≡ coordinated w number (after_message plan s msg))

-- a tick changes no state
abbrev pub Ticks : Plan → World → Node → Outcome → Type 0
Ticks plan w (Server shard) o =
    (s : ServerState) × (v : Viewing) × (slice_get w.servers shard.0 ≡ Some s) × (slice_get w.viewing shard.0 ≡ Some v)
    × (o ≡ served w shard.0 (answered s (server.tick_sends s)) (record { viewing = v; sends = [] }))
Ticks plan w (Coord number) o = (s : CoordState) × (slice_get w.coords number ≡ Some s) × (o ≡ undecided seen.Done (at_coord_tick w number (coord.tick_sends plan s)))

-- ---- a stop

-- what is kept for views over it, where no message comes
abbrev pub no_reads : Viewing → ReadStep
no_reads v = record { viewing = without_reads v; sends = [] }

-- the world in which a server stops, and what came of the message there, for reads too
pub data StopsIn (plan : Plan) (w : World) (shard : ℕ) (s : ServerState) (v : Viewing) : Option (ℕ × Kept) → World → ServerStep → ReadStep → Type 0 where
  at_rest : StopsIn plan w shard s v None w (answered s []) (no_reads v)
  unrecorded : (k : ℕ) (m : Envelope) → IsSentTo w.sent k shard m → StopsIn plan w shard s v (Some (k, Lost)) (mark_delivered w k) (answered s []) (no_reads v)
  recorded : (k many : ℕ) (m : Envelope) (r : ServerStep) (q : ReadStep) → IsSentTo w.sent k shard m → server.Handles plan s m.msg r → AnswersReads plan v m.msg r q
      → StopsIn plan w shard s v (Some (k, Sent many)) (mark_delivered w k) (cut_short many r) (cut_reads many r q)

-- the step, and what a tick of the server sends that started again
abbrev pub restarted : World → (shard : ℕ) → ServerStep → ReadStep → Outcome
restarted w shard r q = record (served w shard r q) { world = sends (at_server w shard r q) (Server (record { 0 = shard })) (server.tick_sends r.state) }

pub record IsStopped (plan : Plan) (w : World) (shard : ℕ) (during : Option (ℕ × Kept)) (o : Outcome) : Type 0 where
  pub state : ServerState
  pub there : slice_get w.servers shard ≡ Some state
  pub viewing : Viewing
  pub keeps : slice_get w.viewing shard ≡ Some viewing
  pub before : World
  pub step : ServerStep
  pub reads : ReadStep
  pub stops : StopsIn plan w shard state viewing during before step reads
  pub is : o ≡ restarted before shard step reads

-- o is what comes of an event
abbrev pub Happens : Plan → World → Event → Outcome → Type 0
Happens plan w (Submit number proc args) o = (s : CoordState) × (slice_get w.coords number ≡ Some s) × IsSubmissionOf w number proc args (after_submit plan s proc args) o
Happens plan w (Deliver k) o = (m : Envelope) × (0 < k) × (slice_get w.sent (k - 1) ≡ Some m) × IsReceived plan (mark_delivered w k) m.msg m.to o
Happens plan w (Tick node) o = Ticks plan w node o
Happens plan w (Stop shard during) o = IsStopped plan w shard.0 during o
