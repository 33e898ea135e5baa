-- What comes of an event in a world of two files: docs/PROTOCOL.md, "Growth"
use Rattle.std.specs.Prelude.{◌≡◌, ℕ, ℤ, ◌-◌, ◌<◌, List, [], ◌∷◌, Option, Some, None, Result, Ok, Err, length, map, slice_get, take}
use Rattle.roc_base.specs.declared.id.TxnId.{TxnId}
use Rattle.roc_base.specs.declared.node.Node.{Node}
use Rattle.roc_base.specs.declared.node.Node.TheVariants.{Server, Coord}
use Rattle.roc_msg.specs.declared.msg.Msg.{Msg}
use Rattle.roc_msg.specs.declared.outbox.Outgoing.{Outgoing}
use Rattle.roc_plan.specs.Groups.{Plan, procedure_of}
use Rattle.roc_coord.specs.declared.handled.SubmitFault.TheVariants as fault
use Rattle.roc_audit.specs.declared.entry.Entry.{Entry}
use Rattle.roc_audit.specs.declared.entry.Entry.TheVariants as entry
use Rattle.roc_law_protocol.specs.Happens.{RanAt, ran_at}
use Rattle.roc_law_protocol.specs.declared.event.Kept.{Kept}
use Rattle.roc_law_protocol.specs.declared.event.Kept.TheVariants.{Lost, Sent}
use Rattle.roc_epoch.specs.declared.file.File.{File}
use Rattle.roc_epoch.specs.declared.next.Next.{Next}
use Rattle.roc_epoch.specs.Files.{last_plan}
use Rattle.roc_two_files.specs.Sealed.{Sealed}
use Rattle.roc_grown.specs.declared.handled.GrownHandled.{GrownHandled}
use Rattle.roc_grown.specs.declared.handled.GrownHandled.TheVariants as server_answer
use Rattle.roc_grown.specs.declared.handled.GrownAnswer.{GrownAnswer}
use Rattle.roc_grown.specs.declared.handled.GrownAnswer.TheVariants as coord_answer
use Rattle.roc_grown.specs.declared.handled.GrownFault.{GrownFault}
use Rattle.roc_grown.specs.declared.handled.GrownFault.TheVariants.{Draining, Plain}
use Rattle.roc_grown.specs.Server.{GrownServerState, GrownStep, GrownHandles, taken_at, restarted, grown_server_tick}
use Rattle.roc_grown.specs.Coord.{GrownCoordState, GrownCoordStep, GrownSubmission, after_drain, after_grown_submit, after_grown_message, grown_tick_sends}
use Rattle.roc_growth.specs.declared.event.Event.{Event}
use Rattle.roc_growth.specs.declared.event.Event.TheVariants.{Submit, Deliver, Tick, Stop, Drain}
use Rattle.roc_growth.specs.declared.event.Seen.{Seen}
use Rattle.roc_growth.specs.declared.event.Seen.TheVariants as seen
use Rattle.roc_growth.specs.World.{GrownWorld, sends, mark_delivered, at_server, at_coord, at_coord_tick}

-- what is seen of an event, the components newly decided, as they were taken, and the transactions in them, one after another, the groups
-- that ran, in the order in which they did, and the world after it
pub record Outcome : Type 0 where
  pub seen : Seen
  pub components : List (List TxnId)
  pub decided : List TxnId
  pub ran : List RanAt
  pub world : GrownWorld

-- a node of which nothing was decided, and on which nothing ran
abbrev pub undecided : Seen → GrownWorld → Outcome
undecided what w = record { seen = what; components = []; decided = []; ran = []; world = w }

-- ---- a submission

-- a procedure of a plan, with as many arguments as it has
abbrev pub IsCallOf : Plan → (proc : ℕ) → List ℤ → Type 0
IsCallOf plan proc args = (proc < length plan.program.procedures) × (length args ≡ (procedure_of plan proc).arguments)

-- what comes of a submission at a coordinator: a refused one changes nothing, and it is refused for nothing else
abbrev pub Submits : GrownWorld → (number proc : ℕ) → List ℤ → GrownCoordState → List Outgoing → Result TxnId GrownFault → Outcome → Type 0
Submits w number proc args after outs (Ok id) o = o ≡ undecided (seen.Submitted id) (at_coord w number after outs (entry.Submitted id proc args ∷ []))
Submits w number proc args after outs (Err Draining) o = o ≡ undecided seen.Draining w
Submits w number proc args after outs (Err (Plain fault.NoProc)) o = o ≡ undecided seen.NoProc w
Submits w number proc args after outs (Err (Plain fault.Spent)) o = o ≡ undecided seen.Spent w
Submits w number proc args after outs (Err (Plain fault.Busy)) o = o ≡ undecided seen.Busy w
Submits w number proc args after outs (Err (Plain fault.Args)) o = ⊥
Submits w number proc args after outs (Err (Plain fault.NoMemory)) o = ⊥

abbrev pub IsSubmissionOf : GrownWorld → (number proc : ℕ) → List ℤ → GrownSubmission → Outcome → Type 0
IsSubmissionOf w number proc args s o = Submits w number proc args s.state s.sends s.answer o

-- ---- a delivery

abbrev pub server_seen : GrownHandled → Seen
server_seen server_answer.Done = seen.Done
server_seen server_answer.Gone = seen.Gone
server_seen server_answer.Skipped = seen.Skipped
server_seen (server_answer.Ignored reason) = seen.Ignored reason

abbrev pub coord_seen : GrownAnswer → Seen
coord_seen coord_answer.Done = seen.Done
coord_seen (coord_answer.Answered id reply) = seen.Answered id reply
coord_seen coord_answer.Skipped = seen.Skipped
coord_seen (coord_answer.Ignored reason) = seen.Ignored reason

-- an answer is what the history gains
abbrev pub answer_entries : GrownAnswer → List Entry
answer_entries (coord_answer.Answered id reply) = entry.Answered id reply ∷ []
answer_entries coord_answer.Done = []
answer_entries coord_answer.Skipped = []
answer_entries (coord_answer.Ignored reason) = []

-- a server took a message in this world
abbrev pub served : GrownWorld → (shard : ℕ) → GrownStep → Outcome
served w shard r = record { seen = server_seen r.answer; components = r.components; decided = r.decided; ran = map (ran_at shard) r.ran; world = at_server w shard r }

-- a coordinator did
abbrev pub coordinated : GrownWorld → (number : ℕ) → GrownCoordStep → Outcome
coordinated w number r = undecided (coord_seen r.answer) (at_coord w number r.state r.sends (answer_entries r.answer))

-- the server of a shard takes a message of a file, and o comes of it
pub record IsServed (plan : Plan) (next : Option Next) (w : GrownWorld) (file : File) (msg : Msg) (shard : ℕ) (o : Outcome) : Type 0 where
  pub state : GrownServerState
  pub there : slice_get w.servers shard ≡ Some state
  pub step : GrownStep
  pub handles : GrownHandles plan next state file msg step
  pub is : o ≡ served w shard step

-- a message of a file comes to a node of this world, whose state changes by the node's step
abbrev pub IsReceived : Plan → Option Next → GrownWorld → File → Msg → Node → Outcome → Type 0
IsReceived plan next w file msg (Server shard) o = IsServed plan next w file msg shard.0 o
IsReceived plan next w file msg (Coord number) o =
    (s : GrownCoordState) × (slice_get w.coords number ≡ Some s) × (o ≡ coordinated w number (after_grown_message plan next s file msg))

-- ---- a tick: it changes no state

abbrev pub Ticks : Plan → Option Next → GrownWorld → Node → Outcome → Type 0
Ticks plan next w (Server shard) o = (s : GrownServerState) × (slice_get w.servers shard.0 ≡ Some s) × (o ≡ served w shard.0 (taken_at s (grown_server_tick s)))
Ticks plan next w (Coord number) o = (s : GrownCoordState) × (slice_get w.coords number ≡ Some s) × (o ≡ undecided seen.Done (at_coord_tick w number s (grown_tick_sends plan next s)))

-- ---- a stop: what is told between files stays, as what is kept by records

-- message k was sent to the server of the shard
pub record IsSentTo (sent : List Sealed) (k shard : ℕ) (m : Sealed) : Type 0 where
  pub some : 0 < k
  pub there : slice_get sent (k - 1) ≡ Some m
  pub to : m.message.to ≡ Server (record { 0 = shard })

-- so many of the messages of a step were sent before the server stopped
abbrev pub cut_short : ℕ → GrownStep → GrownStep
cut_short many r = record r { answer = server_answer.Done; state = restarted r.state; sends = take many r.sends }

-- the world in which a server stops, and what came of the message there: one of another file does nothing there either
pub data StopsIn (plan : Plan) (next : Option Next) (w : GrownWorld) (shard : ℕ) (s : GrownServerState) : Option (ℕ × Kept) → GrownWorld → GrownStep → Type 0 where
  at_rest : StopsIn plan next w shard s None w (taken_at (restarted s) [])
  unrecorded : (k : ℕ) (m : Sealed) → IsSentTo w.sent k shard m → StopsIn plan next w shard s (Some (k, Lost)) (mark_delivered w k) (taken_at (restarted s) [])
  recorded : (k many : ℕ) (m : Sealed) (r : GrownStep) → IsSentTo w.sent k shard m → GrownHandles plan next s m.file m.message.msg r
      → StopsIn plan next w shard s (Some (k, Sent many)) (mark_delivered w k) (cut_short many r)

-- the step, and what a tick of the server sends that started again
abbrev pub started_again : GrownWorld → (shard : ℕ) → GrownStep → Outcome
started_again w shard r =
    record (served w shard r) { world = sends (at_server w shard r) r.state.switched (Server (record { 0 = shard })) (grown_server_tick r.state) }

pub record IsStopped (plan : Plan) (next : Option Next) (w : GrownWorld) (shard : ℕ) (during : Option (ℕ × Kept)) (o : Outcome) : Type 0 where
  pub state : GrownServerState
  pub there : slice_get w.servers shard ≡ Some state
  pub before : GrownWorld
  pub step : GrownStep
  pub stops : StopsIn plan next w shard state during before step
  pub is : o ≡ started_again before shard step

-- ---- any event

-- there is a next file
abbrev pub IsNext : Option Next → Type 0
IsNext None = ⊥
IsNext (Some next) = Unit {0}

-- o is what comes of an event. A call is one of the last file, and nobody drains where there is no next one
abbrev pub Happens : Plan → Option Next → GrownWorld → Event → Outcome → Type 0
Happens plan next w (Submit number proc args) o =
    IsCallOf (last_plan plan next) proc args
    × (s : GrownCoordState) × (slice_get w.coords number ≡ Some s) × IsSubmissionOf w number proc args (after_grown_submit plan next s proc args) o
Happens plan next w (Deliver k) o =
    (m : Sealed) × (0 < k) × (slice_get w.sent (k - 1) ≡ Some m) × IsReceived plan next (mark_delivered w k) m.file m.message.msg m.message.to o
Happens plan next w (Tick node) o = Ticks plan next w node o
Happens plan next w (Stop shard during) o = IsStopped plan next w shard.0 during o
Happens plan next w (Drain number) o =
    IsNext next × (s : GrownCoordState) × (slice_get w.coords number ≡ Some s)
    × (o ≡ undecided seen.Done (at_coord w number (after_drain plan s).state (after_drain plan s).sends []))
