-- Transactions and views all of whose messages were delivered, in a world of two files: docs/PROTOCOL.md, "Growth"
use Rattle.std.specs.Prelude.{◌≡◌, ◌≢◌, ℕ, ℤ, suc, ◌-◌, true, List, ◌∷◌, ◌++◌, Option, Some, map, slice_get}
use Rattle.roc_sequence.specs.Lists.{Has}
use Rattle.roc_base.specs.declared.id.TxnId.{TxnId}
use Rattle.roc_base.specs.declared.node.Node.{Node}
use Rattle.roc_base.specs.declared.node.Node.TheVariants.{Server}
use Rattle.roc_depgraph.specs.Deps.{IsDecided}
use Rattle.roc_depgraph.specs.Reach.{ReachesOrIs}
use Rattle.roc_msg.specs.declared.msg.Envelope.{Envelope}
use Rattle.roc_msg.specs.Msg.{id_of}
use Rattle.roc_plan.specs.Groups.{Plan, is_view_of}
use Rattle.roc_epoch.specs.declared.next.Next.{Next}
use Rattle.roc_epoch.specs.Files.{own_plan}
use Rattle.roc_step.specs.declared.started.StartedGroup.{StartedGroup}
use Rattle.roc_step.specs.Reads.{holds_up}
use Rattle.roc_readonly.specs.Round.{last_round}
use Rattle.roc_readonly.specs.declared.view.View.{View}
use Rattle.roc_audit.specs.declared.entry.Entry.TheVariants.{Submitted}
use Rattle.roc_audit.specs.History.{WasAnswered}
use Rattle.roc_law_protocol.specs.Quiet as transactions
use Rattle.roc_two_files.specs.Sealed.{Sealed}
use Rattle.roc_grown.specs.Server.{GrownServerState}
use Rattle.roc_grown.specs.Coord.{GrownCoordState}
use Rattle.roc_growth.specs.declared.event.Event.{Event}
use Rattle.roc_growth.specs.declared.event.Event.TheVariants.{Deliver, Stop}
use Rattle.roc_growth.specs.declared.event.Seen.TheVariants as seen
use Rattle.roc_growth.specs.World.{GrownWorld, is_second}
use Rattle.roc_growth.specs.Run.{Stepped}

-- ---- deliveries

-- the event stops the server to which a message goes
abbrev pub StopsReceiver : Option Event → Node → Type 0
StopsReceiver (Some (Stop shard during)) to = to ≡ Server shard
StopsReceiver e to = ⊥

-- message k was taken where it came, and behind that the server to which it came did not stop
pub record IsTaken (steps : List Stepped) (sent : List Sealed) (k : ℕ) : Type 0 where
  pub front : List Stepped
  pub step : Stepped
  pub behind : List Stepped
  pub at : steps ≡ front ++ step ∷ behind
  pub delivers : step.event ≡ Some (Deliver k)
  pub taken : step.outcome.seen ≢ seen.Skipped
  pub since : (x : Stepped) (m : Sealed) → Has x behind → slice_get sent (k - 1) ≡ Some m → ¬ StopsReceiver x.event m.message.to

-- message k was skipped where it came, and its id was answered
pub record IsPassed (steps : List Stepped) (w : GrownWorld) (k : ℕ) : Type 0 where
  pub step : Stepped
  pub has : Has step steps
  pub delivers : step.event ≡ Some (Deliver k)
  pub skipped : step.outcome.seen ≡ seen.Skipped
  pub message : Sealed
  pub there : slice_get w.sent (k - 1) ≡ Some message
  pub id : TxnId
  pub of : id_of message.message.msg ≡ Some id
  pub reply : List ℤ
  pub answered : WasAnswered w.history id reply

-- a delivery of message k counts
pub data Counts (steps : List Stepped) (w : GrownWorld) (k : ℕ) : Type 0 where
  was_taken : IsTaken steps w.sent k → Counts steps w k
  was_passed : IsPassed steps w k → Counts steps w k

-- ---- who is quiet

abbrev pub messages_of : List Sealed → List Envelope
messages_of sent = map (λ m. m.message) sent

-- the plan of an id's file
abbrev pub plan_of : Plan → Option Next → GrownWorld → TxnId → Plan
plan_of plan next w t = own_plan plan next (is_second w t)

-- a group of u that started on a server writes a cell that a group of the view t reads, and u is not decided there
pub record WritesFor (plan : Plan) (next : Option Next) (w : GrownWorld) (u t : TxnId) : Type 0 where
  pub proc : ℕ
  pub args : List ℤ
  pub submitted : Has (Submitted t proc args) w.history
  pub view : is_view_of (plan_of plan next w t) proc ≡ true
  pub shard : ℕ
  pub server : GrownServerState
  pub there : slice_get w.servers shard ≡ Some server
  pub started : StartedGroup
  pub has : Has started server.core.started
  pub of : started.id ≡ u
  pub undecided : ¬ IsDecided server.core.lists.links u
  pub round : ℕ
  pub group : ℕ
  pub writes : holds_up (plan_of plan next w t) server.core (record { id = t; round = round; proc = proc; group = group; args = args }) started ≡ true

-- a startok of t in the network lists u, or t is a view that waits for u
pub data PrecedesIn (plan : Plan) (next : Option Next) (w : GrownWorld) (u t : TxnId) : Type 0 where
  is_told : transactions.PrecedesIn (messages_of w.sent) u t → PrecedesIn plan next w u t
  writes_for : WritesFor plan next w u t → PrecedesIn plan next w u t

-- of every message of t, or of one from which a chain of these leads to t, a delivery counts
pub record AreDelivered (precedes : TxnId → TxnId → Type 0) (steps : List Stepped) (w : GrownWorld) (t : TxnId) : Type 0 where
  pub each : (k : ℕ) (m : Sealed) (u : TxnId) → slice_get w.sent k ≡ Some m → id_of m.message.msg ≡ Some u → ReachesOrIs precedes u t → Counts steps w (suc k)

-- and of every message of an ancestor of it
abbrev pub IsQuiet : Plan → Option Next → List Stepped → GrownWorld → TxnId → Type 0
IsQuiet plan next steps w t = AreDelivered (PrecedesIn plan next w) steps w t

-- t is a view in its last round: behind it no round begins
pub record IsInLastRound (w : GrownWorld) (t : TxnId) : Type 0 where
  pub number : ℕ
  pub coord : GrownCoordState
  pub there : slice_get w.coords number ≡ Some coord
  pub view : View
  pub has : Has view coord.core.views
  pub of : view.id ≡ t
  pub last : view.round ≡ last_round
