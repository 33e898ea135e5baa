-- Transactions and views all of whose messages were delivered: docs/PROTOCOL.md, "Quiet transactions" and "Views"
use Rattle.std.specs.Prelude.{◌≡◌, ℕ, ℤ, suc, true, List, Some, map, slice_get}
use Rattle.roc_sequence.specs.Lists.{Has}
use Rattle.roc_base.specs.declared.id.TxnId.{TxnId}
use Rattle.roc_depgraph.specs.Deps.{IsDecided}
use Rattle.roc_depgraph.specs.Reach.{ReachesOrIs}
use Rattle.roc_msg.specs.declared.msg.Envelope.{Envelope}
use Rattle.roc_msg.specs.Msg.{id_of}
use Rattle.roc_plan.specs.Groups.{Plan, is_view_of}
use Rattle.roc_step.specs.declared.started.StartedGroup.{StartedGroup}
use Rattle.roc_step.specs.Reads.{holds_up}
use Rattle.roc_step.specs.State.{ServerState}
use Rattle.roc_coord.specs.State.{CoordState}
use Rattle.roc_readonly.specs.Round.{last_round}
use Rattle.roc_readonly.specs.declared.view.View.{View}
use Rattle.roc_audit.specs.declared.entry.Entry.TheVariants.{Submitted}
use Rattle.roc_law_protocol.specs.Quiet as transactions
use Rattle.roc_law_world.specs.World.{World}
use Rattle.roc_law_world.specs.Run.{Stepped}

-- a group of u that started on a server writes a cell that a group of the view t reads, and u is not decided there
pub record WritesFor (plan : Plan) (w : World) (u t : TxnId) : Type 0 where
  pub proc : ℕ
  pub args : List ℤ
  pub submitted : Has (Submitted t proc args) w.history
  pub view : is_view_of plan proc ≡ true
  pub shard : ℕ
  pub server : ServerState
  pub there : slice_get w.servers shard ≡ Some server
  pub started : StartedGroup
  pub has : Has started server.started
  pub of : started.id ≡ u
  pub undecided : ¬ IsDecided server.lists.links u
  pub round : ℕ
  pub group : ℕ
  pub writes : holds_up plan server (record { id = t; round = round; proc = proc; group = group; args = args }) started ≡ true

-- a startok of t in the network lists u, or t is a view that waits for u
pub data PrecedesIn (plan : Plan) (w : World) (u t : TxnId) : Type 0 where
  is_told : transactions.PrecedesIn w.sent u t → PrecedesIn plan w u t
  writes_for : WritesFor plan w u t → PrecedesIn plan w u t

-- message k was delivered at least once
abbrev pub WasDelivered : World → ℕ → Type 0
WasDelivered w k = ¬ Has k w.undelivered

-- of every message of t, or of one from which a chain of these leads to t, a delivery counts
pub record AreDelivered (precedes : TxnId → TxnId → Type 0) (steps : List Stepped) (w : World) (t : TxnId) : Type 0 where
  pub each :
      (k : ℕ) (m : Envelope) (u : TxnId) → slice_get w.sent k ≡ Some m → id_of m.msg ≡ Some u → ReachesOrIs precedes u t
      → transactions.Counts (map (λ s. s.event) steps) w.sent (suc k)

-- and of every message of an ancestor of it
abbrev pub IsQuiet : Plan → List Stepped → World → TxnId → Type 0
IsQuiet plan steps w t = AreDelivered (PrecedesIn plan w) steps w t

-- t is a view in its last round: behind it no round begins
pub record IsInLastRound (w : World) (t : TxnId) : Type 0 where
  pub number : ℕ
  pub coord : CoordState
  pub there : slice_get w.coords number ≡ Some coord
  pub view : View
  pub has : Has view coord.views
  pub of : view.id ≡ t
  pub last : view.round ≡ last_round
