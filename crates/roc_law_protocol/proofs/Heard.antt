-- What counts as delivered of a transaction, and what was sent for it then
use Rattle.std.specs.Prelude.{◌≡◌, ℕ, ℤ, suc, List, Option, Some, slice_get}
use Rattle.roc_sequence.specs.Lists.{Has}
use Rattle.roc_base.specs.declared.id.TxnId.{TxnId}
use Rattle.roc_base.specs.declared.node.Shard.{Shard}
use Rattle.roc_base.specs.declared.node.Node.TheVariants.{Server}
use Rattle.roc_base.specs.Edge.{Dependency}
use Rattle.roc_depgraph.specs.declared.known.KnownList.{KnownList}
use Rattle.roc_msg.specs.declared.msg.Msg.TheVariants.{Start, Commit, CommitOk}
use Rattle.roc_msg.specs.declared.msg.Envelope.{Envelope}
use Rattle.roc_msg.specs.Msg.{id_of}
use Rattle.roc_law_protocol.specs.World.{World}
use Rattle.roc_law_protocol.specs.declared.event.Event.{Event}
use Rattle.roc_law_protocol.specs.Quiet.{IsToldIn, Counts}

-- of every message of t a delivery counts
pub record AreDelivered (events : List (Option Event)) (w : World) (t : TxnId) : Type 0 where
  pub each : (k : ℕ) (m : Envelope) → slice_get w.sent k ≡ Some m → id_of m.msg ≡ Some t → Counts events w.sent (suc k)

-- each start of t of which a delivery counts has a startok in the network
pub record StartsHeard (events : List (Option Event)) (w : World) (t : TxnId) : Type 0 where
  pub each :
      (k : ℕ) (m : Envelope) (proc group : ℕ) (args inputs : List ℤ) → slice_get w.sent k ≡ Some m → m.msg ≡ Start t proc group args inputs
      → Counts events w.sent (suc k) → (edges : List Dependency) × (facts : List KnownList) × IsToldIn w.sent t group edges facts

-- where a group of t was asked to start, there is a commit of t in the network
pub record CommitsAreOut (w : World) (t : TxnId) : Type 0 where
  pub each :
      (m : Envelope) (shard : Shard) (proc group : ℕ) (args inputs : List ℤ) → Has m w.sent → m.to ≡ Server shard → m.msg ≡ Start t proc group args inputs
      → (edges : List Dependency) × (facts : List KnownList) × (n : Envelope) × Has n w.sent × (n.to ≡ Server shard) × (n.msg ≡ Commit t edges facts)

-- each commit of t of which a delivery to a server counts has a commitok from there in the network
pub record CommitsHeard (events : List (Option Event)) (w : World) (t : TxnId) : Type 0 where
  pub each :
      (k : ℕ) (m : Envelope) (shard : Shard) (edges : List Dependency) (facts : List KnownList) → slice_get w.sent k ≡ Some m → m.to ≡ Server shard
      → m.msg ≡ Commit t edges facts → Counts events w.sent (suc k) → (outs : List ℤ) × (n : Envelope) × Has n w.sent × (n.msg ≡ CommitOk t shard outs)
