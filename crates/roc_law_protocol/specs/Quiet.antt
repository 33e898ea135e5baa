-- Transactions all of whose messages were delivered: docs/PROTOCOL.md, "Quiet transactions"
use Rattle.std.specs.Prelude.{◌≡◌, ℕ, ℤ, suc, ◌-◌, List, ◌∷◌, ◌++◌, Option, Some, map, slice_get}
use Rattle.roc_sequence.specs.Lists.{Has}
use Rattle.roc_base.specs.declared.id.TxnId.{TxnId}
use Rattle.roc_base.specs.declared.node.Node.{Node}
use Rattle.roc_base.specs.declared.node.Node.TheVariants.{Server}
use Rattle.roc_base.specs.declared.node.Shard.{Shard}
use Rattle.roc_base.specs.Edge.{Dependency}
use Rattle.roc_depgraph.specs.declared.known.KnownList.{KnownList}
use Rattle.roc_depgraph.specs.Reach.{ReachesOrIs}
use Rattle.roc_msg.specs.declared.msg.Msg.TheVariants.{StartOk}
use Rattle.roc_msg.specs.declared.msg.Envelope.{Envelope}
use Rattle.roc_msg.specs.Msg.{id_of}
use Rattle.roc_plan.specs.Groups.{Plan}
use Rattle.roc_law_protocol.specs.declared.event.Event.{Event}
use Rattle.roc_law_protocol.specs.declared.event.Event.TheVariants.{Deliver, Stop}
use Rattle.roc_law_protocol.specs.World.{World}
use Rattle.roc_law_protocol.specs.Run.{Stepped}

-- a startok in the network: of this group of this transaction, with these edges and facts
pub record IsToldIn (sent : List Envelope) (t : TxnId) (group : ℕ) (edges : List Dependency) (facts : List KnownList) : Type 0 where
  pub message : Envelope
  pub has : Has message sent
  pub shard : Shard
  pub bound : List ℤ
  pub outs : List ℤ
  pub is : message.msg ≡ StartOk t group shard bound outs edges facts

-- a startok of t in the network lists u
pub record PrecedesIn (sent : List Envelope) (u t : TxnId) : Type 0 where
  pub group : ℕ
  pub edges : List Dependency
  pub facts : List KnownList
  pub told : IsToldIn sent t group edges facts
  pub entry : Dependency
  pub listed : Has entry edges
  pub from : entry.from ≡ u

-- message k was delivered at least once
abbrev pub WasDelivered : World → ℕ → Type 0
WasDelivered w k = ¬ Has k w.undelivered

-- the event stops the server to which a message goes
abbrev pub StopsReceiver : Option Event → Node → Type 0
StopsReceiver (Some (Stop shard during)) to = to ≡ Server shard
StopsReceiver e to = ⊥

-- a delivery of message k counts: behind it the server to which it came did not stop
pub record Counts (events : List (Option Event)) (sent : List Envelope) (k : ℕ) : Type 0 where
  pub front : List (Option Event)
  pub behind : List (Option Event)
  pub at : events ≡ front ++ Some (Deliver k) ∷ behind
  pub since : (e : Option Event) (m : Envelope) → Has e behind → slice_get sent (k - 1) ≡ Some m → ¬ StopsReceiver e m.to

-- of every message of t, or of an ancestor of it by startoks in the network, a delivery counts
pub record IsQuiet (plan : Plan) (steps : List Stepped) (w : World) (t : TxnId) : Type 0 where
  pub each :
      (k : ℕ) (m : Envelope) (u : TxnId) → slice_get w.sent k ≡ Some m → id_of m.msg ≡ Some u → ReachesOrIs (PrecedesIn w.sent) u t
      → Counts (map (λ s. s.event) steps) w.sent (suc k)
