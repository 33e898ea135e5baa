-- What servers took, in which components, and what nobody has to wait for: docs/PROTOCOL.md, "Forgetting"
use Rattle.std.specs.Prelude.{◌≡◌, ℕ, ℤ, ◌-◌, List, ◌∷◌, ◌++◌, Option, Some, slice_get}
use Rattle.roc_sequence.specs.Lists.{Has}
use Rattle.roc_base.specs.declared.id.TxnId.{TxnId}
use Rattle.roc_base.specs.declared.node.Shard.{Shard}
use Rattle.roc_base.specs.declared.node.Node.TheVariants.{Server}
use Rattle.roc_base.specs.Edge.{Dependency}
use Rattle.roc_depgraph.specs.declared.known.KnownList.{KnownList}
use Rattle.roc_component.specs.Components.{Mates}
use Rattle.roc_msg.specs.declared.msg.Msg.TheVariants.{StartOk}
use Rattle.roc_msg.specs.declared.msg.Envelope.{Envelope}
use Rattle.roc_audit.specs.History.{WasAnswered}
use Rattle.roc_law_protocol.specs.declared.event.Event.{Event}
use Rattle.roc_law_protocol.specs.declared.event.Event.TheVariants.{Deliver, Stop}
use Rattle.roc_law_protocol.specs.declared.event.Kept.TheVariants.{Sent}
use Rattle.roc_law_protocol.specs.Quiet.{PrecedesIn}
use Rattle.roc_law_protocol.specs.Run.{Stepped}
use Rattle.roc_law_protocol.specs.World.{World}

-- a startok in the network tells that a group of t started on this shard
pub record HasStartedOn (sent : List Envelope) (t : TxnId) (shard : Shard) : Type 0 where
  pub message : Envelope
  pub has : Has message sent
  pub group : ℕ
  pub bound : List ℤ
  pub outs : List ℤ
  pub edges : List Dependency
  pub facts : List KnownList
  pub is : message.msg ≡ StartOk t group shard bound outs edges facts

-- all of t's component, by the startoks in the network, are answered
abbrev pub IsSettledIn : World → TxnId → Type 0
IsSettledIn w t = (u : TxnId) → Mates (PrecedesIn w.sent) t u → (reply : List ℤ) × WasAnswered w.history u reply

-- the event brings message k to its receiver, which takes it
pub data Brings : Option Event → ℕ → Type 0 where
  delivers : (k : ℕ) → Brings (Some (Deliver k)) k
  stops_at : (shard : Shard) (k many : ℕ) → Brings (Some (Stop shard (Some (k, Sent many)))) k

-- in this step the server of the shard took a component
pub record IsTakenAt (x : Stepped) (shard : Shard) (component : List TxnId) : Type 0 where
  pub k : ℕ
  pub brings : Brings x.event k
  pub message : Envelope
  pub is : slice_get x.outcome.world.sent (k - 1) ≡ Some message
  pub to : message.to ≡ Server shard
  pub has : Has component x.outcome.components

-- it is the first that the server took with t
pub record IsFirstTaken (steps : List Stepped) (shard : Shard) (t : TxnId) (component : List TxnId) : Type 0 where
  pub front : List Stepped
  pub step : Stepped
  pub behind : List Stepped
  pub at : steps ≡ front ++ step ∷ behind
  pub taken : IsTakenAt step shard component
  pub member : Has t component
  pub none : (x : Stepped) (c : List TxnId) → Has x front → IsTakenAt x shard c → ¬ Has t c

-- it is the last one
pub record IsLastTaken (steps : List Stepped) (shard : Shard) (t : TxnId) (component : List TxnId) : Type 0 where
  pub front : List Stepped
  pub step : Stepped
  pub behind : List Stepped
  pub at : steps ≡ front ++ step ∷ behind
  pub taken : IsTakenAt step shard component
  pub member : Has t component
  pub none : (x : Stepped) (c : List TxnId) → Has x behind → IsTakenAt x shard c → ¬ Has t c
