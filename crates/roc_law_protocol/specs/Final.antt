-- Lists as the startoks in the network make them: docs/PROTOCOL.md, "Lists"
use Rattle.std.specs.Prelude.{◌≡◌, ℕ, ℤ, ◌<◌, List, [], ◌∷◌, flat_map, length}
use Rattle.std.specs.List.{range_with_len}
use Rattle.roc_sequence.specs.Lists.{Has}
use Rattle.roc_base.specs.declared.id.TxnId.{TxnId}
use Rattle.roc_base.specs.Edge.{Dependency}
use Rattle.roc_base.specs.Edges.{united}
use Rattle.roc_depgraph.specs.declared.known.KnownList.{KnownList}
use Rattle.roc_msg.specs.declared.msg.Msg.{Msg}
use Rattle.roc_msg.specs.declared.msg.Msg.TheVariants.{StartOk, Commit, Known}
use Rattle.roc_msg.specs.declared.msg.Envelope.{Envelope}
use Rattle.roc_plan.specs.Groups.{Plan, groups_of}
use Rattle.roc_audit.specs.declared.entry.Entry.TheVariants.{Submitted}
use Rattle.roc_law_protocol.specs.World.{World}
use Rattle.roc_law_protocol.specs.Quiet.{IsToldIn}

-- the lists that a message carries, each with its transaction
abbrev pub lists_in : Msg → List KnownList
lists_in (StartOk id group shard bound outs edges facts) = facts
lists_in (Commit id edges facts) = record { of = id; edges = edges } ∷ facts
lists_in (Known id edges) = record { of = id; edges = edges } ∷ []
lists_in msg = []

-- a list of t is the union of what the startoks of its groups tell, so many, all of which are in the network
pub record IsUnionIn (sent : List Envelope) (groups : ℕ) (t : TxnId) (list : List Dependency) : Type 0 where
  pub told : ℕ → List Dependency
  pub in_network : (g : ℕ) → g < groups → (facts : List KnownList) × IsToldIn sent t g (told g) facts
  pub is_union : list ≡ united (flat_map told (range_with_len 0 groups))

-- so it is of a transaction that was submitted, with all its groups
pub record IsFinalIn (plan : Plan) (w : World) (t : TxnId) (list : List Dependency) : Type 0 where
  pub proc : ℕ
  pub args : List ℤ
  pub submitted : Has (Submitted t proc args) w.history
  pub union : IsUnionIn w.sent (length (groups_of plan proc)) t list
