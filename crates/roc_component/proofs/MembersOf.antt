-- What the members of a set are made of
use Rattle.std.proofs.Common.{◌≡◌, ◌↔◌, List, map}
use Rattle.std.specs.List.Sorted.{IsStrictlySortedBy}
use Rattle.roc_sequence.specs.Lists.{Has}
use Rattle.roc_sequence.specs.Places.{IsListed}
use Rattle.roc_base.specs.declared.id.TxnId.{TxnId}
use Rattle.roc_base.specs.TxnId.{is_txn, txn_cmp}
use Rattle.roc_depgraph.specs.Reach.{Reaches}
use Rattle.roc_component.specs.Components.{Mates, among}
use Rattle.roc_component.proofs.Member.{Member}

-- what a member says of its component, and of what comes before
pub record IsMember (A J : TxnId → TxnId → Type 0) (m : Member) : Type 0 where
  pub mates : (u : TxnId) → IsListed is_txn m.mates u ↔ Mates A m.id u
  pub before : (u : TxnId) → IsListed is_txn m.before u ↔ (Reaches A u m.id × ¬ Mates A m.id u)
  pub immediate : (u : TxnId) → IsListed is_txn m.immediate u ↔ (J u m.id × Mates A m.id u)

-- the members of M, rising by id
pub record AreMembers (E I : TxnId → TxnId → Type 0) (M : List TxnId) (members : List Member) : Type 0 where
  pub rising : IsStrictlySortedBy txn_cmp (map (λ m. m.id) members)
  pub sound : (m : Member) → Has m members → IsListed is_txn M m.id
  pub complete : (u : TxnId) → IsListed is_txn M u → (m : Member) × Has m members × (m.id ≡ u)
  pub each : (m : Member) → Has m members → IsMember (among M E) (among M I) m
