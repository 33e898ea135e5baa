-- What a transaction depends on, as far as lists are known: docs/PROTOCOL.md, "Lists"
use Rattle.std.specs.Prelude.{List}
use Rattle.std.specs.List.Sorted.{IsStrictlySortedBy}
use Rattle.roc_sequence.specs.Places.{IsListed}
use Rattle.roc_base.specs.declared.id.TxnId.{TxnId}
use Rattle.roc_base.specs.TxnId.{is_txn, txn_cmp}
use Rattle.roc_depgraph.specs.declared.known.KnownList.{KnownList}
use Rattle.roc_depgraph.specs.declared.closure.Closure.{Closure}
use Rattle.roc_depgraph.specs.declared.closure.Closure.TheVariants.{Whole, Missing}
use Rattle.roc_depgraph.specs.Deps.{Precedes, IsKnown, IsDecided}
use Rattle.roc_depgraph.specs.Reach.{ReachesOrIs}

-- exactly the ids of which P holds, rising strictly
pub record IsRisingListOf (P : TxnId → Type 0) (ids : List TxnId) : Type 0 where
  pub rising : IsStrictlySortedBy txn_cmp ids
  pub sound : (u : TxnId) → IsListed is_txn ids u → P u
  pub complete : (u : TxnId) → P u → IsListed is_txn ids u

-- Where id is decided, it and its ancestors; else what is reached of which no list is known
abbrev pub IsClosure : List KnownList → TxnId → Closure → Type 0
IsClosure known id (Whole ids) = IsDecided known id × IsRisingListOf (λ u. ReachesOrIs (Precedes known) u id) ids.items
IsClosure known id (Missing ids) = (¬ IsDecided known id) × IsRisingListOf (λ u. ReachesOrIs (Precedes known) u id × ¬ IsKnown known u) ids.items
