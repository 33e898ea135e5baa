-- The components that were taken, and the transactions of those that are over
use Rattle.std.specs.Prelude.{ℕ, List}
use Rattle.roc_sequence.specs.Places.{IsListed}
use Rattle.roc_base.specs.declared.id.TxnId.{TxnId}
use Rattle.roc_base.specs.TxnId.{is_txn}
use Rattle.roc_depgraph.specs.Closure.{IsRisingListOf}
use Rattle.roc_step.specs.Forgets.{over}

-- the components that were taken, and how many more find room
pub record TakenComponents : Type 0 where
  pub components : List (List TxnId)
  pub spare : ℕ

-- exactly the transactions of components that are over, by id rising
abbrev pub AreOver : (below : List ℕ) → (taken : List (List TxnId)) → (ids : List TxnId) → Type 0
AreOver below taken ids = IsRisingListOf (IsListed is_txn (over below taken)) ids
