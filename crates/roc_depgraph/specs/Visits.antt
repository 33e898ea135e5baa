-- One step of the search for ancestors
use Rattle.std.specs.Prelude.{◌≡◌, ◌+◌, List, length, IsTrue, ◌⊎◌}
use Rattle.std.specs.List.{list_any}
use Rattle.std.specs.List.Sorted.{IsStrictlySortedBy}
use Rattle.roc_sequence.specs.Places.{IsListed}
use Rattle.roc_base.specs.declared.id.TxnId.{TxnId}
use Rattle.roc_base.specs.TxnId.{is_txn, txn_cmp}
use Rattle.roc_base.specs.Edge.{Dependency}

-- u has an entry
abbrev pub IsNamed : List Dependency → TxnId → Type 0
IsNamed es u = IsTrue (list_any (λ d. is_txn d.from u) es)

-- the ids of entries were added to what was found, and the new ones to what is still to be done
pub record Visits (es : List Dependency) (found todo found2 todo2 : List TxnId) : Type 0 where
  pub keeps : (u : TxnId) → IsListed is_txn found u → IsListed is_txn found2 u
  pub named : (u : TxnId) → IsNamed es u → IsListed is_txn found2 u
  pub only : (u : TxnId) → IsListed is_txn found2 u → IsListed is_txn found u ⊎ IsNamed es u
  pub keeps_todo : (u : TxnId) → IsListed is_txn todo u → IsListed is_txn todo2 u
  pub new_todo : (u : TxnId) → IsListed is_txn found2 u → (¬ IsListed is_txn found u) → IsListed is_txn todo2 u
  pub only_todo : (u : TxnId) → IsListed is_txn todo2 u → IsListed is_txn todo u ⊎ IsNamed es u
  pub rising : IsStrictlySortedBy txn_cmp found → IsStrictlySortedBy txn_cmp found2
  pub count : length todo2 + length found ≡ length todo + length found2
