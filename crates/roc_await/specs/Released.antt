-- Transactions for which nobody has to wait any more: docs/PROTOCOL.md, "Fetches"
use Rattle.std.specs.Prelude.{◌≡◌, not, List, filter}
use Rattle.std.specs.Option.{option_map}
use Rattle.roc_sequence.specs.Places.{IsListed, is_listed}
use Rattle.roc_base.specs.declared.id.TxnId.{TxnId}
use Rattle.roc_base.specs.TxnId.{is_txn}
use Rattle.roc_depgraph.specs.declared.known.KnownList.{KnownList}
use Rattle.roc_depgraph.specs.Deps.{list_of, IsKnown}

-- the lists of these are unknown, and entries that name one of them are left out of the others
pub record AreReleased (known left : List KnownList) (gone : List TxnId) : Type 0 where
  pub unknown : (u : TxnId) → IsListed is_txn gone u → ¬ IsKnown known u
  pub lists : (t : TxnId) → list_of t left ≡ option_map (filter (λ d. not (is_listed is_txn gone d.from))) (list_of t known)
