-- The least of many transactions by id
use Rattle.std.specs.Prelude.{◌≡◌, ℕ, List, take}
use Rattle.std.specs.List.Sorted.{IsStrictlySortedBy}
use Rattle.roc_base.specs.declared.id.TxnId.{TxnId}
use Rattle.roc_base.specs.TxnId.{txn_cmp}
use Rattle.roc_depgraph.specs.Closure.{IsRisingListOf}

-- how many are the least: as many as lists travel along with a message
abbrev pub most_least_ids : ℕ
most_least_ids = 16

-- the first of all of which P holds, by id rising, so that they rise too
pub record AreLeastIds (P : TxnId → Type 0) (ids : List TxnId) : Type 0 where
  pub all : List TxnId
  pub rising : IsRisingListOf P all
  pub first : ids ≡ take most_least_ids all
  pub rises : IsStrictlySortedBy txn_cmp ids
