-- The ids that a coordinator has given
use Rattle.std.specs.Prelude.{◌≡◌, ◌<◌, ℕ, List}
use Rattle.std.specs.List.{AllByRecursion}
use Rattle.roc_base.specs.declared.id.TxnId.{TxnId}
use Rattle.roc_base.specs.TxnId.{txn_lt}
use Rattle.roc_sequence.specs.Rising.{IsRising}

-- a coordinator of this number that gives this sequence number next has given the id
pub record IsGiven (number next : ℕ) (id : TxnId) : Type 0 where
  pub own : id.coord ≡ number
  pub past : id.seq < next

abbrev pub AreGiven : ℕ → ℕ → List TxnId → Type 0
AreGiven number next ids = AllByRecursion (IsGiven number next) ids

-- it has given these, which rise
pub record AreOwn (number next : ℕ) (ids : List TxnId) : Type 0 where
  pub given : AreGiven number next ids
  pub rising : IsRising txn_lt ids
