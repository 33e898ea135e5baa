-- A set of ids beside a list of them
use Rattle.std.specs.Prelude.{◌≡◌, List}
use Rattle.std.specs.HashSet.{HashSet, contains}
use Rattle.roc_sequence.specs.Places.{is_listed}
use Rattle.roc_base.specs.declared.id.TxnId.{TxnId}
use Rattle.roc_base.specs.TxnId.{is_txn}

-- the set has those that are listed
abbrev pub AreMembers : {S : Type 0} → HashSet TxnId S → List TxnId → Type 0
AreMembers members ids = (u : TxnId) → contains is_txn members u ≡ is_listed is_txn ids u
