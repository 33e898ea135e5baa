-- Lists of the decided transactions that keep what ran: docs/PROOF.md, "The log machine"
use Rattle.std.specs.Prelude.{◌≢◌, List}
use Rattle.roc_sequence.specs.Places.{IsListed, IsListedBefore, NoneTwice}
use Rattle.roc_base.specs.declared.id.TxnId.{TxnId}
use Rattle.roc_base.specs.TxnId.{is_txn}
use Rattle.roc_rows.specs.Store.{Store}
use Rattle.roc_law_orders.specs.Behaviour.{TxnGroup, is_txn_group, is_group_number}
use Rattle.roc_law_orders.specs.Runs.{Conflict}
use Rattle.roc_law_log.specs.Scheme.{Scheme}
use Rattle.roc_law_log.specs.Log.{Log}

-- O has the transactions that are decided, each once, and keeps what ran
pub record KeepsRan (S : Scheme) (start : Store) (log : Log) (O : List TxnId) : Type 0 where
  pub once : NoneTwice is_txn O
  pub from : (t : TxnId) → IsListed is_txn O t → IsListed is_txn log.order t
  pub all : (t : TxnId) → IsListed is_txn log.order t → IsListed is_txn O t
  -- of two groups in conflict that ran, the one that ran first is of the first transaction
  pub ran_first :
      (q r : TxnGroup) → IsListed is_txn O q.txn → IsListed is_txn O r.txn → q.txn ≢ r.txn
      → IsListed is_txn_group log.past.ran q → IsListed is_txn_group log.past.ran r → Conflict S.behaviour start log.past.ran q r
      → IsListedBefore is_txn_group log.past.ran q r → IsListedBefore is_txn O q.txn r.txn
  -- and where one of the two ran, and the other did not, its transaction is the first
  pub ran_alone :
      (q r : TxnGroup) → IsListed is_txn O q.txn → IsListed is_txn O r.txn → q.txn ≢ r.txn
      → IsListed is_group_number (S.behaviour.groups q.txn) q.group → ¬ IsListed is_txn_group log.past.ran q → IsListed is_txn_group log.past.ran r
      → Conflict S.behaviour start log.past.ran q r
      → IsListedBefore is_txn O r.txn q.txn
