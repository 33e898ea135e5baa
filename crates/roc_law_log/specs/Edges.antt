-- Edges that somebody follows, as tests, and what precedes: docs/PROOF.md, "The log machine"
use Rattle.std.specs.Prelude.{Bool, IsTrue, List, ◌⊎◌}
use Rattle.roc_sequence.specs.Places.{IsListed}
use Rattle.roc_base.specs.declared.id.TxnId.{TxnId}
use Rattle.roc_base.specs.TxnId.{is_txn}
use Rattle.roc_rows.specs.Store.{Store}
use Rattle.roc_law_log.specs.Scheme.{Scheme}
use Rattle.roc_law_log.specs.Log.{Log, PrecedesTxn, PrecedesTxnNow}
use Rattle.roc_law_log.specs.Steps.{IsWaived}

-- the edges, and the immediate ones among them, are true, and into the transactions ts they are all that is not waived
pub record AreEdges (S : Scheme) (start : Store) (log : Log) (edge now : TxnId → TxnId → Bool) (ts : List TxnId) : Type 0 where
  pub sound : (u t : TxnId) → IsTrue (edge u t) → PrecedesTxn S start log.past u t
  pub sound_now : (u t : TxnId) → IsTrue (now u t) → PrecedesTxnNow S start log.past u t
  pub complete : (u t : TxnId) → IsListed is_txn ts t → PrecedesTxn S start log.past u t → IsTrue (edge u t) ⊎ IsWaived S start log u
  pub complete_now : (u t : TxnId) → IsListed is_txn ts t → PrecedesTxnNow S start log.past u t → IsTrue (now u t) ⊎ IsWaived S start log u
