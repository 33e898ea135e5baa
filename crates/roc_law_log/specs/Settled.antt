-- Transactions for which there is nothing left to wait: docs/PROOF.md, "The log machine"
use Rattle.roc_sequence.specs.Places.{IsListed}
use Rattle.roc_base.specs.declared.id.TxnId.{TxnId}
use Rattle.roc_base.specs.TxnId.{is_txn}
use Rattle.roc_rows.specs.Store.{Store}
use Rattle.roc_component.specs.Components.{Mates}
use Rattle.roc_law_log.specs.Scheme.{Scheme}
use Rattle.roc_law_log.specs.Log.{Log, PrecedesTxn}

-- all of u's component, u too, is answered
abbrev pub IsSettled : Scheme → Store → Log → TxnId → Type 0
IsSettled S start log u = (m : TxnId) → Mates (PrecedesTxn S start log.past) u m → IsListed is_txn log.answered m
