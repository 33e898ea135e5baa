-- Cells of which a log says what they hold: docs/PROOF.md, "The log machine"
use Rattle.std.specs.Prelude.{ℕ, ◌+◌, ◌&&◌, IsTrue, List, [], ◌∷◌, length}
use Rattle.std.specs.List.{filter}
use Rattle.roc_sequence.specs.Places.{IsListed}
use Rattle.roc_base.specs.TxnId.{is_txn}
use Rattle.roc_rows.specs.declared.cell.Cell.{Cell}
use Rattle.roc_rows.specs.Cells.{is_cell}
use Rattle.roc_rows.specs.Store.{Store}
use Rattle.roc_law_orders.specs.Behaviour.{TxnGroup, is_txn_group, is_written, Use, Behaviour}
use Rattle.roc_law_orders.specs.Runs.{uses_in}
use Rattle.roc_law_log.specs.Scheme.{Scheme}
use Rattle.roc_law_log.specs.Log.{Log}

-- x is clean: each group that started and may write it is of a transaction that the shard of x decided
abbrev pub IsClean : Scheme → Store → Log → Cell → Type 0
IsClean S start log x =
    (q : TxnGroup) → IsListed is_txn_group log.past.started q → IsTrue (is_written x (uses_in S.behaviour start log.past.ran q))
    → IsListed is_txn (log.decided (S.cell_shard x)) q.txn

-- how many of these uses may write x
abbrev pub writes_of : Cell → List Use → ℕ
writes_of x uses = length (filter (λ u. u.writes && is_cell u.cell x) uses)

-- and how many of all those that the groups of Q have among R
abbrev pub writes_among : Behaviour → Store → List TxnGroup → Cell → List TxnGroup → ℕ
writes_among B start R x [] = 0
writes_among B start R x (r ∷ Q) = writes_of x (uses_in B start R r) + writes_among B start R x Q

-- how many uses that may write x the groups have that ran
abbrev pub writes_to : Scheme → Store → Log → Cell → ℕ
writes_to S start log x = writes_among S.behaviour start log.past.ran x log.past.ran
