-- A serial order that grows: docs/PROTOCOL.md, "World"
use Rattle.std.specs.Prelude.{List, [], ◌∷◌, ◌++◌, if◌then◌else◌}
use Rattle.roc_sequence.specs.Places.{is_listed}
use Rattle.roc_base.specs.declared.id.TxnId.{TxnId}
use Rattle.roc_base.specs.TxnId.{is_txn}

-- with one more at its end, where it is not there yet
abbrev pub noted_one : List TxnId → TxnId → List TxnId
noted_one order t = order ++ (if is_listed is_txn order t then [] else t ∷ [])

-- those of ts that are not in the order yet, in their order, are put at its end
abbrev pub noted : List TxnId → List TxnId → List TxnId
noted order [] = order
noted order (t ∷ ts) = noted (noted_one order t) ts
