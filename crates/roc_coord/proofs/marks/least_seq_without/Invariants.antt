use Rattle.std.proofs.Common.{◌≡◌, not, filter, drop}
use Rattle.roc_base.specs.TxnId.{is_txn}
use Rattle.roc_coord.specs.Marks.{least_seq}
use Rattle.roc_coord.proofs.marks.least_seq_without.Given as goal

-- what is left, from here, leads where all leads from the start
abbrev pub invariant-loop-other : goal.invariant-loop-other
invariant-loop-other l = least_seq (filter (λ u. not (is_txn u l.id)) (drop l.other-index l.ids)) l.least ≡ least_seq (filter (λ u. not (is_txn u l.id)) l.ids) l.next
