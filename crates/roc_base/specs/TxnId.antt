-- Transaction ids: when two are one, their order, and their text
use Rattle.std.specs.Prelude.{ℕ, Bool, ◌&&◌, ◌||◌, ◌==◌, nat_lt, List, ◌∷◌, ◌++◌}
use Rattle.std.specs.Fmt.{decimal}
use Rattle.std.specs.Ordering.{nat_cmp, ordering_then}
use Rattle.std.specs.declared.cmp.Ordering.{Ordering}
use Rattle.roc_base.specs.declared.id.TxnId.{TxnId}

-- the two ids are one
abbrev pub is_txn : TxnId → TxnId → Bool
is_txn a b = a.coord == b.coord && a.seq == b.seq

-- by coordinator, and then by sequence
abbrev pub txn_cmp : TxnId → TxnId → Ordering
txn_cmp a b = ordering_then (nat_cmp a.coord b.coord) (nat_cmp a.seq b.seq)

-- a comes before b in that order
abbrev pub txn_lt : TxnId → TxnId → Bool
txn_lt a b = nat_lt a.coord b.coord || (a.coord == b.coord && nat_lt a.seq b.seq)

-- `c.s`, both in decimal
abbrev pub txn_text : TxnId → List ℕ
txn_text id = decimal id.coord ++ 46 ∷ decimal id.seq
