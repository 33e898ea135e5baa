-- What a server has heard of what coordinators have answered: docs/PROTOCOL.md, "Watermarks"
use Rattle.std.specs.Prelude.{ℕ, Bool, nat_lt, max, List, replicate, slice_index_or, slice_set}
use Rattle.roc_base.specs.declared.id.TxnId.{TxnId}

-- of each of sixteen coordinators the highest watermark that was heard
abbrev pub none_below : List ℕ
none_below = replicate 16 0

-- of a coordinator past the last one nothing is heard
abbrev pub mark_of : List ℕ → (coord : ℕ) → ℕ
mark_of below coord = slice_index_or below coord 0

-- the transaction is below its coordinator's watermark: it was answered there
abbrev pub is_ended : List ℕ → TxnId → Bool
is_ended below id = nat_lt id.seq (mark_of below id.coord)

-- a watermark is heard; a lower one than before changes nothing
abbrev pub raised : List ℕ → (coord mark : ℕ) → List ℕ
raised below coord mark = slice_set below coord (max (mark_of below coord) mark)
