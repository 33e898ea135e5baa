-- The keys of a set, by id rising
use Rattle.std.specs.Prelude.{List, [], ◌∷◌, if◌then◌else◌}
use Rattle.roc_base.specs.declared.id.TxnId.{TxnId}
use Rattle.roc_base.specs.TxnId.{txn_lt}

-- one more in its place, once
unfoldable pub with_id : TxnId → List TxnId → List TxnId
with_id id [] = id ∷ []
with_id id (x ∷ xs) = if txn_lt id x then id ∷ x ∷ xs else (if txn_lt x id then x ∷ with_id id xs else x ∷ xs)

unfoldable pub rising_ids : List TxnId → List TxnId
rising_ids [] = []
rising_ids (x ∷ xs) = with_id x (rising_ids xs)
