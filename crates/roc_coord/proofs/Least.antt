-- The least sequence of ids and of the next one
use Rattle.std.proofs.Common.{◌≡◌, ◌∷◌, [], ℕ, List, min, arith}
use Rattle.roc_base.specs.declared.id.TxnId.{TxnId}
use Rattle.roc_coord.specs.Marks.{least_seq}

-- a number may be taken in at the end instead
pub least-more : (ids : List TxnId) (next seq : ℕ) → least_seq ids (min next seq) ≡ min seq (least_seq ids next)
least-more [] next seq = omega arith
least-more (id ∷ ids) next seq = let rest = least-more ids next seq in omega arith
