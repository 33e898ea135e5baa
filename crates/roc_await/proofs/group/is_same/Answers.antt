use Rattle.std.proofs.lemmas.Slice.Eq.{slice_eq-Decides}
use Rattle.roc_base.proofs.Ids.{Decides-is_txn}
use Rattle.roc_await.proofs.group.is_same.Goals as goal

pub returns : goal.returns
returns c = λ same. (slice_eq-Decides Decides-is_txn _ _ _ c.eq.ensures).0 same
