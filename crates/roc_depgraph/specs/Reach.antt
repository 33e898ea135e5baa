-- Chains of edges between transactions
use Rattle.std.specs.Prelude.{◌≡◌, ◌⊎◌}
use Rattle.roc_base.specs.declared.id.TxnId.{TxnId}

-- a chain of edges leads from u to t: the least relation that holds the edges and goes on by one
pub data Reaches (E : TxnId → TxnId → Type 0) (u : TxnId) : TxnId → Type 0 where
  direct : {t : TxnId} → E u t → Reaches E u t
  through : {s t : TxnId} → Reaches E u s → E s t → Reaches E u t

-- u is t, or a chain leads from u to t
abbrev pub ReachesOrIs : (E : TxnId → TxnId → Type 0) → TxnId → TxnId → Type 0
ReachesOrIs E u t = (u ≡ t) ⊎ Reaches E u t
