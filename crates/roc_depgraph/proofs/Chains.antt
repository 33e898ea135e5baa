-- Chains of edges
use Rattle.std.proofs.Common.{sym, subst, inl, inr}
use Rattle.roc_base.specs.declared.id.TxnId.{TxnId}
use Rattle.roc_depgraph.specs.Reach.{Reaches, direct, through, ReachesOrIs}

module _ (E : TxnId → TxnId → Type 0) where
  pub joined_chain : (a b c : TxnId) → Reaches E a b → Reaches E b c → Reaches E a c
  joined_chain a b _ p (direct e) = through p e
  joined_chain a b _ p (through q e) = through (joined_chain a b _ p q) e

  -- one more edge in front of a chain
  pub chain_before : (a b c : TxnId) → E a b → ReachesOrIs E b c → Reaches E a c
  chain_before a b c e (inl i) = subst (Reaches E a) i (direct e)
  chain_before a b c e (inr p) = joined_chain a b c (direct e) p

  -- chains into a closed set stay in it
  pub closed_chain : (L : TxnId → Type 0) → ((u t : TxnId) → L t → E u t → L u) → (u t : TxnId) → L t → Reaches E u t → L u
  closed_chain L closed u _ h (direct e) = closed u _ h e
  closed_chain L closed u _ h (through p e) = closed_chain L closed u _ (closed _ _ h e) p

  pub closed_from : (L : TxnId → Type 0) → ((u t : TxnId) → L t → E u t → L u) → (u t : TxnId) → L t → ReachesOrIs E u t → L u
  closed_from L closed u t h (inl e) = subst L (sym e) h
  closed_from L closed u t h (inr p) = closed_chain L closed u t h p

-- and are chains of any edges that are the same into the set
pub other_chain : (E F : TxnId → TxnId → Type 0) (L : TxnId → Type 0) → ((u t : TxnId) → L t → E u t → L u) → ((u t : TxnId) → L t → E u t → F u t) → (u t : TxnId) → L t → Reaches E u t → Reaches F u t
other_chain E F L closed to u _ h (direct e) = direct (to u _ h e)
other_chain E F L closed to u _ h (through p e) = through (other_chain E F L closed to u _ (closed _ _ h e) p) (to _ _ h e)

pub weaker_chain : (E F : TxnId → TxnId → Type 0) → ((u t : TxnId) → E u t → F u t) → (u t : TxnId) → Reaches E u t → Reaches F u t
weaker_chain E F f u _ (direct e) = direct (f u _ e)
weaker_chain E F f u _ (through p e) = through (weaker_chain E F f u _ p) (f _ _ e)
