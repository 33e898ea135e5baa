-- Chains and components
use Rattle.std.proofs.Common.{◌≡◌, true, refl, sym, subst, inl, inr}
use Rattle.roc_base.specs.declared.id.TxnId.{TxnId}
use Rattle.roc_base.specs.TxnId.{txn_lt}
use Rattle.roc_base.proofs.Ids.{txn_cases}
use Rattle.roc_depgraph.specs.Reach.{Reaches, direct, through, ReachesOrIs}
use Rattle.roc_depgraph.proofs.Chains.{joined_chain, other_chain, chain_before}
use Rattle.roc_component.specs.Components.{Mates, IsNextInside}

-- of two ids neither of which is below the other, one is the other
pub neither_below : (a b : TxnId) → ¬ (txn_lt b a ≡ true) → ¬ (txn_lt a b ≡ true) → a ≡ b
neither_below a b n m = elim (txn_cases a b) [ inl l ↦ absurd (m l) | inr (inl e) ↦ e | inr (inr l) ↦ absurd (n l) ]

-- by other edges that are the same into a closed set
pub other_mates : (E F : TxnId → TxnId → Type 0) (L : TxnId → Type 0) → ((u t : TxnId) → L t → E u t → L u) → ((u t : TxnId) → L t → E u t → F u t) → (u t : TxnId) → L t → L u → Mates E u t → Mates F u t
other_mates E F L closed to u t h k (inl e) = inl e
other_mates E F L closed to u t h k (inr p) = inr (other_chain E F L closed to u t h p.0, other_chain E F L closed to t u k p.1)

-- the rule inside a component reads nothing but the component
pub inside_same : (E F I J : TxnId → TxnId → Type 0) (taken other : TxnId → Type 0) (x : TxnId)
    → ((z : TxnId) → Mates E x z → Mates F x z) → ((z : TxnId) → Mates F x z → Mates E x z)
    → ((z : TxnId) → Mates E x z → taken z → other z) → ((z : TxnId) → Mates E x z → other z → taken z)
    → ((p z : TxnId) → Mates E x p → Mates E x z → I p z → J p z) → ((p z : TxnId) → Mates E x p → Mates E x z → J p z → I p z)
    → IsNextInside E I taken x → IsNextInside F J other x
inside_same E F I J taken other x to from on off ij ji (inl h) =
    inl (
      λ p k i. on p (from p k) (h.0 p (from p k) (ji p x (from p k) (inl refl) i)),
      λ z k n f. h.1 z (from z k) (λ t. n (on z (from z k) t)) (λ p l i. off p l (f p (to p l) (ij p z l (from z k) i))),
    )
inside_same E F I J taken other x to from on off ij ji (inr h) =
    inr (
      λ z k n f. h.0 z (from z k) (λ t. n (on z (from z k) t)) (λ p l i. off p l (f p (to p l) (ij p z l (from z k) i))),
      λ z k n f. h.1 z (from z k) (λ t. n (on z (from z k) t)) f,
    )

-- the same by other words for what was taken
pub inside_by : (E I : TxnId → TxnId → Type 0) (taken other : TxnId → Type 0) (x : TxnId) → ((z : TxnId) → Mates E x z → taken z → other z)
    → ((z : TxnId) → Mates E x z → other z → taken z) → IsNextInside E I taken x → IsNextInside E I other x
inside_by E I taken other x on off h = inside_same E E I I taken other x (λ z m. m) (λ z m. m) on off (λ p z m n i. i) (λ p z m n i. i) h

mate_of : (E : TxnId → TxnId → Type 0) (t a b : TxnId) → E a b → ReachesOrIs E b t → ReachesOrIs E t a → Mates E t a
mate_of E t a b e p (inl f) = inl f
mate_of E t a b e p (inr q) = inr (q, chain_before E a b t e p)

-- a chain between two mates stays among mates
pub chain_mates : (E : TxnId → TxnId → Type 0) (t c v : TxnId) → Reaches E c v → ReachesOrIs E v t → ReachesOrIs E t c → Reaches (λ a b. E a b × Mates E t a) c v
chain_mates E t c _ (direct {t = v} e) p q = direct (e, mate_of E t c v e p q)
chain_mates E t c _ (through {s = x} {t = v} r e) p q =
    through (chain_mates E t c x r (inr (chain_before E x v t e p)) q) (e, mate_of E t x v e p (down q r))
  where
    down : ReachesOrIs E t c → Reaches E c x → ReachesOrIs E t x
    down (inl f) r = inr (subst (λ a. Reaches E a x) (sym f) r)
    down (inr p) r = inr (joined_chain E t c x p r)
