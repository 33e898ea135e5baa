-- Chains and components
use Rattle.std.proofs.Common.{◌≡◌, ℕ, zero, suc, ◌<◌, ◌==◌, ◌&&◌, nat_lt, List, true, sym, subst, inl, inr, arith}
use Rattle.std.proofs.lemmas.Bool.{or_cases, and_parts, ltb-true, eqb-true, cases_lt}
use Rattle.roc_sequence.specs.Places.{IsListed}
use Rattle.roc_base.specs.declared.id.TxnId.{TxnId}
use Rattle.roc_base.specs.TxnId.{is_txn, txn_lt}
use Rattle.roc_depgraph.specs.Reach.{Reaches, direct, through, ReachesOrIs}
use Rattle.roc_depgraph.proofs.Chains.{joined_chain, weaker_chain}
use Rattle.roc_component.specs.Components.{among, Mates, IsFree, IsNextInside, IsReady, IsNext}

module _ (E : TxnId → TxnId → Type 0) where
  pub mates_sym : (a b : TxnId) → Mates E a b → Mates E b a
  mates_sym a b (inl e) = inl (sym e)
  mates_sym a b (inr p) = inr (p.1, p.0)

  pub mates_trans : (a b c : TxnId) → Mates E a b → Mates E b c → Mates E a c
  mates_trans a b c (inl e) m = subst (λ x. Mates E x c) (sym e) m
  mates_trans a b c (inr p) (inl e) = subst (λ x. Mates E a x) e (inr p)
  mates_trans a b c (inr p) (inr q) = inr (joined_chain E a b c p.0 q.0, joined_chain E c b a q.1 p.1)

  pub mates_reach : (a b : TxnId) → Mates E a b → ReachesOrIs E a b
  mates_reach a b (inl e) = inl e
  mates_reach a b (inr p) = inr p.0

  pub mates_from : (a b : TxnId) → ReachesOrIs E a b → ReachesOrIs E b a → Mates E a b
  mates_from a b (inl e) q = inl e
  mates_from a b (inr p) (inl e) = inl (sym e)
  mates_from a b (inr p) (inr q) = inr (p, q)

  pub reach_trans : (a b c : TxnId) → ReachesOrIs E a b → ReachesOrIs E b c → ReachesOrIs E a c
  reach_trans a b c (inl e) q = subst (λ x. ReachesOrIs E x c) (sym e) q
  reach_trans a b c (inr p) (inl e) = inr (subst (Reaches E a) e p)
  reach_trans a b c (inr p) (inr q) = inr (joined_chain E a b c p q)

  pub ready_mate : (taken : TxnId → Type 0) (a b : TxnId) → Mates E a b → IsReady E taken a → IsReady E taken b
  ready_mate taken a b m r p y k e n = r p y (mates_trans a b y m k) e (λ z. n (mates_trans b a p (mates_sym a b m) z))

  module _ (I : TxnId → TxnId → Type 0) where
    pub free_mate : (taken : TxnId → Type 0) (a b z : TxnId) → Mates E a b → IsFree E I taken a z → IsFree E I taken b z
    free_mate taken a b z m f p k i = f p (mates_trans a b p m k) i

    -- what the rule reads of what was taken
    module _ (taken other : TxnId → Type 0) (on : (z : TxnId) → taken z → other z) (off : (z : TxnId) → other z → taken z) where
      inside_by : (x : TxnId) → IsNextInside E I taken x → IsNextInside E I other x
      inside_by x (inl h) =
          inl (
            λ p k i. on p (h.0 p k i),
            λ z k n f. h.1 z k (λ t. n (on z t)) (λ p l i. off p (f p l i)),
          )
      inside_by x (inr h) =
          inr (
            λ z k n f. h.0 z k (λ t. n (on z t)) (λ p l i. off p (f p l i)),
            λ z k n f. h.1 z k (λ t. n (on z t)) f,
          )

      pub next_by : (M : List TxnId) (x : TxnId) → IsNext E I M taken x → IsNext E I M other x
      next_by M x h =
          record {
            ready = λ p y m e n. on p (h.ready p y m e n);
            ends = λ y z t m l n. h.ends y z (off y t) m l (λ u. n (on z u));
            least = λ z no l n r. h.least z (λ y t. no y (on y t)) l (λ u. n (on z u)) (λ p y m e k. off p (r p y m e k));
            inside = inside_by x h.inside;
          }

-- chains among the members of a set start in it, and components stay in it
module _ (E : TxnId → TxnId → Type 0) (M : List TxnId) where
  pub chain_starts : (u t : TxnId) → Reaches (among M E) u t → IsListed is_txn M u
  chain_starts u _ (direct e) = e.0
  chain_starts u _ (through p e) = chain_starts u _ p

  pub mate_in : (t u : TxnId) → IsListed is_txn M t → Mates (among M E) t u → IsListed is_txn M u
  mate_in t u h (inl e) = subst (IsListed is_txn M) e h
  mate_in t u h (inr p) = chain_starts u t p.1

-- ids do not fall for ever
module _ (P : TxnId → Type 0) (lower : (z : TxnId) → P z → (w : TxnId) × P w × (txn_lt w z ≡ true)) where
  by_sequence : (n : ℕ) → ((z : TxnId) → z.coord < n → ¬ P z) → (k : ℕ) (z : TxnId) → z.coord ≡ n → z.seq < k → ¬ P z
  by_sequence n below zero z e l p = absurd (omega arith)
  by_sequence n below (suc k) z e l p =
      let w = lower z p in
      elim (or_cases (nat_lt w.0.coord z.coord) (w.0.coord == z.coord && nat_lt w.0.seq z.seq) w.2) [
        | inl h ↦ (let i = ltb-true w.0.coord z.coord h in below w.0 (omega arith) w.1)
        | inr h ↦
            (let q = and_parts (w.0.coord == z.coord) (nat_lt w.0.seq z.seq) h in
            let i = eqb-true w.0.coord z.coord q.0 in
            let j = ltb-true w.0.seq z.seq q.1 in
            by_sequence n below k w.0 (omega arith) (omega arith) w.1)
      ]

  by_coordinator : (n : ℕ) (z : TxnId) → z.coord < n → ¬ P z
  by_coordinator zero z l p = absurd (omega arith)
  by_coordinator (suc n) z l p =
      elim (cases_lt z.coord n) [
        | inl k ↦ by_coordinator n z k p
        | inr k ↦ by_sequence n (by_coordinator n) (suc z.seq) z (omega arith) (omega arith) p
      ]

  pub no_descent : (z : TxnId) → ¬ P z
  no_descent z = by_coordinator (suc z.coord) z (omega arith)

-- by more edges too
pub mates_weaker : (E F : TxnId → TxnId → Type 0) → ((u t : TxnId) → E u t → F u t) → (a b : TxnId) → Mates E a b → Mates F a b
mates_weaker E F more a b (inl e) = inl e
mates_weaker E F more a b (inr p) = inr (weaker_chain E F more a b p.0, weaker_chain E F more b a p.1)
