-- Who is reached, once one more list is known
use Rattle.std.proofs.Common.{◌≡◌, ◌≢◌, ◌⊎◌, inl, inr, Bool, true, false, List, [], Option, None, is_some, unwrap_or, IsTrue, refl, sym, subst, ap, ◌∙◌}
use Rattle.std.proofs.lemmas.Bool.{false≢true}
use Rattle.std.specs.List.{list_any}
use Rattle.roc_base.specs.declared.id.TxnId.{TxnId}
use Rattle.roc_base.specs.TxnId.{is_txn}
use Rattle.roc_base.specs.Equalities.{is_txn-true}
use Rattle.roc_base.specs.Edge.{Dependency}
use Rattle.roc_depgraph.specs.declared.known.KnownList.{KnownList}
use Rattle.roc_depgraph.specs.Deps.{list_of, IsKnown, Precedes, learnt}
use Rattle.roc_depgraph.specs.Reach.{Reaches, direct, through, ReachesOrIs}
use Rattle.roc_depgraph.proofs.Laws.{learnt_keeps, list_of-learnt, list_of-learnt_other, known_stays}
use Rattle.roc_depgraph.proofs.Chains.{joined_chain, weaker_chain}
use Rattle.roc_await.specs.Lacks.{IsMissing}
use Rattle.roc_depgraph.specs.Visits.{IsNamed}
use Rattle.roc_await.specs.Inner.Grown.{IsMissingFor}

module _ (known : List KnownList) (u : TxnId) (edges : List Dependency) (none : list_of u known ≡ None) where
  abbrev pub more : List KnownList
  more = learnt known u edges

  abbrev E : TxnId → TxnId → Type 0
  E = Precedes known

  abbrev F : TxnId → TxnId → Type 0
  F = Precedes more

  -- ---- edges

  named_into : (x : TxnId) → IsNamed edges x → F x u
  named_into x h = subst (λ o. IsTrue (list_any (λ d. is_txn d.from x) (unwrap_or o []))) (sym (list_of-learnt known u edges none)) h

  into_named : (x : TxnId) → F x u → IsNamed edges x
  into_named x h = subst (λ o. IsTrue (list_any (λ d. is_txn d.from x) (unwrap_or o []))) (list_of-learnt known u edges none) h

  -- nothing had an entry for u
  pub nothing_into : (x : TxnId) → E x u → ⊥
  nothing_into x h = absurd (false≢true (subst (λ o. IsTrue (list_any (λ d. is_txn d.from x) (unwrap_or o []))) none h))

  other_back : (x t : TxnId) → is_txn u t ≡ false → F x t → E x t
  other_back x t n h = subst (λ o. IsTrue (list_any (λ d. is_txn d.from x) (unwrap_or o []))) (list_of-learnt_other known u edges t n) h

  other_on : (x t : TxnId) → is_txn u t ≡ false → E x t → F x t
  other_on x t n h = subst (λ o. IsTrue (list_any (λ d. is_txn d.from x) (unwrap_or o []))) (sym (list_of-learnt_other known u edges t n)) h

  still : (x t : TxnId) → E x t → F x t
  still x t h = go (is_txn u t) refl
    where
      go : (b : Bool) → is_txn u t ≡ b → F x t
      go true e = absurd (nothing_into x (subst (E x) (sym (is_txn-true u t e)) h))
      go false e = other_on x t e h

  -- ---- chains

  pub reached_still : (v t : TxnId) → ReachesOrIs E v t → ReachesOrIs F v t
  reached_still v t (inl e) = inl e
  reached_still v t (inr p) = inr (weaker_chain E F still v t p)

  -- v leads to what the new list names
  record IsLedByNew (v : TxnId) : Type 0 where
    named : TxnId
    is : IsNamed edges named
    from : ReachesOrIs E v named

  onwards : (s t : TxnId) → ReachesOrIs E u s → E s t → ReachesOrIs E u t
  onwards s t (inl e) h = inr (direct (subst (λ x. E x t) (sym e) h))
  onwards s t (inr p) h = inr (through p h)

  -- a chain goes over old lists alone, or at last through the new one
  chain_split : (v t : TxnId) → Reaches F v t → Reaches E v t ⊎ (IsLedByNew v × ReachesOrIs E u t)
  chain_split v t (direct e) = go (is_txn u t) refl
    where
      go : (b : Bool) → is_txn u t ≡ b → Reaches E v t ⊎ (IsLedByNew v × ReachesOrIs E u t)
      go true i = inr (record { named = v; is = into_named v (subst (F v) (sym (is_txn-true u t i)) e); from = inl refl }, inl (is_txn-true u t i))
      go false i = inl (direct (other_back v t i e))
  chain_split v t (through {s = s} p e) = go (is_txn u t) refl (chain_split v s p)
    where
      go : (b : Bool) → is_txn u t ≡ b → Reaches E v s ⊎ (IsLedByNew v × ReachesOrIs E u s) → Reaches E v t ⊎ (IsLedByNew v × ReachesOrIs E u t)
      go true i (inl q) = inr (record { named = s; is = into_named s (subst (F s) (sym (is_txn-true u t i)) e); from = inr q }, inl (is_txn-true u t i))
      go true i (inr w) = inr (w.0, inl (is_txn-true u t i))
      go false i (inl q) = inl (through q (other_back s t i e))
      go false i (inr w) = inr (w.0, onwards s t w.1 (other_back s t i e))

  -- ---- what is known

  pub u_known : IsKnown more u
  u_known = subst (λ o. IsKnownAs o) (sym (list_of-learnt known u edges none)) refl
    where
      IsKnownAs : Option (List Dependency) → Type 0
      IsKnownAs o = is_some o ≡ true

  pub u_unknown : ¬ IsKnown known u
  u_unknown h = false≢true (sym (ap is_some none) ∙ h)

  -- what is unknown now was so, and is another
  pub unknown_back : (v : TxnId) → ¬ IsKnown more v → ¬ IsKnown known v
  unknown_back v n k = n (known_stays known more (learnt_keeps known u edges) v k)

  pub unknown_other : (v : TxnId) → ¬ IsKnown more v → v ≢ u
  unknown_other v n e = n (subst (IsKnown more) (sym e) u_known)

  pub unknown_still : (v : TxnId) → ¬ IsKnown known v → v ≢ u → ¬ IsKnown more v
  unknown_still v n other k = go (is_txn u v) refl
    where
      go : (b : Bool) → is_txn u v ≡ b → ⊥
      go true e = other (sym (is_txn-true u v e))
      go false e = n (subst (λ o. is_some o ≡ true) (list_of-learnt_other known u edges v e) k)

  -- ---- what is missing

  -- for u: what is missing for what its list names
  pub missing_from_named : (v : TxnId) → IsMissingFor known u edges v → IsMissing more u v
  missing_from_named v m = (inr (go m.missing.missing.0), unknown_still v m.missing.missing.1 m.missing.other)
    where
      go : ReachesOrIs E v m.named → Reaches F v u
      go (inl e) = direct (subst (λ x. F x u) (sym e) (named_into m.named m.is))
      go (inr p) = through (weaker_chain E F still v m.named p) (named_into m.named m.is)

  pub named_from_missing : (v : TxnId) → IsMissing more u v → IsMissingFor known u edges v
  named_from_missing v (inl e, n) = absurd (unknown_other v n e)
  named_from_missing v (inr p, n) = go (chain_split v u p)
    where
      go : Reaches E v u ⊎ (IsLedByNew v × ReachesOrIs E u u) → IsMissingFor known u edges v
      go (inl q) = absurd (ends q)
        where
          ends : Reaches E v u → ⊥
          ends (direct e) = nothing_into v e
          ends (through {s = s} r e) = nothing_into s e
      go (inr w) = record { named = w.0.named; is = w.0.is; missing = record { other = unknown_other v n; missing = (w.0.from, unknown_back v n) } }

  -- for t: what was missing but for u, and what is missing for u where that was
  pub missing_stays : (t v : TxnId) → IsMissing known t v → v ≢ u → IsMissing more t v
  missing_stays t v m other = (reached_still v t m.0, unknown_still v m.1 other)

  pub missing_through : (t v : TxnId) → IsMissing known t u → IsMissing more u v → IsMissing more t v
  missing_through t v w m = (joined m.0 (reached_still u t w.0), m.1)
    where
      joined : ReachesOrIs F v u → ReachesOrIs F u t → ReachesOrIs F v t
      joined (inl e) r = subst (λ x. ReachesOrIs F x t) (sym e) r
      joined (inr p) (inl e) = inr (subst (Reaches F v) e p)
      joined (inr p) (inr q) = inr (joined_chain F v u t p q)

  pub missing_split : (t v : TxnId) → IsMissing more t v → IsMissing known t v ⊎ (IsMissing known t u × IsMissing more u v)
  missing_split t v (inl e, n) = inl (inl e, unknown_back v n)
  missing_split t v (inr p, n) = go (chain_split v t p)
    where
      go : Reaches E v t ⊎ (IsLedByNew v × ReachesOrIs E u t) → IsMissing known t v ⊎ (IsMissing known t u × IsMissing more u v)
      go (inl q) = inl (inr q, unknown_back v n)
      go (inr w) = inr ((w.1, u_unknown), missing_from_named v (record { named = w.0.named; is = w.0.is; missing = record { other = unknown_other v n; missing = (w.0.from, unknown_back v n) } }))
