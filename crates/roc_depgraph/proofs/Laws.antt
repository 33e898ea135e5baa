-- What stays as more lists are learnt
use Rattle.std.proofs.Common.{◌≡◌, Bool, true, false, cond, List, [], ◌∷◌, Some, None, is_some, unwrap_or, refl, sym, ◌∙◌, ap, subst, ◌&&◌, IsTrue}
use Rattle.std.proofs.lemmas.Bool.{false≢true, cond-true, cond-false}
use Rattle.std.specs.List.{list_any}
use Rattle.roc_base.specs.declared.id.TxnId.{TxnId}
use Rattle.roc_base.specs.TxnId.{is_txn}
use Rattle.roc_base.specs.Equalities.{is_txn-same}
use Rattle.roc_base.specs.Edge.{Dependency}
use Rattle.roc_depgraph.specs.declared.known.KnownList.{KnownList}
use Rattle.roc_depgraph.specs.Deps.{list_of, IsKnown, Precedes, PrecedesNow, IsAncestor, IsDecided, learnt}
use Rattle.roc_depgraph.specs.Reach.{direct}
use Rattle.roc_depgraph.proofs.Chains.{joined_chain, other_chain}

-- each list that is known is known as it was
abbrev pub KeepsLists : (known more : List KnownList) → Type 0
KeepsLists known more = (t : TxnId) → IsKnown known t → list_of t more ≡ list_of t known

-- an ancestor's ancestors are ancestors, so it is decided too
pub ancestor_decided : (known : List KnownList) (u t : TxnId) → IsDecided known t → IsAncestor known u t → IsDecided known u
ancestor_decided known u t d p = record { own = d.ancestors u p; ancestors = λ v q. d.ancestors v (joined_chain (Precedes known) v u t q p) }

module _ (known : List KnownList) (id : TxnId) (edges : List Dependency) where
  -- a known list does not change
  pub learnt_keeps : KeepsLists known (learnt known id edges)
  learnt_keeps = go known
    where
      go : (ks : List KnownList) → KeepsLists ks (learnt ks id edges)
      go [] t h = absurd (false≢true h)
      go (k ∷ ks) t h = one (is_txn k.of t) h (go ks t)
        where
          one : (b : Bool) → is_some (cond b (Some k.edges) (list_of t ks)) ≡ true → (IsKnown ks t → list_of t (learnt ks id edges) ≡ list_of t ks) → cond b (Some k.edges) (list_of t (learnt ks id edges)) ≡ cond b (Some k.edges) (list_of t ks)
          one true i ih = refl
          one false i ih = ih i

  -- and those of others stay unknown
  pub list_of-learnt_other : (t : TxnId) → is_txn id t ≡ false → list_of t (learnt known id edges) ≡ list_of t known
  list_of-learnt_other t n = go known
    where
      go : (ks : List KnownList) → list_of t (learnt ks id edges) ≡ list_of t ks
      go [] = cond-false (is_txn id t) (Some edges) None n
      go (k ∷ ks) = ap (cond (is_txn k.of t) (Some k.edges)) (go ks)

  -- what was taught is known
  pub list_of-learnt : list_of id known ≡ None → list_of id (learnt known id edges) ≡ Some edges
  list_of-learnt = go known
    where
      go : (ks : List KnownList) → list_of id ks ≡ None → list_of id (learnt ks id edges) ≡ Some edges
      go [] h = cond-true (is_txn id id) (Some edges) None (is_txn-same id)
      go (k ∷ ks) h = one (is_txn k.of id) h (go ks)
        where
          one : (b : Bool) → cond b (Some k.edges) (list_of id ks) ≡ None → (list_of id ks ≡ None → list_of id (learnt ks id edges) ≡ Some edges) → cond b (Some k.edges) (list_of id (learnt ks id edges)) ≡ Some edges
          one true i ih = cc
          one false i ih = ih i

module _ (known more : List KnownList) (keeps : KeepsLists known more) where
  pub known_stays : (t : TxnId) → IsKnown known t → IsKnown more t
  known_stays t h = ap is_some (keeps t h) ∙ h

  -- what precedes a transaction whose list is known stays the same
  pub precedes_stays : (u t : TxnId) → IsKnown known t → Precedes known u t → Precedes more u t
  precedes_stays u t h p = subst (λ o. IsTrue (list_any (λ d. is_txn d.from u) (unwrap_or o []))) (sym (keeps t h)) p

  pub precedes_back : (u t : TxnId) → IsKnown known t → Precedes more u t → Precedes known u t
  precedes_back u t h p = subst (λ o. IsTrue (list_any (λ d. is_txn d.from u) (unwrap_or o []))) (keeps t h) p

  pub precedes_now_stays : (u t : TxnId) → IsKnown known t → PrecedesNow known u t → PrecedesNow more u t
  precedes_now_stays u t h p = subst (λ o. IsTrue (list_any (λ d. is_txn d.from u && d.imm) (unwrap_or o []))) (sym (keeps t h)) p

  pub precedes_now_back : (u t : TxnId) → IsKnown known t → PrecedesNow more u t → PrecedesNow known u t
  precedes_now_back u t h p = subst (λ o. IsTrue (list_any (λ d. is_txn d.from u && d.imm) (unwrap_or o []))) (keeps t h) p

  -- so the ancestors of a decided transaction stay the same
  pub ancestor_stays : (u t : TxnId) → IsDecided known t → IsAncestor known u t → IsAncestor more u t
  ancestor_stays = other_chain (Precedes known) (Precedes more) (IsDecided known) (λ u t d e. ancestor_decided known u t d (direct e)) (λ u t d e. precedes_stays u t d.own e)

  pub ancestor_back : (u t : TxnId) → IsDecided known t → IsAncestor more u t → IsAncestor known u t
  ancestor_back = other_chain (Precedes more) (Precedes known) (IsDecided known) (λ u t d e. ancestor_decided known u t d (direct (precedes_back u t d.own e))) (λ u t d e. precedes_back u t d.own e)

  -- and it stays decided
  pub decided_stays : (t : TxnId) → IsDecided known t → IsDecided more t
  decided_stays t d = record { own = known_stays t d.own; ancestors = λ u p. known_stays u (d.ancestors u (ancestor_back u t d p)) }
