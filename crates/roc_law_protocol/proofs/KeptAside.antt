-- What a coordinator does aside of transactions: nothing changes of these, and watermarks alone are told
use Rattle.std.proofs.Common.{◌≡◌, true, ◌+◌, ◌<◌, ◌≤◌, List, [], ◌∷◌, sym, subst, ◌⊎◌, inl, inr, arith, append-nil}
use Rattle.std.proofs.lemmas.Bool.{false_from_ne_true, not_from_false}
use Rattle.std.specs.Prelude.{not}
use Rattle.roc_sequence.specs.Lists.{Has}
use Rattle.roc_sequence.proofs.Members.{has_append, has_one, has_left, has_filter, from_has_map}
use Rattle.roc_base.specs.declared.id.TxnId.{TxnId}
use Rattle.roc_base.specs.TxnId.{is_txn}
use Rattle.roc_base.specs.Equalities.{is_txn-true}
use Rattle.roc_msg.specs.declared.outbox.Outgoing.{Outgoing}
use Rattle.roc_plan.specs.Groups.{Plan}
use Rattle.roc_coord.specs.declared.transaction.Transaction.{Transaction}
use Rattle.roc_coord.specs.Ids.{ids_of, view_ids}
use Rattle.roc_coord.specs.State.{CoordState}
use Rattle.roc_coord.specs.Submit.{most_transactions, next_id}
use Rattle.roc_law_protocol.specs.Aside.{KeepsTransactions, Asides, gives, reads, ends}
use Rattle.roc_law_protocol.proofs.Marks.{IsMarkOf, mark_told}
use Rattle.roc_law_protocol.proofs.Thinned.{IsThinned, thinned_more, thinned_left}

-- the next sequence is used
pub record UsesNext (s after : CoordState) : Type 0 where
  pub some : s.next < most_transactions
  pub is : after.next ≡ s.next + 1

pub record IsKeptAside (plan : Plan) (s after : CoordState) (outs : List Outgoing) : Type 0 where
  pub number : after.number ≡ s.number
  pub pending : after.pending ≡ s.pending
  pub next : (after.next ≡ s.next) ⊎ UsesNext s after
  -- the ids of transactions stay, and that of a view is an old one or the next
  pub unanswered : (x : Transaction) → Has x s.pending → Has x.id s.unanswered → Has x.id after.unanswered
  pub thinned : IsThinned (ids_of s.pending) s.unanswered → IsThinned (ids_of s.pending) after.unanswered
  pub views : (u : TxnId) → Has u (view_ids after.views) → Has u (view_ids s.views) ⊎ ((u ≡ next_id s) × UsesNext s after)
  pub marks : (out : Outgoing) → Has out outs → IsMarkOf plan after out

module _ (plan : Plan) (s after : CoordState) where
  old_views : KeepsTransactions plan s after [] → (u : TxnId) → Has u (view_ids after.views) → Has u (view_ids s.views)
  old_views k u h = subst (Has u) (append-nil (view_ids s.views)) (k.views u h)

  pub kept_aside : (outs : List Outgoing) → Asides plan s after outs → IsKeptAside plan s after outs
  kept_aside outs (gives k some next ids) =
      let used : UsesNext s after = record { some = some; is = next } in
      record {
        number = k.number;
        pending = k.pending;
        next = inr used;
        unanswered = λ x h was. subst (Has x.id) (sym ids) (has_left x.id s.unanswered (next_id s ∷ []) was);
        thinned = λ t. subst (IsThinned (ids_of s.pending)) (sym ids) (thinned_more (next_id s) t);
        views = λ u h. elim (has_append u (view_ids s.views) (next_id s ∷ []) (k.views u h)) [ inl j ↦ inl j | inr j ↦ inr (has_one u (next_id s) j, used) ];
        marks = λ out h. absurd h;
      }
  kept_aside outs (reads k next ids) =
      record {
        number = k.number;
        pending = k.pending;
        next = inl next;
        unanswered = λ x h was. subst (Has x.id) (sym ids) was;
        thinned = λ t. subst (IsThinned (ids_of s.pending)) (sym ids) t;
        views = λ u h. inl (old_views k u h);
        marks = λ out h. absurd h;
      }
  kept_aside outs (ends k next id ids apart) =
      record {
        number = k.number;
        pending = k.pending;
        next = inl next;
        unanswered = λ x h was. subst (Has x.id) (sym ids) (has_filter (λ u. not (is_txn u id)) x.id s.unanswered was (other x h));
        thinned = λ t. subst (IsThinned (ids_of s.pending)) (sym ids) (thinned_left (λ u. not (is_txn u id)) t other_id);
        views = λ u h. inl (old_views k u h);
        marks = λ out h. mark_told plan s after out h;
      }
    where
      other : (x : Transaction) → Has x s.pending → not (is_txn x.id id) ≡ true
      other x h = not_from_false (is_txn x.id id) (false_from_ne_true (is_txn x.id id) (λ e. apart x h (is_txn-true x.id id e)))

      other_id : (u : TxnId) → Has u (ids_of s.pending) → not (is_txn u id) ≡ true
      other_id u h = let q = from_has_map (λ (x : Transaction). x.id) u s.pending h in subst (λ u. not (is_txn u id) ≡ true) (sym q.2) (other q.0 q.1)

-- a next sequence only rises
pub aside_onward : (plan : Plan) (s after : CoordState) (outs : List Outgoing) → IsKeptAside plan s after outs → s.next ≤ after.next
aside_onward plan s after outs k = elim k.next [ inl e ↦ omega (arith, e) | inr u ↦ (let e = u.is in omega (arith, e)) ]
