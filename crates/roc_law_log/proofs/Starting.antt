-- A group starts
use Rattle.std.proofs.Common.{◌≡◌, Bool, true, false, cond, List, [], ◌∷◌, ◌++◌, append-nil, refl, sym, ap, subst, ◌∙◌, arith, ◌⊎◌, inl, inr}
use Rattle.std.proofs.lemmas.Bool.{cond-true, cond-false, false_from_ne_true, false≢true}
use Rattle.std.specs.List.{AllByRecursion}
use Rattle.roc_sequence.specs.Places.{place_of, IsListed, IsListedBefore, NoneTwice}
use Rattle.roc_sequence.proofs.Holds.{all_weaker}
use Rattle.roc_sequence.proofs.Places.{listed_by_before}
use Rattle.roc_sequence.proofs.Listed.{listed_one, in_one}
use Rattle.roc_sequence.proofs.Appended.{listed_front, listed_behind, listed_either, before_front, from_before_front, before_new, NoneTwice-append}
use Rattle.roc_base.specs.declared.id.TxnId.{TxnId}
use Rattle.roc_base.specs.TxnId.{is_txn}
use Rattle.roc_rows.specs.Store.{Store}
use Rattle.roc_law_orders.specs.Behaviour.{TxnGroup, is_txn_group, is_group_number}
use Rattle.roc_law_orders.specs.Runs.{needs}
use Rattle.roc_law_orders.specs.Growth.{Stays}
use Rattle.roc_law_orders.proofs.SameGroups.{same_group, is_group-same}
use Rattle.roc_law_log.specs.Scheme.{Scheme, IsSoundScheme}
use Rattle.roc_law_log.specs.Log.{Log, shard_at}
use Rattle.roc_law_log.specs.Steps.{MayStart, with_left_out, with_start}
use Rattle.roc_law_log.specs.Invariants.{LogInvariants, LogGrows}
use Rattle.roc_law_log.proofs.Later.{IsLater, shard_kept, uses_kept, group_same, whole_after, here_after, settled_after, throughout_after}
use Rattle.roc_law_log.proofs.Settled.{settled_in}

module _ (S : Scheme) (start : Store) (stays : (Q T : List TxnGroup) → NoneTwice is_txn_group (Q ++ T) → Stays S.behaviour start Q T) (sound : IsSoundScheme S) (w : Log) (i : LogInvariants S start w) where
  module _ (r : TxnGroup) (left_out : List TxnId) (may : MayStart S start w r left_out) where
    abbrev pub out_after : TxnGroup → List TxnId
    out_after = with_left_out w.past.left_out r left_out

    old_out : (q : TxnGroup) → IsListed is_txn_group w.past.started q → out_after q ≡ w.past.left_out q
    old_out q h = cond-false (is_txn_group r q) left_out (w.past.left_out q) (false_from_ne_true (is_txn_group r q) (λ e. may.new (subst (IsListed is_txn_group w.past.started) (sym (same_group r q e)) h)))

    abbrev pub now : List TxnGroup
    now = cond (S.is_immediate r) (r ∷ []) []

    abbrev pub begins : List TxnGroup
    begins = w.past.started ++ r ∷ []

    only : (q : TxnGroup) → IsListed is_txn_group (r ∷ []) q → q ≡ r
    only q h = listed_one is_txn_group same_group is_group-same r q h

    here : IsListed is_txn_group (r ∷ []) r
    here = in_one is_txn_group same_group is_group-same r

    now_only : (q : TxnGroup) → IsListed is_txn_group now q → (q ≡ r) × (S.is_immediate r ≡ true)
    now_only q h = go (S.is_immediate r) refl h
      where
        go : (b : Bool) → S.is_immediate r ≡ b → IsListed is_txn_group (cond b (r ∷ []) []) q → (q ≡ r) × (S.is_immediate r ≡ true)
        go true e k = (only q k, e)
        go false e k = absurd (omega arith)

    now_in : S.is_immediate r ≡ true → IsListed is_txn_group now r
    now_in e = subst (λ b. IsListed is_txn_group (cond b (r ∷ []) []) r) (sym e) here

    not_ran : ¬ IsListed is_txn_group w.past.ran r
    not_ran h = may.new (i.ran_started r h)

    now_once : NoneTwice is_txn_group now
    now_once = elim (S.is_immediate r) as (λ b. NoneTwice is_txn_group (cond b (r ∷ []) [])) [ true ↦ (λ h. absurd (omega arith), tt) | false ↦ tt ]

    once_start : NoneTwice is_txn_group (w.past.ran ++ now)
    once_start = NoneTwice-append is_txn_group is_group-same w.past.ran now i.ran_once now_once (λ q b a. not_ran (subst (IsListed is_txn_group w.past.ran) (now_only q b).0 a))

    start_cases : (q : TxnGroup) → IsListed is_txn_group begins q → IsListed is_txn_group w.past.started q ⊎ (q ≡ r)
    start_cases q h = elim (listed_either is_txn_group w.past.started (r ∷ []) q h) [ inl j ↦ inl j | inr j ↦ inr (only q j.1) ]

    ran_cases : (q : TxnGroup) → IsListed is_txn_group (w.past.ran ++ now) q → IsListed is_txn_group w.past.ran q ⊎ ((q ≡ r) × (S.is_immediate r ≡ true))
    ran_cases q h = elim (listed_either is_txn_group w.past.ran now q h) [ inl j ↦ inl j | inr j ↦ inr (now_only q j.1) ]

    pub listed_start : (q : TxnGroup) → IsListed is_txn_group begins q → IsListed is_group_number (S.behaviour.groups q.txn) q.group
    listed_start q h = elim (start_cases q h) [ inl j ↦ i.are_groups q j | inr e ↦ subst (λ (a : TxnGroup). IsListed is_group_number (S.behaviour.groups a.txn) a.group) (sym e) may.listed ]

    needs_start : (q : TxnGroup) → IsListed is_txn_group begins q → AllByRecursion (IsListed is_txn_group w.past.ran) (needs S.behaviour q)
    needs_start q h = elim (start_cases q h) [ inl j ↦ i.needs_ran q j | inr e ↦ subst (λ (a : TxnGroup). AllByRecursion (IsListed is_txn_group w.past.ran) (needs S.behaviour a)) (sym e) may.needs_ran ]

    pub later : IsLater w.past begins out_after now
    later =
        record {
          once = once_start;
          more = listed_front is_txn_group w.past.started (r ∷ []);
          before = before_front is_txn_group w.past.started (r ∷ []);
          back = from_before_front is_txn_group w.past.started (r ∷ []);
          same_out = old_out;
        }

    abbrev after : Log
    after = with_start S w r left_out

    shard_start : (q : TxnGroup) → IsListed is_txn_group begins q → shard_at S start (w.past.ran ++ now) q ≡ shard_at S start w.past.ran q
    shard_start q h = shard_kept S start stays sound w i begins out_after now later q (needs_start q h)

    pub start-grows : LogGrows S start w after
    start-grows =
        record {
          started = (r ∷ [], refl);
          ran = (now, refl);
          decided = λ s. ([], sym (append-nil (w.decided s)));
          order = ([], sym (append-nil w.order));
          answered = ([], sym (append-nil w.answered));
          yielded = (stays w.past.ran now once_start).yielded;
          inputs = (stays w.past.ran now once_start).inputs;
          uses = uses_kept S start stays sound w i begins out_after now later;
          precedes = group_same S start stays sound w i begins out_after now later;
        }

    pub start-kept : LogInvariants S start after
    start-kept =
        record {
          started_once = NoneTwice-append is_txn_group is_group-same w.past.started (r ∷ []) i.started_once (λ h. absurd (omega arith), tt) (λ q b a. may.new (subst (IsListed is_txn_group w.past.started) (only q b) a));
          ran_once = once_start;
          ran_started = λ q h. elim (ran_cases q h) [ inl j ↦ listed_front is_txn_group w.past.started (r ∷ []) q (i.ran_started q j) | inr e ↦ subst (IsListed is_txn_group begins) (sym e.0) (listed_behind is_txn_group w.past.started (r ∷ []) r here) ];
          are_groups = listed_start;
          needs_ran = λ q h. all_weaker (IsListed is_txn_group w.past.ran) (IsListed is_txn_group (w.past.ran ++ now)) (listed_front is_txn_group w.past.ran now) (needs S.behaviour q) (needs_start q h);
          behind_needs = λ q h. elim (ran_cases q h) [
            | inl j ↦ all_weaker (λ d. IsListedBefore is_txn_group w.past.ran d q) (λ d. IsListedBefore is_txn_group (w.past.ran ++ now) d q) (λ d b. before_front is_txn_group w.past.ran now d q b) (needs S.behaviour q) (i.behind_needs q j)
            | inr e ↦ subst (λ (a : TxnGroup). AllByRecursion (λ d. IsListedBefore is_txn_group (w.past.ran ++ now) d a) (needs S.behaviour a)) (sym e.0) (all_weaker (IsListed is_txn_group w.past.ran) (λ d. IsListedBefore is_txn_group (w.past.ran ++ now) d r) (λ d j. before_new is_txn_group w.past.ran now d r j not_ran) (needs S.behaviour r) may.needs_ran)
          ];
          now_ran = λ q h e. elim (start_cases q h) [ inl j ↦ listed_front is_txn_group w.past.ran now q (i.now_ran q j e) | inr f ↦ subst (IsListed is_txn_group (w.past.ran ++ now)) (sym f) (listed_behind is_txn_group w.past.ran now r (now_in (ap S.is_immediate (sym f) ∙ e))) ];
          now_order = λ p q e f h b. elim (ran_cases q h) [
            | inl j ↦ before_front is_txn_group w.past.started (r ∷ []) p q (i.now_order p q e f j (from_before_front is_txn_group w.past.ran now p q j b))
            | inr g ↦ elim (ran_cases p (listed_by_before is_txn_group (w.past.ran ++ now) p q b)) [
              | inl k ↦ subst (λ a. IsListedBefore is_txn_group begins p a) (sym g.0) (before_new is_txn_group w.past.started (r ∷ []) p r (i.ran_started p k) may.new)
              | inr k ↦ (let z = ap (λ a. place_of (is_txn_group a) (w.past.ran ++ now)) (k.0 ∙ sym g.0) in absurd (omega arith))
            ]
          ];
          later_ran = λ q h e d.
              let d2 = subst (λ s. IsListed is_txn (w.decided s) q.txn) (shard_start q h) d in
              elim (start_cases q h) [
                | inl j ↦ listed_front is_txn_group w.past.ran now q (i.later_ran q j e d2)
                | inr f ↦ absurd (may.new (i.whole r.txn (i.in_order (shard_at S start w.past.ran q) r.txn (subst (λ (a : TxnGroup). IsListed is_txn (w.decided (shard_at S start w.past.ran q)) a.txn) f d2)) r.group may.listed))
              ];
          later_decided = λ q h e. elim (ran_cases q h) [
            | inl j ↦ subst (λ s. IsListed is_txn (w.decided s) q.txn) (sym (shard_start q (listed_front is_txn_group w.past.started (r ∷ []) q (i.ran_started q j)))) (i.later_decided q j e)
            | inr f ↦ absurd (false≢true (sym e ∙ (ap S.is_immediate f.0 ∙ f.1)))
          ];
          later_order = λ p q d e s h b. elim (ran_cases q h) [
            | inr f ↦ absurd (false≢true (sym e ∙ (ap S.is_immediate f.0 ∙ f.1)))
            | inl j ↦
                (let b2 = from_before_front is_txn_group w.past.ran now p q j b in
                let x = shard_start q (listed_front is_txn_group w.past.started (r ∷ []) q (i.ran_started q j)) in
                let y = shard_start p (listed_front is_txn_group w.past.started (r ∷ []) p (i.ran_started p (listed_by_before is_txn_group w.past.ran p q b2))) in
                subst (λ s. IsListedBefore is_txn (w.decided s) p.txn q.txn ⊎ ((p.txn ≡ q.txn) × IsListedBefore is_group_number (S.behaviour.groups q.txn) p.group q.group)) (sym x) (i.later_order p q d e (sym y ∙ (s ∙ x)) j b2))
          ];
          decided = λ s. here_after S start stays sound w i begins out_after now later listed_start w.order i.whole i.order s (w.decided s) (i.in_order s) (i.decided s) after
              (settled_after S start stays sound w i begins out_after now later listed_start w.order i.whole i.order (settled_in S start w i) after refl (λ t h. h));
          order = whole_after S start stays sound w i begins out_after now later listed_start w.order i.whole i.order;
          in_order = i.in_order;
          left_out = λ q t h k. elim (start_cases q h) [
            | inl j ↦
                (let z = i.left_out q t j (subst (λ l. IsListed is_txn l t) (old_out q j) k) in
                let e = shard_start q h in
                record {
                  decided = subst (λ s. IsListed is_txn (w.decided s) t) (sym e) z.decided;
                  earlier = z.earlier;
                  earlier_here = subst (λ s. IsListed is_txn (w.decided s) q.txn → IsListedBefore is_txn (w.decided s) t q.txn) (sym e) z.earlier_here;
                })
            | inr f ↦
                (let e = shard_start q h in
                let none : ¬ IsListed is_txn w.order q.txn = λ m. may.new (subst (IsListed is_txn_group w.past.started) f (i.whole q.txn m q.group (subst (λ (a : TxnGroup). IsListed is_group_number (S.behaviour.groups a.txn) a.group) (sym f) may.listed))) in
                record {
                  decided = subst (λ s. IsListed is_txn (w.decided s) t) (sym (e ∙ ap (shard_at S start w.past.ran) f)) (may.out_decided t (subst (λ l. IsListed is_txn l t) (ap out_after f ∙ cond-true (is_txn_group r r) left_out (w.past.left_out r) (is_group-same r)) k));
                  earlier = λ m. absurd (none m);
                  earlier_here = λ m. absurd (none (i.in_order (shard_at S start (w.past.ran ++ now) q) q.txn m));
                })
          ];
          whole = λ t h g k. listed_front is_txn_group w.past.started (r ∷ []) (record { txn = t; group = g }) (i.whole t h g k);
          answered = λ t h. throughout_after S start stays sound w i begins out_after now later after refl (λ s t h. h) (λ t h. h) t (i.answered t h);
        }
