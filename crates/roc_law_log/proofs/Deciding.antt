-- A shard decides
use Rattle.std.proofs.Common.{◌≡◌, ◌≢◌, ℕ, ◌==◌, Bool, true, false, not, cond, List, [], ◌++◌, append-nil, refl, sym, ap, subst, ◌∙◌, arith, ◌⊎◌, inl, inr}
use Rattle.std.proofs.lemmas.Bool.{false≢true, eqb-true, eq-eqb, and_parts, and_from, not-true, not_from_false, cases_order}
use Rattle.roc_sequence.specs.Places.{place_of, IsListed, IsListedBefore, NoneTwice}
use Rattle.roc_sequence.proofs.Holds.{all_weaker}
use Rattle.roc_sequence.proofs.Places.{listed_by_before, listed_or_not, same_place}
use Rattle.roc_sequence.proofs.Appended.{listed_front, listed_behind, listed_either, before_front, from_before_front, before_behind, from_before_behind, before_new, NoneTwice-append}
use Rattle.roc_sequence.proofs.Filtered.{listed_filter, from_listed_filter, from_before_filter, NoneTwice-filter}
use Rattle.roc_base.specs.declared.id.TxnId.{TxnId}
use Rattle.roc_base.specs.TxnId.{is_txn}
use Rattle.roc_base.specs.Equalities.{is_txn-true}
use Rattle.roc_rows.specs.Store.{Store}
use Rattle.roc_law_orders.specs.Behaviour.{TxnGroup, is_txn_group, is_group_number}
use Rattle.roc_law_orders.specs.Runs.{needs}
use Rattle.roc_law_orders.specs.Orders.{one_by_one, StandOneByOne}
use Rattle.roc_law_orders.specs.Growth.{Stays}
use Rattle.roc_law_orders.proofs.SameGroups.{same_group, is_group-same}
use Rattle.roc_law_log.specs.Scheme.{Scheme, IsSoundScheme}
use Rattle.roc_law_log.specs.Log.{Log, PrecedesTxn, PrecedesTxnNow, shard_at, HasGroup, IsWhole}
use Rattle.roc_law_log.specs.Taking.{IsWholeOrder, IsShardOrder}
use Rattle.roc_law_log.specs.Steps.{MayDecide, IsWaived, waits_here, waiting_here, new_in, with_decided, with_decision}
use Rattle.roc_law_log.specs.Invariants.{LogInvariants, LogGrows}
use Rattle.roc_law_log.proofs.Whole.{extend}
use Rattle.roc_law_log.proofs.Shards.{extend_here, in_fresh, from_fresh, closed_fresh, fresh_order}
use Rattle.roc_law_log.proofs.Later.{IsLater, shard_kept, uses_kept, group_same, whole_after, here_after, settled_after, throughout_after}
use Rattle.roc_law_log.proofs.Settled.{mates_settled, settled_in, settled_here}

-- a shard's list is the one that went on, or is as it was
pub at_decided : (decided : ℕ → List TxnId) (s v : ℕ) (ts : List TxnId) (P : List TxnId → Type 0) → (s ≡ v → P (decided s ++ ts)) → (s ≢ v → P (decided v)) → P (with_decided decided s ts v)
at_decided decided s v ts P h k = go (s == v) refl
  where
    go : (b : Bool) → (s == v) ≡ b → P (cond b (decided s ++ ts) (decided v))
    go true e = h (eqb-true s v e)
    go false e = k (λ q. false≢true (sym e ∙ eq-eqb s v q))

module _ (S : Scheme) (start : Store) (stays : (Q T : List TxnGroup) → NoneTwice is_txn_group (Q ++ T) → Stays S.behaviour start Q T)
    (stand : (O : List TxnId) → StandOneByOne S.behaviour O) (sound : IsSoundScheme S) (w : Log) (i : LogInvariants S start w) where
  module _ (s : ℕ) (ts : List TxnId) (may : MayDecide S start w s ts) where
    abbrev pub T : List TxnGroup
    T = waiting_here S start w.past.ran s ts

    abbrev after : Log
    after = with_decision S start w s ts

    abbrev E : TxnId → TxnId → Type 0
    E = PrecedesTxn S start w.past

    abbrev I : TxnId → TxnId → Type 0
    I = PrecedesTxnNow S start w.past

    abbrev E2 : TxnId → TxnId → Type 0
    E2 = PrecedesTxn S start after.past

    abbrev I2 : TxnId → TxnId → Type 0
    I2 = PrecedesTxnNow S start after.past

    record FromT (r : TxnGroup) : Type 0 where
      taken : IsListed is_txn ts r.txn
      listed : IsListed is_group_number (S.behaviour.groups r.txn) r.group
      later : S.is_immediate r ≡ false
      on : shard_at S start w.past.ran r ≡ s
      passes : waits_here S start w.past.ran s r ≡ true

    from_T : (r : TxnGroup) → IsListed is_txn_group T r → FromT r
    from_T r h =
        let f = from_listed_filter is_txn_group same_group (waits_here S start w.past.ran s) (one_by_one S.behaviour ts) r h in
        let p = and_parts (not (S.is_immediate r)) (shard_at S start w.past.ran r == s) f.0 in
        record { taken = (stand ts).of_order r f.1; listed = (stand ts).are_groups r f.1; later = not-true (S.is_immediate r) p.0; on = eqb-true (shard_at S start w.past.ran r) s p.1; passes = f.0 }

    in_T : (r : TxnGroup) → IsListed is_txn ts r.txn → IsListed is_group_number (S.behaviour.groups r.txn) r.group → S.is_immediate r ≡ false → shard_at S start w.past.ran r ≡ s → IsListed is_txn_group T r
    in_T r h k e f =
        listed_filter is_txn_group same_group (waits_here S start w.past.ran s) (one_by_one S.behaviour ts) r
        (and_from (not (S.is_immediate r)) (shard_at S start w.past.ran r == s) (not_from_false (S.is_immediate r) e) (eq-eqb (shard_at S start w.past.ran r) s f))
        ((stand ts).all r h k)

    T_new : (r : TxnGroup) → IsListed is_txn_group T r → ¬ IsListed is_txn_group w.past.ran r
    T_new r h k = let f = from_T r h in may.new r.txn f.taken (subst (λ s. IsListed is_txn (w.decided s) r.txn) f.on (i.later_decided r k f.later))

    T_started : (r : TxnGroup) → IsListed is_txn_group T r → IsListed is_txn_group w.past.started r
    T_started r h = let f = from_T r h in may.whole r.txn f.taken r.group f.listed

    pub later : IsLater w.past w.past.started w.past.left_out T
    later =
        record {
          once = NoneTwice-append is_txn_group is_group-same w.past.ran T i.ran_once (NoneTwice-filter is_txn_group same_group (waits_here S start w.past.ran s) (one_by_one S.behaviour ts) ((stand ts).once may.ordered.once)) T_new;
          more = λ r j. j;
          before = λ q r b. b;
          back = λ q r j b. b;
          same_out = λ r h. refl;
        }

    shard_decide : (q : TxnGroup) → IsListed is_txn_group w.past.started q → shard_at S start (w.past.ran ++ T) q ≡ shard_at S start w.past.ran q
    shard_decide q h = shard_kept S start stays sound w i w.past.started w.past.left_out T later q (i.needs_ran q h)

    ran_started_decide : (q : TxnGroup) → IsListed is_txn_group (w.past.ran ++ T) q → IsListed is_txn_group w.past.started q
    ran_started_decide q h = elim (listed_either is_txn_group w.past.ran T q h) [ inl j ↦ i.ran_started q j | inr j ↦ T_started q j.1 ]

    -- ---- the order

    abbrev order2 : List TxnId
    order2 = w.order ++ new_in w.order ts

    from_new : (t : TxnId) → IsListed is_txn (new_in w.order ts) t → (¬ IsListed is_txn w.order t) × IsListed is_txn ts t
    from_new t h = from_fresh E I (IsWaived S start w) (w.decided s) w.order ts i.order (i.in_order s) (settled_in S start w i) may.closed may.ordered t h

    from_order2 : (t : TxnId) → IsListed is_txn order2 t → IsWhole S w.past.started t
    from_order2 t h = elim (listed_either is_txn w.order (new_in w.order ts) t h) [ inl j ↦ i.whole t j | inr j ↦ may.whole t (from_new t j.1).1 ]

    ts_order2 : (t : TxnId) → IsListed is_txn ts t → IsListed is_txn order2 t
    ts_order2 t h = elim (listed_or_not is_txn w.order t) [
      | inl k ↦ listed_front is_txn w.order (new_in w.order ts) t k
      | inr k ↦ listed_behind is_txn w.order (new_in w.order ts) t (in_fresh E I (IsWaived S start w) (w.decided s) w.order ts i.order (i.in_order s) (settled_in S start w i) may.closed may.ordered t h k)
    ]

    into_order2 : (t : TxnId) → IsListed is_txn (w.decided s ++ ts) t → IsListed is_txn order2 t
    into_order2 t h = elim (listed_either is_txn (w.decided s) ts t h) [ inl j ↦ listed_front is_txn w.order (new_in w.order ts) t (i.in_order s t j) | inr j ↦ ts_order2 t j.1 ]

    order2_taken : IsWholeOrder E I order2
    order2_taken =
        extend E I w.order (new_in w.order ts) i.order (λ t h. (from_new t h).0)
        (closed_fresh E I (IsWaived S start w) (w.decided s) w.order ts i.order (i.in_order s) (settled_in S start w i) may.closed may.ordered)
        (fresh_order E I (IsWaived S start w) (w.decided s) w.order ts i.order (i.in_order s) (settled_in S start w i) may.closed may.ordered)

    up2 : (v : ℕ) (t : TxnId) → IsListed is_txn (w.decided v) t → IsListed is_txn (after.decided v) t
    up2 v t = at_decided w.decided s v ts (λ l. IsListed is_txn (w.decided v) t → IsListed is_txn l t) (λ f h. listed_front is_txn (w.decided s) ts t (subst (λ x. IsListed is_txn (w.decided x) t) (sym f) h)) (λ n h. h)

    here_decide : (v : ℕ) (L : List TxnId) → ((t : TxnId) → IsListed is_txn L t → IsListed is_txn order2 t)
        → IsShardOrder E I (HasGroup S start w.past.ran v) (IsWaived S start w) L → IsShardOrder E2 I2 (HasGroup S start (w.past.ran ++ T) v) (IsWaived S start after) L
    here_decide v L into l = here_after S start stays sound w i w.past.started w.past.left_out T later i.are_groups order2 from_order2 order2_taken v L into l after
        (settled_after S start stays sound w i w.past.started w.past.left_out T later i.are_groups order2 from_order2 order2_taken (λ u z. listed_front is_txn w.order (new_in w.order ts) u (settled_in S start w i u z)) after refl (λ t h. h))

    -- where two stand of those that ran now
    T_order : (q r : TxnGroup) → IsListed is_txn_group T q → IsListed is_txn_group T r → IsListedBefore is_txn_group T q r
        → IsListedBefore is_txn ts q.txn r.txn ⊎ ((q.txn ≡ r.txn) × IsListedBefore is_group_number (S.behaviour.groups r.txn) q.group r.group)
    T_order q r h k b =
        let f = from_T q h in
        let g = from_T r k in
        let c = from_before_filter is_txn_group same_group (waits_here S start w.past.ran s) (one_by_one S.behaviour ts) q r f.passes g.passes b in
        elim (cases_order (place_of (is_txn q.txn) ts) (place_of (is_txn r.txn) ts)) [
          | inr (inl l) ↦ inl l
          | inr (inr l) ↦ (let o = (stand ts).across r q l g.listed in absurd (omega arith))
          | inl e ↦
              (let same = same_place is_txn is_txn-true ts q.txn r.txn f.taken e in
              elim (cases_order (place_of (is_group_number q.group) (S.behaviour.groups r.txn)) (place_of (is_group_number r.group) (S.behaviour.groups r.txn))) [
                | inr (inl l) ↦ inr (same, l)
                | inr (inr l) ↦ (let o = (stand ts).within r q (sym same) f.taken (subst (λ t. IsListedBefore is_group_number (S.behaviour.groups t) r.group q.group) (sym same) l) in absurd (omega arith))
                | inl m ↦
                    (let g = same_place is_group_number (λ a b. eqb-true a b) (S.behaviour.groups r.txn) q.group r.group (subst (λ t. IsListed is_group_number (S.behaviour.groups t) q.group) same f.listed) m in
                    let both : q ≡ r = λ i. record { txn = same i; group = g i } in
                    let z = ap (λ a. place_of (is_txn_group a) (one_by_one S.behaviour ts)) both in
                    absurd (omega arith))
              ])
        ]

    pub decide-grows : LogGrows S start w after
    decide-grows =
        record {
          started = ([], sym (append-nil w.past.started));
          ran = (T, refl);
          decided = λ v. at_decided w.decided s v ts (λ l. (rest : List TxnId) × (l ≡ w.decided v ++ rest))
              (λ f. subst (λ x. (rest : List TxnId) × (w.decided s ++ ts ≡ w.decided x ++ rest)) f (ts, refl))
              (λ n. ([], sym (append-nil (w.decided v))));
          order = (new_in w.order ts, refl);
          answered = ([], sym (append-nil w.answered));
          yielded = (stays w.past.ran T later.once).yielded;
          inputs = (stays w.past.ran T later.once).inputs;
          uses = uses_kept S start stays sound w i w.past.started w.past.left_out T later;
          precedes = group_same S start stays sound w i w.past.started w.past.left_out T later;
        }

    pub decide-kept : LogInvariants S start after
    decide-kept =
        record {
          started_once = i.started_once;
          ran_once = later.once;
          ran_started = ran_started_decide;
          are_groups = i.are_groups;
          needs_ran = λ q h. all_weaker (IsListed is_txn_group w.past.ran) (IsListed is_txn_group (w.past.ran ++ T)) (listed_front is_txn_group w.past.ran T) (needs S.behaviour q) (i.needs_ran q h);
          behind_needs = λ q h. elim (listed_either is_txn_group w.past.ran T q h) [
            | inl j ↦ all_weaker (λ d. IsListedBefore is_txn_group w.past.ran d q) (λ d. IsListedBefore is_txn_group (w.past.ran ++ T) d q) (λ d b. before_front is_txn_group w.past.ran T d q b) (needs S.behaviour q) (i.behind_needs q j)
            | inr j ↦ all_weaker (IsListed is_txn_group w.past.ran) (λ d. IsListedBefore is_txn_group (w.past.ran ++ T) d q) (λ d k. before_new is_txn_group w.past.ran T d q k j.0) (needs S.behaviour q) (i.needs_ran q (T_started q j.1))
          ];
          now_ran = λ q h e. listed_front is_txn_group w.past.ran T q (i.now_ran q h e);
          now_order = λ p q e f h b. elim (listed_either is_txn_group w.past.ran T q h) [
            | inl j ↦ i.now_order p q e f j (from_before_front is_txn_group w.past.ran T p q j b)
            | inr j ↦ absurd (false≢true (sym (from_T q j.1).later ∙ f))
          ];
          later_ran = λ q h e. at_decided w.decided s (shard_at S start (w.past.ran ++ T) q) ts (λ l. IsListed is_txn l q.txn → IsListed is_txn_group (w.past.ran ++ T) q)
              (λ f d. elim (listed_either is_txn (w.decided s) ts q.txn d) [
                | inl j ↦ listed_front is_txn_group w.past.ran T q (i.later_ran q h e (subst (λ s. IsListed is_txn (w.decided s) q.txn) (f ∙ shard_decide q h) j))
                | inr j ↦ listed_behind is_txn_group w.past.ran T q (in_T q j.1 (i.are_groups q h) e (sym (f ∙ shard_decide q h)))
              ])
              (λ n d. listed_front is_txn_group w.past.ran T q (i.later_ran q h e (subst (λ s. IsListed is_txn (w.decided s) q.txn) (shard_decide q h) d)));
          later_decided = λ q h e.
              let x = shard_decide q (ran_started_decide q h) in
              at_decided w.decided s (shard_at S start (w.past.ran ++ T) q) ts (λ l. IsListed is_txn l q.txn)
              (λ f. elim (listed_either is_txn_group w.past.ran T q h) [
                | inl j ↦ listed_front is_txn (w.decided s) ts q.txn (subst (λ s. IsListed is_txn (w.decided s) q.txn) (sym (f ∙ x)) (i.later_decided q j e))
                | inr j ↦ listed_behind is_txn (w.decided s) ts q.txn (from_T q j.1).taken
              ])
              (λ n. elim (listed_either is_txn_group w.past.ran T q h) [
                | inl j ↦ subst (λ s. IsListed is_txn (w.decided s) q.txn) (sym x) (i.later_decided q j e)
                | inr j ↦ absurd (n (sym (x ∙ (from_T q j.1).on)))
              ]);
          later_order = λ p q d e z h b.
              let x = shard_decide q (ran_started_decide q h) in
              let y = shard_decide p (ran_started_decide p (listed_by_before is_txn_group (w.past.ran ++ T) p q b)) in
              at_decided w.decided s (shard_at S start (w.past.ran ++ T) q) ts (λ l. IsListedBefore is_txn l p.txn q.txn ⊎ ((p.txn ≡ q.txn) × IsListedBefore is_group_number (S.behaviour.groups q.txn) p.group q.group))
              (λ f. elim (listed_either is_txn_group w.past.ran T q h) [
                | inl j ↦ elim (i.later_order p q d e (sym y ∙ (z ∙ x)) j (from_before_front is_txn_group w.past.ran T p q j b)) [
                  | inl k ↦ inl (before_front is_txn (w.decided s) ts p.txn q.txn (subst (λ s. IsListedBefore is_txn (w.decided s) p.txn q.txn) (sym (f ∙ x)) k))
                  | inr k ↦ inr k
                ]
                | inr j ↦ elim (listed_either is_txn_group w.past.ran T p (listed_by_before is_txn_group (w.past.ran ++ T) p q b)) [
                  | inl k ↦ inl (before_new is_txn (w.decided s) ts p.txn q.txn (subst (λ s. IsListed is_txn (w.decided s) p.txn) (sym y ∙ (z ∙ sym f)) (i.later_decided p k d)) (may.new q.txn (from_T q j.1).taken))
                  | inr k ↦ elim (T_order p q k.1 j.1 (from_before_behind is_txn_group w.past.ran T p q k.0 j.0 b)) [
                    | inl l ↦ inl (before_behind is_txn (w.decided s) ts p.txn q.txn (may.new p.txn (from_T p k.1).taken) (may.new q.txn (from_T q j.1).taken) l)
                    | inr l ↦ inr l
                  ]
                ]
              ])
              (λ n. elim (listed_either is_txn_group w.past.ran T q h) [
                | inl j ↦ elim (i.later_order p q d e (sym y ∙ (z ∙ x)) j (from_before_front is_txn_group w.past.ran T p q j b)) [
                  | inl k ↦ inl (subst (λ s. IsListedBefore is_txn (w.decided s) p.txn q.txn) (sym x) k)
                  | inr k ↦ inr k
                ]
                | inr j ↦ absurd (n (sym (x ∙ (from_T q j.1).on)))
              ]);
          decided = λ v. at_decided w.decided s v ts (IsShardOrder E2 I2 (HasGroup S start (w.past.ran ++ T) v) (IsWaived S start after))
              (λ f. subst (λ v. IsShardOrder E2 I2 (HasGroup S start (w.past.ran ++ T) v) (IsWaived S start after) (w.decided s ++ ts)) f
              (here_decide s (w.decided s ++ ts) into_order2
              (extend_here E I (HasGroup S start w.past.ran s) (IsWaived S start w) (mates_settled S start w) (w.decided s) ts (i.decided s) may.new may.closed (settled_here S start w i s) may.ordered)))
              (λ n. here_decide v (w.decided v) (λ t h. listed_front is_txn w.order (new_in w.order ts) t (i.in_order v t h)) (i.decided v));
          order = whole_after S start stays sound w i w.past.started w.past.left_out T later i.are_groups order2 from_order2 order2_taken;
          in_order = λ v t. at_decided w.decided s v ts (λ l. IsListed is_txn l t → IsListed is_txn order2 t)
              (λ f h. elim (listed_either is_txn (w.decided s) ts t h) [ inl j ↦ listed_front is_txn w.order (new_in w.order ts) t (i.in_order s t j) | inr j ↦ ts_order2 t j.1 ])
              (λ n h. listed_front is_txn w.order (new_in w.order ts) t (i.in_order v t h));
          left_out = λ q t h k.
              let z = i.left_out q t h k in
              let e = shard_decide q h in
              record {
                decided = at_decided w.decided s (shard_at S start (w.past.ran ++ T) q) ts (λ l. IsListed is_txn l t)
                    (λ f. listed_front is_txn (w.decided s) ts t (subst (λ s. IsListed is_txn (w.decided s) t) (sym (f ∙ e)) z.decided))
                    (λ n. subst (λ s. IsListed is_txn (w.decided s) t) (sym e) z.decided);
                earlier = λ m. elim (listed_either is_txn w.order (new_in w.order ts) q.txn m) [
                  | inl j ↦ before_front is_txn w.order (new_in w.order ts) t q.txn (z.earlier j)
                  | inr j ↦ before_new is_txn w.order (new_in w.order ts) t q.txn (i.in_order (shard_at S start w.past.ran q) t z.decided) j.0
                ];
                earlier_here = at_decided w.decided s (shard_at S start (w.past.ran ++ T) q) ts (λ l. IsListed is_txn l q.txn → IsListedBefore is_txn l t q.txn)
                    (λ f m. elim (listed_either is_txn (w.decided s) ts q.txn m) [
                      | inl j ↦ before_front is_txn (w.decided s) ts t q.txn (subst (λ s. IsListed is_txn (w.decided s) q.txn → IsListedBefore is_txn (w.decided s) t q.txn) (sym (f ∙ e)) z.earlier_here j)
                      | inr j ↦ before_new is_txn (w.decided s) ts t q.txn (subst (λ s. IsListed is_txn (w.decided s) t) (sym (f ∙ e)) z.decided) j.0
                    ])
                    (λ n. subst (λ s. IsListed is_txn (w.decided s) q.txn → IsListedBefore is_txn (w.decided s) t q.txn) (sym e) z.earlier_here);
              };
          whole = from_order2;
          answered = λ t h. throughout_after S start stays sound w i w.past.started w.past.left_out T later after refl up2 (λ u. listed_front is_txn w.order (new_in w.order ts) u) t (i.answered t h);
        }
