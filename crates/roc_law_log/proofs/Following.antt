-- What holds of each log is what the law about orders asks for
use Rattle.std.proofs.Common.{◌≡◌, ◌≢◌, ℕ, ◌<◌, ℤ, Bool, true, false, List, refl, sym, ap, subst, ◌∙◌, arith, ◌⊎◌, inl, inr}
use Rattle.std.proofs.lemmas.Bool.{cases_order, or_left, or_right, or_cases}
use Rattle.std.specs.List.{AllByRecursion}
use Rattle.roc_sequence.specs.Places.{place_of, IsListed, IsListedBefore, NoneTwice}
use Rattle.roc_sequence.proofs.Places.{listed_by_before, listed_or_not, same_place}
use Rattle.roc_base.specs.declared.id.TxnId.{TxnId}
use Rattle.roc_base.specs.TxnId.{is_txn}
use Rattle.roc_rows.specs.Store.{Store}
use Rattle.roc_law_orders.specs.Behaviour.{TxnGroup, is_txn_group, is_group_number, Use, is_written, Meet}
use Rattle.roc_law_orders.specs.Runs.{needs, inputs_at, stage_behind, stage_before, uses_in, Conflict}
use Rattle.roc_law_orders.specs.Orders.{IsRealRun, Follows}
use Rattle.roc_law_orders.proofs.SameGroups.{same_group, written_used}
use Rattle.roc_component.specs.Components.{Mates}
use Rattle.roc_law_log.specs.Scheme.{Scheme, IsSoundScheme}
use Rattle.roc_law_log.specs.Log.{Log, PrecedesTxn, PrecedesTxnNow, shard_at, HasGroup}
use Rattle.roc_law_log.specs.Steps.{IsWaived}
use Rattle.roc_law_log.specs.Invariants.{LogInvariants}
use Rattle.roc_law_log.proofs.Whole.{now_first}
use Rattle.roc_law_log.proofs.Shards.{order_here}
use Rattle.roc_law_log.proofs.Settled.{settled_here}

meet_turned : (a b : List Use) → Meet a b → Meet b a
meet_turned a b m =
    record {
      cell = m.cell;
      first = m.second;
      second = m.first;
      one_writes = elim (or_cases (is_written m.cell a) (is_written m.cell b) m.one_writes) [
        | inl h ↦ or_right (is_written m.cell b) (is_written m.cell a) h
        | inr h ↦ or_left (is_written m.cell b) (is_written m.cell a) h
      ];
    }

-- the inputs of a group where it begins are what those that it needs gave in the end
abbrev pub AreFound : Scheme → Store → Type 0
AreFound S start =
    (Q : List TxnGroup) (r : TxnGroup) → NoneTwice is_txn_group Q
    → (IsListed is_txn_group Q r → AllByRecursion (λ q. IsListedBefore is_txn_group Q q r) (needs S.behaviour r))
    → inputs_at S.behaviour (stage_before S.behaviour start Q r) r ≡ inputs_at S.behaviour (stage_behind S.behaviour start Q) r

module _ (S : Scheme) (start : Store) (are_found : AreFound S start) (sound : IsSoundScheme S) (w : Log) (i : LogInvariants S start w) where
  abbrev pub C : TxnGroup → TxnGroup → Type 0
  C q r = Conflict S.behaviour start w.past.ran q r

  abbrev E : TxnId → TxnId → Type 0
  E = PrecedesTxn S start w.past

  abbrev I : TxnId → TxnId → Type 0
  I = PrecedesTxnNow S start w.past

  -- a group's inputs and store, where it begins
  abbrev given : TxnGroup → List (List ℤ)
  given r = inputs_at S.behaviour (stage_before S.behaviour start w.past.ran r) r

  abbrev found : TxnGroup → Store
  found r = (stage_before S.behaviour start w.past.ran r).store

  pub shard_found : (r : TxnGroup) → S.group_shard r (given r) ≡ shard_at S start w.past.ran r
  shard_found r = ap (S.group_shard r) (are_found w.past.ran r i.ran_once (i.behind_needs r))

  turned : (q r : TxnGroup) → C q r → C r q
  turned q r c = meet_turned (uses_in S.behaviour start w.past.ran q) (uses_in S.behaviour start w.past.ran r) c

  pub class : (q r : TxnGroup) → C q r → S.is_immediate q ≡ S.is_immediate r
  class q r c = sound.one_class q r (given q) (given r) (found q) (found r) c

  pub one_shard : (q r : TxnGroup) → C q r → shard_at S start w.past.ran q ≡ shard_at S start w.past.ran r
  one_shard q r c = sym (shard_found q) ∙ (sym (sound.placed q (given q) (found q) c.cell c.first) ∙ (sound.placed r (given r) (found r) c.cell c.second ∙ shard_found r))

  linked : (q r : TxnGroup) → q.txn ≢ r.txn → C q r → IsListed is_txn_group w.past.started r → IsListedBefore is_txn_group w.past.started q r → ¬ IsListed is_txn (w.past.left_out r) q.txn → E q.txn r.txn
  linked q r n c h b k = record { second = r; of_second = refl; by = record { first = q; of_first = refl; other = n; began = h; before = b; conflict = c; kept = k } }

  linked_now : (q r : TxnGroup) → q.txn ≢ r.txn → C q r → IsListed is_txn_group w.past.started r → IsListedBefore is_txn_group w.past.started q r
      → ¬ IsListed is_txn (w.past.left_out r) q.txn → S.is_immediate r ≡ true → I q.txn r.txn
  unfolding linked
  linked_now q r n c h b k e = record { precedes = linked q r n c h b k; immediate = e }

  -- who started first
  either : (q r : TxnGroup) → q.txn ≢ r.txn → IsListed is_txn_group w.past.started q → IsListedBefore is_txn_group w.past.started q r ⊎ IsListedBefore is_txn_group w.past.started r q
  either q r n h =
      elim (cases_order (place_of (is_txn_group q) w.past.started) (place_of (is_txn_group r) w.past.started)) [
        | inl e ↦ absurd (n (ap (λ (a : TxnGroup). a.txn) (same_place is_txn_group same_group w.past.started q r h e)))
        | inr (inl l) ↦ inl l
        | inr (inr l) ↦ inr l
      ]

  -- whether it was left out of what precedes the other
  is_left_out : (q r : TxnGroup) → IsListed is_txn (w.past.left_out r) q.txn ⊎ (¬ IsListed is_txn (w.past.left_out r) q.txn)
  is_left_out q r = listed_or_not is_txn (w.past.left_out r) q.txn

  has_group : (q : TxnGroup) → IsListed is_txn_group w.past.started q → (s : ℕ) → shard_at S start w.past.ran q ≡ s → HasGroup S start w.past.ran s q.txn
  has_group q h s e = record { group = q.group; listed = i.are_groups q h; on = e }

  -- ---- immediate edges lead to what started later, since a transaction has one contended group

  record Rank (z : TxnId) (n : ℕ) : Type 0 where
    of : TxnGroup
    txn : of.txn ≡ z
    immediate : S.is_immediate of ≡ true
    other : TxnGroup
    conflict : C of other
    place : place_of (is_txn_group of) w.past.started ≡ n

  one_group : (p q r u : TxnGroup) → p.txn ≡ q.txn → S.is_immediate p ≡ true → S.is_immediate q ≡ true → C p r → C q u → p ≡ q
  one_group p q r u e h k c d = sound.one_contended p q e h k r u (given p) (given r) (given q) (given u) (found p) (found r) (found q) (found u) c d

  one_of : (q r : TxnGroup) → q.txn ≡ r.txn → C q r → S.is_immediate q ≡ true → q ≡ r
  one_of q r e c h = one_group q r r q e h (sym (class q r c) ∙ h) c (turned q r c)

  one_rank : (z : TxnId) (n m : ℕ) → Rank z n → Rank z m → n ≡ m
  one_rank z n m a b = sym a.place ∙ (ap (λ x. place_of (is_txn_group x) w.past.started) (one_group a.of b.of a.other b.other (a.txn ∙ sym b.txn) a.immediate b.immediate a.conflict b.conflict) ∙ b.place)

  rises : (p z : TxnId) → I p z → (n : ℕ) × (m : ℕ) × Rank p n × Rank z m × (n < m)
  rises p z i =
      let a = i.precedes.by.first in
      let b = i.precedes.second in
      let c = i.precedes.by.conflict in (
        place_of (is_txn_group a) w.past.started,
        place_of (is_txn_group b) w.past.started,
        record { of = a; txn = i.precedes.by.of_first; immediate = class a b c ∙ i.immediate; other = b; conflict = c; place = refl },
        record { of = b; txn = i.precedes.of_second; immediate = i.immediate; other = a; conflict = turned a b c; place = refl },
        i.precedes.by.before,
      )

  -- ---- the premises

  -- the class of a group decides when it ran
  order_of : (q r : TxnGroup) → q.txn ≢ r.txn → IsListed is_txn w.order r.txn → IsListed is_txn_group w.past.ran q → IsListed is_txn_group w.past.ran r → C q r
      → IsListedBefore is_txn_group w.past.ran q r → IsListedBefore is_txn w.order q.txn r.txn
  order_of q r n hr j k c b = go (S.is_immediate r) refl
    where
      go : (x : Bool) → S.is_immediate r ≡ x → IsListedBefore is_txn w.order q.txn r.txn
      go true e =
          let o = i.now_order q r (class q r c ∙ e) e k b in
          elim (is_left_out q r) [
            | inl x ↦ (i.left_out r q.txn (i.ran_started r k) x).earlier hr
            | inr x ↦ now_first E I Rank rises one_rank w.order i.order q.txn r.txn (linked_now q r n c (i.ran_started r k) o x e) (linked q r n c (i.ran_started r k) o x) hr
          ]
      go false e =
          let s = shard_at S start w.past.ran r in
          let d = i.later_decided r k e in
          let f = subst (λ s. IsListed is_txn (w.decided s) q.txn) (one_shard q r c) (i.later_decided q j (class q r c ∙ e)) in
          let o : IsListedBefore is_txn (w.decided s) q.txn r.txn = elim (i.later_order q r (class q r c ∙ e) e (one_shard q r c) k b) [ inl l ↦ l | inr l ↦ absurd (n l.0) ] in
          let by : E q.txn r.txn ⊎ E r.txn q.txn → IsListedBefore is_txn w.order q.txn r.txn = λ link. order_here E I (HasGroup S start w.past.ran s) (IsWaived S start w) (w.decided s) w.order (i.decided s) i.order q.txn r.txn link (has_group q (i.ran_started q j) s (one_shard q r c)) (has_group r (i.ran_started r k) s refl) (i.in_order s q.txn f) hr d o in
          elim (either q r n (i.ran_started q j)) [
            | inl l ↦ elim (is_left_out q r) [
              | inl x ↦ (i.left_out r q.txn (i.ran_started r k) x).earlier hr
              | inr x ↦ by (inl (linked q r n c (i.ran_started r k) l x))
            ]
            | inr l ↦ elim (is_left_out r q) [
              | inl x ↦
                  (let z = (i.left_out q r.txn (i.ran_started q j) x).earlier_here (i.later_decided q j (class q r c ∙ e)) in
                  let z2 = subst (λ s. IsListedBefore is_txn (w.decided s) r.txn q.txn) (one_shard q r c) z in
                  absurd (omega arith))
              | inr x ↦ by (inr (linked r q (λ z. n (sym z)) (turned q r c) (i.ran_started q j) l x))
            ]
          ]

  absent_of : (q r : TxnGroup) → q.txn ≢ r.txn → IsListed is_txn w.order q.txn → IsListed is_group_number (S.behaviour.groups q.txn) q.group
      → ¬ IsListed is_txn_group w.past.ran q → IsListed is_txn_group w.past.ran r → C q r → IsListedBefore is_txn w.order r.txn q.txn
  absent_of q r n hq g a k c = go (S.is_immediate q) refl
    where
      hs : IsListed is_txn_group w.past.started q
      hs = i.whole q.txn hq q.group g

      go : (x : Bool) → S.is_immediate q ≡ x → IsListedBefore is_txn w.order r.txn q.txn
      go true e = absurd (a (i.now_ran q hs e))
      go false e =
          let s = shard_at S start w.past.ran q in
          let d = subst (λ s. IsListed is_txn (w.decided s) r.txn) (sym (one_shard q r c)) (i.later_decided r k (sym (class q r c) ∙ e)) in
          let m : ¬ IsListed is_txn (w.decided s) q.txn = λ h. a (i.later_ran q hs e h) in
          elim (either q r n hs) [
            | inl l ↦ elim (is_left_out q r) [
              | inl x ↦ absurd (m (subst (λ s. IsListed is_txn (w.decided s) q.txn) (sym (one_shard q r c)) (i.left_out r q.txn (i.ran_started r k) x).decided))
              | inr x ↦ elim ((i.decided s).closed q.txn r.txn d (linked q r n c (i.ran_started r k) l x)) [ inl y ↦ absurd (m y) | inr y ↦ absurd (m (settled_here S start w i s q.txn y (has_group q hs s refl))) ]
            ]
            | inr l ↦ elim (is_left_out r q) [
              | inl x ↦ (i.left_out q r.txn hs x).earlier hq
              | inr x ↦ i.order.earlier r.txn q.txn hq (linked r q (λ z. n (sym z)) (turned q r c) hs l x) (λ x. m (in_mates d x))
            ]
          ]
        where
          in_mates : IsListed is_txn (w.decided (shard_at S start w.past.ran q)) r.txn → Mates E q.txn r.txn → IsListed is_txn (w.decided (shard_at S start w.past.ran q)) q.txn
          in_mates d (inl z) = absurd (n z)
          in_mates d (inr p) = (i.decided (shard_at S start w.past.ran q)).whole r.txn q.txn d (has_group r (i.ran_started r k) (shard_at S start w.past.ran q) (sym (one_shard q r c))) (inr (p.1, p.0))

  writer_of : (q r : TxnGroup) → IsListed is_txn w.order r.txn → IsListed is_txn_group w.past.ran q → IsListed is_txn_group w.past.ran r
      → IsListedBefore is_txn_group w.past.ran q r → C q r → IsListed is_txn w.order q.txn
  writer_of q r hr j k b c =
      elim (listed_or_not is_txn w.order q.txn) [
        | inl h ↦ h
        | inr m ↦ go (λ e. m (subst (IsListed is_txn w.order) (sym e) hr)) (S.is_immediate r) refl
      ]
    where
      go : q.txn ≢ r.txn → (x : Bool) → S.is_immediate r ≡ x → IsListed is_txn w.order q.txn
      go n true e = elim (is_left_out q r) [
        | inl x ↦ i.in_order (shard_at S start w.past.ran r) q.txn (i.left_out r q.txn (i.ran_started r k) x).decided
        | inr x ↦ i.order.closed q.txn r.txn hr (linked q r n c (i.ran_started r k) (i.now_order q r (class q r c ∙ e) e k b) x)
      ]
      go n false e = i.in_order (shard_at S start w.past.ran q) q.txn (i.later_decided q j (class q r c ∙ e))

  own_order_of : (q r : TxnGroup) → q.txn ≡ r.txn → IsListed is_txn_group w.past.ran r → C q r → IsListedBefore is_txn_group w.past.ran q r → (x : Bool)
      → S.is_immediate r ≡ x → IsListedBefore is_group_number (S.behaviour.groups r.txn) q.group r.group
  own_order_of q r e k c b true f = absurd (let z = one_of q r e c (class q r c ∙ f) in let y = ap (λ a. place_of (is_txn_group a) w.past.ran) z in omega arith)
  own_order_of q r e k c b false f =
      elim (i.later_order q r (class q r c ∙ f) f (one_shard q r c) k b) [
        | inl l ↦ (let y = ap (λ t. place_of (is_txn t) (w.decided (shard_at S start w.past.ran r))) e in absurd (omega arith))
        | inr l ↦ l.1
      ]

  own_earlier_of : (q r : TxnGroup) → IsListed is_txn w.order r.txn → q.txn ≡ r.txn → IsListed is_txn_group w.past.ran r → C q r
      → IsListedBefore is_group_number (S.behaviour.groups r.txn) q.group r.group → (x : Bool) → S.is_immediate r ≡ x → IsListed is_txn_group w.past.ran q
  own_earlier_of q r h e k c b true f = absurd (let z = one_of q r e c (class q r c ∙ f) in let y = ap (λ (a : TxnGroup). place_of (is_group_number a.group) (S.behaviour.groups r.txn)) z in omega arith)
  own_earlier_of q r h e k c b false f =
      let g = i.whole q.txn (subst (IsListed is_txn w.order) (sym e) h) q.group (subst (λ t. IsListed is_group_number (S.behaviour.groups t) q.group) (sym e) (listed_by_before is_group_number (S.behaviour.groups r.txn) q.group r.group b)) in
      i.later_ran q g (class q r c ∙ f) (subst (IsListed is_txn (w.decided (shard_at S start w.past.ran q))) (sym e) (subst (λ s. IsListed is_txn (w.decided s) r.txn) (sym (one_shard q r c)) (i.later_decided r k f)))

  steady_of : (q : TxnGroup) → IsListed is_txn_group w.past.started q → ¬ IsListed is_txn_group w.past.ran q → (b : Bool) → S.is_immediate q ≡ b
      → (given : List (List ℤ)) (s t : Store) → S.behaviour.uses q given s ≡ S.behaviour.uses q given t
  steady_of q h n true e = absurd (n (i.now_ran q h e))
  steady_of q h n false e = sound.steady q e

  pub real : IsRealRun S.behaviour w.past.ran
  real = record { once = i.ran_once; are_groups = λ r h. i.are_groups r (i.ran_started r h); behind_needs = i.behind_needs }

  pub follows : Follows S.behaviour start w.past.ran w.order
  follows =
      record {
        once = i.order.once;
        order = λ q r hq hr n j k c b. order_of q r n hr j k c b;
        absent_later = λ q r hq hr n g a j c. absent_of q r n hq g a j c;
        absent_steady = λ q h g n. steady_of q (i.whole q.txn h q.group g) n (S.is_immediate q) refl;
        writers = λ q r x hr j k b u v. writer_of q r hr j k b (record { cell = x; first = written_used x (uses_in S.behaviour start w.past.ran q) u; second = v; one_writes = or_left (is_written x (uses_in S.behaviour start w.past.ran q)) (is_written x (uses_in S.behaviour start w.past.ran r)) u });
        own_order = λ q r h e j k c b. own_order_of q r e k c b (S.is_immediate r) refl;
        own_earlier = λ q r h e k c b. own_earlier_of q r h e k c b (S.is_immediate r) refl;
        needs_ran = λ r h g. i.needs_ran r (i.whole r.txn h r.group g);
      }
