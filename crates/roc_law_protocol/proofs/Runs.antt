-- Buffered groups run on their shard as they run on the one store
use Rattle.std.proofs.Common.{◌≡◌, ℕ, ℤ, ◌==◌, Bool, true, false, cond, List, [], ◌∷◌, ◌++◌, Some, None, map, refl, sym, ap, subst, ◌∙◌, ◌⊎◌, inl, inr}
use Rattle.std.proofs.lemmas.Bool.{false≢true, and_parts, and_from, eq-eqb, eqb-true, cond-true, cond-false, false_from_ne_true}
use Rattle.std.proofs.lemmas.List.Elements.{filter-append}
use Rattle.std.specs.Prelude.{filter, find, if◌then◌else◌}
use Rattle.std.specs.Option.{option_map}
use Rattle.std.specs.List.{AllByRecursion}
use Rattle.roc_sequence.specs.Lists.{Has}
use Rattle.roc_sequence.proofs.Holds.{all_weaker}
use Rattle.roc_sequence.proofs.Members.{from_has_map, has_append, has_map, has_left, has_right}
use Rattle.roc_base.specs.declared.id.TxnId.{TxnId}
use Rattle.roc_base.specs.TxnId.{is_txn}
use Rattle.roc_base.specs.Equalities.{is_txn-true, is_txn-same}
use Rattle.roc_plan.specs.Groups.{Plan, inputs_of}
use Rattle.roc_whole.specs.Serial as whole
use Rattle.roc_group.specs.GroupRun.{group_run}
use Rattle.roc_law_orders.specs.Behaviour.{TxnGroup, is_txn_group, Yield}
use Rattle.roc_law_orders.specs.Runs.{Stage, needs, inputs_at, after_group, after_groups}
use Rattle.roc_law_orders.specs.Orders.{all_groups, one_by_one}
use Rattle.roc_law_orders.proofs.SameGroups.{same_group}
use Rattle.roc_law_orders.proofs.Stages.{after-yielded_other, same_inputs}
use Rattle.roc_law_log.specs.Scheme.{Scheme}
use Rattle.roc_law_log.specs.Log.{Log, IsWhole}
use Rattle.roc_law_log.specs.Steps.{waits_here, waiting_here}
use Rattle.roc_step.specs.declared.started.StartedGroup.{StartedGroup}
use Rattle.roc_step.specs.State.{is_group, ServerState}
use Rattle.roc_step.specs.Runs.{group_call, with_later, run_group, run_groups, buffered_here, take_all}
use Rattle.roc_step.specs.State.{unrun}
use Rattle.roc_law_protocol.specs.PlanAssumptions.{picked, called, IsSchemeOf}
use Rattle.roc_law_protocol.specs.Beginnings.{Beginning}
use Rattle.roc_law_protocol.specs.Inner.Given.{LogLaws}
use Rattle.roc_law_protocol.proofs.Means.{entry_run, Ran, stage, EntryMeans, AreGroupsHere, IsPart}
use Rattle.roc_law_protocol.proofs.Local.{call_is, run_cells, run_elsewhere, run_outs}
use Rattle.roc_law_protocol.proofs.Buffered.{buffered_runs}
use Rattle.roc_law_protocol.proofs.Local.{after_append}

find_under : {A : Type 0} (f : A → A) (p : A → Bool) → ((x : A) → p (f x) ≡ p x) → (xs : List A) → find p (map f xs) ≡ option_map f (find p xs)
find_under f p h [] = refl
find_under f p h (x ∷ xs) = go (p x) (h x) (find_under f p h xs)
  where
    go : (b : Bool) → p (f x) ≡ b → find p (map f xs) ≡ option_map f (find p xs) → cond (p (f x)) (Some (f x)) (find p (map f xs)) ≡ option_map f (cond b (Some x) (find p xs))
    go true e ih = cond-true (p (f x)) (Some (f x)) (find p (map f xs)) e
    go false e ih = cond-false (p (f x)) (Some (f x)) (find p (map f xs)) e ∙ ih

module _ (plan : Plan) (asked : TxnId → whole.Call) (S : Scheme) (start : Beginning) (is : IsSchemeOf plan asked S) (laws : LogLaws S start.store) (c : Log) (n : ℕ) (Gone : TxnId → Type 0) where
  abbrev X : Stage
  X = stage plan asked S start c

  -- a group that waits on this shard and has not run
  pub record IsWaiting (e : StartedGroup) : Type 0 where
    pub means : EntryMeans plan asked S start c n (unrun e)
    pub later : S.is_immediate (entry_run e) ≡ false
    pub needs_ran : AllByRecursion (Ran plan asked S start c) (needs S.behaviour (entry_run e))
    pub not_ran : ¬ Ran plan asked S start c (entry_run e)

  -- a stage at which what ran by the log gave what it gave
  abbrev Keeps : Stage → Type 0
  Keeps Z = (q : TxnGroup) → Ran plan asked S start c q → Z.yielded q ≡ X.yielded q

  abbrev later_if : StartedGroup → List ℤ → StartedGroup → StartedGroup
  later_if e outs g = if is_group e.id e.group g then record g { later = Some outs } else g

  -- groups are the same whatever they gave
  pub groups_later : (e : StartedGroup) (outs : List ℤ) (started : List StartedGroup) → AreGroupsHere plan asked S start c n Gone started → AreGroupsHere plan asked S start c n Gone (with_later e outs started)
  groups_later e outs started h =
      record {
        entries = λ f k. (let g = from_has_map (later_if e outs) f started k in entry f g.0 (h.entries g.0 g.1) (is_group e.id e.group g.0) g.2);
        finds = λ r b p. elim (h.finds r b p) [
          | inl f ↦ inl (later_if e outs f.0, find_under (later_if e outs) (is_group r.txn r.group) (λ g. same r g (is_group e.id e.group g)) started ∙ ap (option_map (later_if e outs)) f.1)
          | inr gone ↦ inr gone
        ];
      }
    where
      entry : (f g : StartedGroup) → EntryMeans plan asked S start c n (unrun g) → (b : Bool) → f ≡ cond b (record g { later = Some outs }) g → EntryMeans plan asked S start c n (unrun f)
      entry f g m true k = subst (λ (f : StartedGroup). EntryMeans plan asked S start c n (unrun f)) (sym k) m
      entry f g m false k = subst (λ (f : StartedGroup). EntryMeans plan asked S start c n (unrun f)) (sym k) m

      same : (r : TxnGroup) (g : StartedGroup) (b : Bool) → is_group r.txn r.group (cond b (record g { later = Some outs }) g) ≡ is_group r.txn r.group g
      same r g true = refl
      same r g false = refl

  is_group-run : (e g : StartedGroup) → is_group e.id e.group g ≡ true → entry_run g ≡ entry_run e
  is_group-run e g h = let p = and_parts (is_txn g.id e.id) (g.group == e.group) h in λ i. record { txn = is_txn-true g.id e.id p.0 i; group = eqb-true g.group e.group p.1 i }

  -- one group runs
  module _ (Before : TxnGroup → Type 0) (Z : Stage) (keep : Keeps Z) (st : ServerState) (p : IsPart plan asked S start c n Z Before st.store st.started) (e : StartedGroup) (w : IsWaiting e) where
    abbrev r : TxnGroup
    r = entry_run e

    abbrev outs : List ℤ
    outs = (group_run plan (group_call e) st.store).reply

    given_same : inputs_at S.behaviour Z r ≡ inputs_at S.behaviour X r
    given_same = same_inputs S.behaviour Z X r (all_weaker (Ran plan asked S start c) (λ q. Z.yielded q ≡ X.yielded q) keep (needs S.behaviour r) w.needs_ran)

    is_called : group_call e ≡ called plan asked r (inputs_at S.behaviour Z r)
    is_called = call_is plan asked S start is laws e.proc e.group e.args e.inputs e.id (inputs_at S.behaviour Z r) w.means.proc w.means.args (w.means.inputs ∙ ap (picked (inputs_of plan (asked e.id).procedure e.group)) (sym given_same))

    on : S.group_shard r (inputs_at S.behaviour Z r) ≡ n
    on = ap (S.group_shard r) given_same ∙ w.means.on

    gave : outs ≡ ((after_group S.behaviour Z r).yielded r).outs
    gave = run_outs plan asked S start is laws n Z r (group_call e) st.store is_called on p.cells

    later_after : (f g : StartedGroup) → Has g st.started → (b : Bool) → is_group e.id e.group g ≡ b → f ≡ cond b (record g { later = Some outs }) g → Before (entry_run f) ⊎ (entry_run f ≡ r) → S.is_immediate (entry_run f) ≡ false → f.later ≡ Some ((after_group S.behaviour Z r).yielded (entry_run f)).outs
    later_after f g h true k same ran imm =
        ap (λ (f : StartedGroup). f.later) same
        ∙ (ap (λ o. Some o) gave ∙ ap (λ q. Some ((after_group S.behaviour Z r).yielded q).outs) (sym (ap entry_run same ∙ is_group-run e g k)))
    later_after f g h false k same ran imm = elim ran [
      | inl b ↦
          (let t = ap entry_run same in
          ap (λ (f : StartedGroup). f.later) same
          ∙ (p.later g h (subst Before t b) (ap S.is_immediate (sym t) ∙ imm)
          ∙ (ap (λ (y : Yield). Some y.outs) (sym (after-yielded_other S.behaviour Z r (entry_run g) (other g k)))
          ∙ ap (λ q. Some ((after_group S.behaviour Z r).yielded q).outs) (sym t))))
      | inr b ↦ absurd (false≢true (sym k ∙ is_same g (sym (ap entry_run same) ∙ b)))
    ]
      where
        is_same : (g : StartedGroup) → entry_run g ≡ r → is_group e.id e.group g ≡ true
        is_same g t = and_from (is_txn g.id e.id) (g.group == e.group) (subst (λ (q : TxnGroup). is_txn q.txn e.id ≡ true) (sym t) (is_txn-same e.id)) (eq-eqb g.group e.group (ap (λ (q : TxnGroup). q.group) t))

        other : (g : StartedGroup) → is_group e.id e.group g ≡ false → is_txn_group r (entry_run g) ≡ false
        other g k = false_from_ne_true (is_txn_group r (entry_run g)) (λ t. false≢true (sym k ∙ is_same g (sym (same_group r (entry_run g) t))))

    none_after : (f g : StartedGroup) → Has g st.started → (b : Bool) → is_group e.id e.group g ≡ b → f ≡ cond b (record g { later = Some outs }) g → S.is_immediate (entry_run f) ≡ true → f.later ≡ None
    none_after f g h true k same imm = absurd (false≢true (sym w.later ∙ (ap S.is_immediate (sym (ap entry_run same ∙ is_group-run e g k)) ∙ imm)))
    none_after f g h false k same imm = ap (λ (f : StartedGroup). f.later) same ∙ p.at_once g h (ap S.is_immediate (sym (ap entry_run same)) ∙ imm)

    pub run_part : IsPart plan asked S start c n (after_group S.behaviour Z r) (λ q. Before q ⊎ (q ≡ r)) (run_group plan st e).store (run_group plan st e).started
    run_part =
        record {
          cells = run_cells plan asked S start is laws n Z r (group_call e) st.store is_called on p.cells;
          elsewhere = λ x apart. run_elsewhere plan asked S start is laws n Z r (group_call e) st.store is_called on p.cells x apart ∙ p.elsewhere x apart;
          later = λ f k ran imm. (let g = from_has_map (later_if e outs) f st.started k in later_after f g.0 g.1 (is_group e.id e.group g.0) refl g.2 ran imm);
          at_once = λ f k imm. (let g = from_has_map (later_if e outs) f st.started k in none_after f g.0 g.1 (is_group e.id e.group g.0) refl g.2 imm);
        }

    pub keeps_after : Keeps (after_group S.behaviour Z r)
    keeps_after q h = after-yielded_other S.behaviour Z r q (false_from_ne_true (is_txn_group r q) (λ t. w.not_ran (subst (Ran plan asked S start c) (sym (same_group r q t)) h))) ∙ keep q h

  -- a state that is the shard's part of a stage
  pub record IsAt (Before : TxnGroup → Type 0) (Z : Stage) (st : ServerState) : Type 0 where
    pub keeps : Keeps Z
    pub groups : AreGroupsHere plan asked S start c n Gone st.started
    pub part : IsPart plan asked S start c n Z Before st.store st.started

  weaker : (P Q : TxnGroup → Type 0) → ((q : TxnGroup) → Q q → P q) → (Z : Stage) (st : ServerState) → IsAt P Z st → IsAt Q Z st
  weaker P Q h Z st a = record { keeps = a.keeps; groups = a.groups; part = record { cells = a.part.cells; elsewhere = a.part.elsewhere; later = λ e k ran. a.part.later e k (h (entry_run e) ran); at_once = a.part.at_once } }

  pub run_parts : (es : List StartedGroup) → ((e : StartedGroup) → Has e es → IsWaiting e) → (Before : TxnGroup → Type 0) (Z : Stage) (st : ServerState) → IsAt Before Z st
      → IsAt (λ q. Before q ⊎ Has q (map entry_run es)) (after_groups S.behaviour Z (map entry_run es)) (run_groups plan st es)
  run_parts [] w Before Z st a = weaker Before (λ q. Before q ⊎ ⊥) (λ q h. elim h [ inl k ↦ k | inr k ↦ absurd k ]) Z st a
  run_parts (e ∷ es) w Before Z st a =
      let first : IsAt (λ q. Before q ⊎ (q ≡ entry_run e)) (after_group S.behaviour Z (entry_run e)) (run_group plan st e) =
      record {
        keeps = keeps_after Before Z a.keeps st a.part e (w e (inl refl));
        groups = groups_later e (group_run plan (group_call e) st.store).reply st.started a.groups;
        part = run_part Before Z a.keeps st a.part e (w e (inl refl));
      } in
      weaker (λ q. (Before q ⊎ (q ≡ entry_run e)) ⊎ Has q (map entry_run es)) (λ q. Before q ⊎ Has q (map entry_run (e ∷ es))) (λ q h. elim h [ inl k ↦ inl (inl k) | inr k ↦ elim k [ inl f ↦ inl (inr f) | inr m ↦ inr m ] ])
      (after_groups S.behaviour (after_group S.behaviour Z (entry_run e)) (map entry_run es)) (run_groups plan (run_group plan st e) es)
      (run_parts es (λ f h. w f (inr h)) (λ q. Before q ⊎ (q ≡ entry_run e)) (after_group S.behaviour Z (entry_run e)) (run_group plan st e) first)

  -- the transactions are taken one after another
  module _ (is_whole : (t : TxnId) → IsWhole S c.past.started t → (st : ServerState) → AreGroupsHere plan asked S start c n Gone st.started → (e : StartedGroup) → Has e (buffered_here plan t st.started) → ¬ Ran plan asked S start c (entry_run e) → IsWaiting e) where
    pub take_parts : (ts : List TxnId) → ((t : TxnId) → Has t ts → IsWhole S c.past.started t) → ((t : TxnId) → Has t ts → ¬ Gone t) → ((r : TxnGroup) → Has r (waiting_here S start.store c.past.ran n ts) → ¬ Ran plan asked S start c r) → (Before : TxnGroup → Type 0) (Z : Stage) (st : ServerState) → IsAt Before Z st
        → IsAt (λ q. Before q ⊎ Has q (waiting_here S start.store c.past.ran n ts)) (after_groups S.behaviour Z (waiting_here S start.store c.past.ran n ts)) (take_all plan st ts)
    take_parts [] all kept new Before Z st a = weaker Before (λ q. Before q ⊎ ⊥) (λ q h. elim h [ inl k ↦ k | inr k ↦ absurd k ]) Z st a
    take_parts (t ∷ ts) all kept new Before Z st a =
        let es = buffered_here plan t st.started in
        let mine = filter (waits_here S start.store c.past.ran n) (all_groups S.behaviour t) in
        let rest = waiting_here S start.store c.past.ran n ts in
        let same : map entry_run es ≡ mine = buffered_runs plan asked S start is c n Gone st.started a.groups t (all t (inl refl)) (kept t (inl refl)) in
        let split : waiting_here S start.store c.past.ran n (t ∷ ts) ≡ mine ++ rest = filter-append (waits_here S start.store c.past.ran n) (all_groups S.behaviour t) (one_by_one S.behaviour ts) in
        let here : (q : TxnGroup) → Has q (mine ++ rest) → Has q (waiting_here S start.store c.past.ran n (t ∷ ts)) = λ q h. subst (Has q) (sym split) h in
        let first = run_parts es (λ e h. is_whole t (all t (inl refl)) st a.groups e h (new (entry_run e) (here (entry_run e) (has_left (entry_run e) mine rest (subst (Has (entry_run e)) same (has_map entry_run e es h)))))) Before Z st a in
        let first2 : IsAt (λ q. Before q ⊎ Has q mine) (after_groups S.behaviour Z mine) (run_groups plan st es) = subst (λ l. IsAt (λ q. Before q ⊎ Has q l) (after_groups S.behaviour Z l) (run_groups plan st es)) same first in
        let more = take_parts ts (λ u h. all u (inr h)) (λ u h. kept u (inr h)) (λ r h. new r (here r (has_right r mine rest h))) (λ q. Before q ⊎ Has q mine) (after_groups S.behaviour Z mine) (run_groups plan st es) first2 in
        subst (λ l. IsAt (λ q. Before q ⊎ Has q l) (after_groups S.behaviour Z l) (take_all plan (run_groups plan st es) ts)) (sym split)
        (subst (λ Y. IsAt (λ q. Before q ⊎ Has q (mine ++ rest)) Y (take_all plan (run_groups plan st es) ts)) (sym (after_append S.behaviour Z mine rest))
        (weaker (λ q. (Before q ⊎ Has q mine) ⊎ Has q rest) (λ q. Before q ⊎ Has q (mine ++ rest)) (λ q h. elim h [ inl k ↦ inl (inl k) | inr k ↦ elim (has_append q mine rest k) [ inl m ↦ inl (inr m) | inr m ↦ inr m ] ])
        (after_groups S.behaviour (after_groups S.behaviour Z mine) rest) (take_all plan (run_groups plan st es) ts) more))
