-- Transactions one by one are whole procedures
use Rattle.std.proofs.Common.{◌≡◌, ◌≢◌, ℕ, ◌<◌, ℤ, pos, Bool, true, false, ◌==◌, List, [], ◌∷◌, ◌++◌, length, map, zip, slice_index_or, refl, sym, ap, subst, ◌∙◌, ◌⊎◌, inl, inr, arith, Some, IsTrue}
use Rattle.std.specs.List.{AllByRecursion, flat_map, range_with_len}
use Rattle.std.proofs.lemmas.Bool.{cond-true, cond-false, false_from_ne_true, false≢true, eqb-true, eq-eqb, ne_eqb}
use Rattle.roc_sequence.specs.Lists.{Has}
use Rattle.roc_sequence.specs.Places.{IsListed, IsListedBefore, NoneTwice}
use Rattle.roc_sequence.proofs.Places.{place_of-here, place_of-there, listed_cases, listed_head, listed_tail}
use Rattle.roc_sequence.proofs.Holds.{all_has, all_weaker, all_append}
use Rattle.roc_sequence.proofs.Members.{has_one, has_append, has_left, has_right}
use Rattle.roc_sequence.proofs.Listed as listed
use Rattle.roc_base.specs.declared.id.TxnId.{TxnId}
use Rattle.roc_base.specs.TxnId.{is_txn}
use Rattle.roc_base.specs.Equalities.{is_txn-true, is_txn-same}
use Rattle.roc_rows.specs.Store.{Store}
use Rattle.roc_plan.specs.declared.group.Input.{Input}
use Rattle.roc_plan.specs.Groups.{Plan, groups_of, procedure_of, inputs_of, outs_of, is_immediate_of}
use Rattle.roc_plan.specs.Turns.{AreInTurn}
use Rattle.roc_plan.proofs.Ordered.{is_number}
use Rattle.roc_whole.specs.Serial as whole
use Rattle.roc_whole.specs.Run.{whole_run}
use Rattle.roc_group.specs.GroupRun.{call, group_run, bound_by_run}
use Rattle.roc_law_orders.specs.Behaviour.{TxnGroup, is_txn_group, Yield, Behaviour}
use Rattle.roc_law_orders.specs.Runs as serial
use Rattle.roc_law_orders.specs.Orders.{all_groups, one_by_one}
use Rattle.roc_law_orders.proofs.SameGroups.{same_group}
use Rattle.roc_law_orders.proofs.Stages.{after-store, after-yielded_same, after-yielded_other}
use Rattle.roc_law_groups.specs.GroupsRun as turn
use Rattle.roc_law_groups.specs.GroupsRun.{Given, bound_by, taken, DoAs}
use Rattle.roc_law_groups.proofs.GroupRuns.{bound_before}
use Rattle.roc_audit.specs.Witness.{reply_in}
use Rattle.roc_law_protocol.specs.PlanAssumptions.{picked, IsWholeReplyFrom}
use Rattle.roc_law_plans.specs.Scheme.{scheme_of, AreOrders}

-- ---- what groups gave, in both forms

is_itself : (a : ℕ) → (a == a) ≡ true
is_itself a = eq-eqb a a refl

bound_new : (gs : List Given) (e : Given) → ((x : Given) → Has x gs → (x.group == e.group) ≡ false) → bound_by (gs ++ e ∷ []) e.group ≡ e.bound
bound_new [] e n = cond-true (e.group == e.group) _ _ (is_itself e.group)
bound_new (x ∷ xs) e n = cond-false (x.group == e.group) _ _ (n x (inl refl)) ∙ bound_new xs e (λ y k. n y (inr k))

-- the groups that ran gave the same
pub record Tied (Y : ℕ → Yield) (given : List Given) (done : List ℕ) : Type 0 where
  pub bound : (g : ℕ) → Has g done → bound_by given g ≡ (Y g).bound
  pub outs : (g : ℕ) → Has g done → (e : Given) × Has e given × (e.group ≡ g) × ((Y g).outs ≡ e.outs)
  pub all : (e : Given) → Has e given → Has e.group done

tied_more : (Y Z : ℕ → Yield) (given : List Given) (done : List ℕ) (e : Given) → ¬ Has e.group done → Tied Y given done
    → (Z e.group).bound ≡ e.bound → (Z e.group).outs ≡ e.outs → ((g : ℕ) → e.group ≢ g → Z g ≡ Y g)
    → Tied Z (given ++ e ∷ []) (e.group ∷ done)
tied_more Y Z given done e fresh k b o same =
    record {
      bound = bounds;
      outs = outs;
      all = λ x m. elim (has_append x given (e ∷ []) m) [ inl i ↦ inr (k.all x i) | inr i ↦ inl (ap (λ (y : Given). y.group) (has_one x e i)) ];
    }
  where
    away : (g : ℕ) → Has g done → e.group ≢ g
    away g m f = fresh (subst (λ y. Has y done) (sym f) m)

    bounds : (g : ℕ) → Has g (e.group ∷ done) → bound_by (given ++ e ∷ []) g ≡ (Z g).bound
    bounds g (inl i) =
        subst (λ x. bound_by (given ++ e ∷ []) x ≡ (Z x).bound) (sym i)
        (bound_new given e (λ x m. ne_eqb x.group e.group (λ f. fresh (subst (λ y. Has y done) f (k.all x m)))) ∙ sym b)
    bounds g (inr m) = bound_before given e g (ne_eqb e.group g (away g m)) ∙ k.bound g m ∙ ap (λ (y : Yield). y.bound) (sym (same g (away g m)))

    outs : (g : ℕ) → Has g (e.group ∷ done) → (x : Given) × Has x (given ++ e ∷ []) × (x.group ≡ g) × ((Z g).outs ≡ x.outs)
    outs g (inl i) = (e, has_right e given (e ∷ []) (inl refl), sym i, subst (λ x. (Z x).outs ≡ e.outs) (sym i) o)
    outs g (inr m) =
        let w = k.outs g m in
        (w.0, has_left w.0 given (e ∷ []) w.1, w.2, ap (λ (y : Yield). y.outs) (same g (away g m)) ∙ w.3)

picked_taken : (t : TxnId) (F : TxnGroup → Yield) (given : List Given) (is : List Input)
    → AllByRecursion (λ i. bound_by given i.group ≡ (F (record { txn = t; group = i.group })).bound) is
    → picked is (map (λ q. (F q).bound) (map (λ g. record { txn = t; group = g }) (map (λ (i : Input). i.group) is))) ≡ map (taken given) is
picked_taken t F given [] h = refl
picked_taken t F given (i ∷ is) h =
    let a = ap (λ v. slice_index_or v i.at (pos 0)) (sym h.0) in
    let b = picked_taken t F given is h.1 in
    λ j. a j ∷ b j

abbrev pub onto : List ℕ → List ℕ → List ℕ
onto done [] = done
onto done (g ∷ todo) = onto (g ∷ done) todo

onto_done : (done todo : List ℕ) (g : ℕ) → Has g done → Has g (onto done todo)
onto_done done [] g h = h
onto_done done (x ∷ todo) g h = onto_done (x ∷ done) todo g (inr h)

onto_todo : (done todo : List ℕ) (g : ℕ) → Has g todo → Has g (onto done todo)
onto_todo done [] g h = absurd h
onto_todo done (x ∷ todo) g (inl e) = onto_done (x ∷ done) todo g (inl e)
onto_todo done (x ∷ todo) g (inr h) = onto_todo (x ∷ done) todo g h

-- ---- the groups of one transaction

module _ (plan : Plan) (orders : ℕ → List ℕ) (asked : TxnId → whole.Call) where
  abbrev pub B : Behaviour
  B = (scheme_of plan orders asked).behaviour

  abbrev pub at : TxnId → ℕ → TxnGroup
  at t g = record { txn = t; group = g }

  abbrev pub proc : TxnId → ℕ
  proc t = (asked t).procedure

  abbrev pub args : TxnId → List ℤ
  args t = (asked t).arguments

  pub in_turn : (t : TxnId) (todo done : List ℕ) (S : serial.Stage) (R : turn.TurnStage)
      → S.store ≡ R.store → Tied (λ g. S.yielded (at t g)) R.given done → NoneTwice is_number todo → ((g : ℕ) → Has g done → ¬ Has g todo)
      → ((g : ℕ) → Has g todo → AllByRecursion (λ i. Has i.group done ⊎ IsListedBefore is_number todo i.group g) (inputs_of plan (proc t) g))
      → ((serial.after_groups B S (map (at t) todo)).store ≡ (turn.after_turns plan (proc t) (args t) R todo).store)
      × Tied (λ g. (serial.after_groups B S (map (at t) todo)).yielded (at t g)) (turn.after_turns plan (proc t) (args t) R todo).given (onto done todo)
  in_turn t [] done S R s k once apart needs = (s, k)
  in_turn t (g ∷ todo) done S R s k once apart needs =
      in_turn t todo (g ∷ done) (serial.after_group B S (at t g)) (turn.after_turn plan (proc t) (args t) R g)
      (after-store B S (at t g) ∙ (λ j. (group_run plan (call (proc t) g (args t) (inputs j)) (s j)).store))
      (tied_more (λ h. S.yielded (at t h)) (λ h. (serial.after_group B S (at t g)).yielded (at t h)) R.given done
      (record { group = g; bound = bound_by_run plan (turn.call_of plan (proc t) (args t) R.given g) R.store; outs = (group_run plan (turn.call_of plan (proc t) (args t) R.given g) R.store).reply })
      (λ h. apart g h (inl refl)) k
      (ap (λ (y : Yield). y.bound) (after-yielded_same B S (at t g)) ∙ (λ j. bound_by_run plan (call (proc t) g (args t) (inputs j)) (s j)))
      (ap (λ (y : Yield). y.outs) (after-yielded_same B S (at t g)) ∙ (λ j. (group_run plan (call (proc t) g (args t) (inputs j)) (s j)).reply))
      (λ h n. after-yielded_other B S (at t g) (at t h) (false_from_ne_true (is_txn_group (at t g) (at t h)) (λ e. n (ap (λ (q : TxnGroup). q.group) (same_group (at t g) (at t h) e))))))
      once.1 apart_next
      (λ h m. all_weaker (λ i. Has i.group done ⊎ IsListedBefore is_number (g ∷ todo) i.group h) (λ i. Has i.group (g ∷ done) ⊎ IsListedBefore is_number todo i.group h) (λ i. moved i.group h m) (inputs_of plan (proc t) h) (needs h (inr m)))
    where
      front : (i : ℕ) → Has i done ⊎ IsListedBefore is_number (g ∷ todo) i g → bound_by R.given i ≡ (S.yielded (at t i)).bound
      front i (inl a) = k.bound i a
      front i (inr b) = let z = place_of-here (is_number g) g todo (is_itself g) in absurd (omega (arith, b, z))

      inputs : picked (inputs_of plan (proc t) g) (serial.inputs_at B S (at t g)) ≡ map (taken R.given) (inputs_of plan (proc t) g)
      inputs =
          picked_taken t S.yielded R.given (inputs_of plan (proc t) g)
          (all_weaker (λ i. Has i.group done ⊎ IsListedBefore is_number (g ∷ todo) i.group g) (λ i. bound_by R.given i.group ≡ (S.yielded (at t i.group)).bound) (λ i. front i.group) (inputs_of plan (proc t) g) (needs g (inl refl)))

      not_here : ¬ Has g todo
      not_here m = once.0 (listed.has_listed is_number eqb-true is_itself todo g m)

      apart_next : (h : ℕ) → Has h (g ∷ done) → ¬ Has h todo
      apart_next h (inl e) m = not_here (subst (λ x. Has x todo) e m)
      apart_next h (inr n) m = apart h n (inr m)

      moved : (i h : ℕ) → Has h todo → Has i done ⊎ IsListedBefore is_number (g ∷ todo) i h → Has i (g ∷ done) ⊎ IsListedBefore is_number todo i h
      moved i h m (inl a) = inl (inr a)
      moved i h m (inr b) = go (i == g) refl
        where
          go : (c : Bool) → (i == g) ≡ c → Has i (g ∷ done) ⊎ IsListedBefore is_number todo i h
          go true e = inl (inl (eqb-true i g e))
          go false e =
              let x = place_of-there (is_number i) g todo e in
              let y = place_of-there (is_number h) g todo (ne_eqb h g (λ f. not_here (subst (λ a. Has a todo) f m))) in
              inr (omega (arith, b, x, y))

  -- as the whole run
  whole_turn : (t : TxnId) (S : serial.Stage) → AreInTurn plan (proc t) (orders (proc t))
      → DoAs plan (proc t) (whole_run (procedure_of plan (proc t)) (args t) S.store) (turn.after_turns plan (proc t) (args t) (record { store = S.store; given = [] }) (orders (proc t)))
      → ((serial.after_groups B S (all_groups B t)).store ≡ (whole_run (procedure_of plan (proc t)) (args t) S.store).store)
      × ((g : ℕ) → g < length (groups_of plan (proc t))
      → ((serial.after_groups B S (all_groups B t)).yielded (at t g)).outs
      ≡ map (λ k. slice_index_or (whole_run (procedure_of plan (proc t)) (args t) S.store).reply k (pos 0)) (outs_of plan (proc t) g))
  whole_turn t S ord d =
      let z =
      in_turn t (orders (proc t)) [] S (record { store = S.store; given = [] }) refl
      (record { bound = λ g h. absurd h; outs = λ g h. absurd h; all = λ e h. absurd h }) ord.once (λ g h. absurd h)
      (λ g m. all_weaker (λ i. IsTrue (is_immediate_of plan (proc t) i.group) × IsListedBefore is_number (orders (proc t)) i.group g) (λ i. Has i.group [] ⊎ IsListedBefore is_number (orders (proc t)) i.group g) (λ i p. inr p.1) (inputs_of plan (proc t) g) (ord.behind g)) in (
        z.0 ∙ d.cells,
        λ g l.
            let m = onto_todo [] (orders (proc t)) g (listed.listed_has is_number eqb-true is_itself (orders (proc t)) g ((ord.members g).0 l)) in
            let w = z.1.outs g m in
            w.3
            ∙ all_has (λ (x : Given). x.outs ≡ map (λ k. slice_index_or (whole_run (procedure_of plan (proc t)) (args t) S.store).reply k (pos 0)) (outs_of plan (proc t) x.group)) w.0
            (turn.after_turns plan (proc t) (args t) (record { store = S.store; given = [] }) (orders (proc t))).given d.outs w.1
            ∙ ap (λ h. map (λ k. slice_index_or (whole_run (procedure_of plan (proc t)) (args t) S.store).reply k (pos 0)) (outs_of plan (proc t) h)) w.2,
      )

  -- ---- among other transactions

  kept : (Q : List TxnGroup) (S : serial.Stage) (q : TxnGroup) → AllByRecursion (λ p. is_txn_group p q ≡ false) Q → (serial.after_groups B S Q).yielded q ≡ S.yielded q
  kept [] S q h = refl
  kept (p ∷ Q) S q h = kept Q (serial.after_group B S p) q h.1 ∙ after-yielded_other B S p q h.0

  after_more : (S : serial.Stage) (Q T : List TxnGroup) → serial.after_groups B S (Q ++ T) ≡ serial.after_groups B (serial.after_groups B S Q) T
  after_more S [] T = refl
  after_more S (p ∷ Q) T = after_more (serial.after_group B S p) Q T

  apart_groups : (u t : TxnId) (gs : List ℕ) (g : ℕ) → u ≢ t → AllByRecursion (λ p. is_txn_group p (at t g) ≡ false) (map (at u) gs)
  apart_groups u t [] g n = tt
  apart_groups u t (x ∷ gs) g n =
      (false_from_ne_true (is_txn_group (at u x) (at t g)) (λ e. n (ap (λ (q : TxnGroup). q.txn) (same_group (at u x) (at t g) e))), apart_groups u t gs g n)

  apart_all : (O : List TxnId) (t : TxnId) (g : ℕ) → ¬ Has t O → AllByRecursion (λ p. is_txn_group p (at t g) ≡ false) (one_by_one B O)
  apart_all [] t g n = tt
  apart_all (u ∷ O) t g n =
      all_append (λ p. is_txn_group p (at t g) ≡ false) (all_groups B u) (one_by_one B O) (apart_groups u t (orders (proc u)) g (λ e. n (inl (sym e)))) (apart_all O t g (λ h. n (inr h)))

  abbrev pub Found : serial.Stage → List TxnId → TxnId → Type 0
  Found S order t =
      (store : Store)
      × (reply_in t (whole.serial_answers plan.program S.store (map asked order)) ≡ Some (whole.run_of plan.program store (asked t)).reply)
      × ((g : ℕ) → g < length (groups_of plan (proc t))
      → ((serial.after_groups B S (one_by_one B order)).yielded (at t g)).outs ≡ map (λ k. slice_index_or (whole.run_of plan.program store (asked t)).reply k (pos 0)) (outs_of plan (proc t) g))

  abbrev pub AreDone : Type 0
  AreDone =
      (u : TxnId) (s : Store)
      → DoAs plan (proc u) (whole_run (procedure_of plan (proc u)) (args u) s) (turn.after_turns plan (proc u) (args u) (record { store = s; given = [] }) (orders (proc u)))

  found : AreDone → AreOrders plan orders → (order : List TxnId) (S : serial.Stage) (t : TxnId) → NoneTwice is_txn order
      → ((u : TxnId) → IsListed is_txn order u → (asked u).id ≡ u) → IsListed is_txn order t → Found S order t
  found does turns [] S t once ids l = absurd (omega (arith, l))
  found does turns (u ∷ O) S t once ids l =
      elim (listed_cases is_txn u O t l) [
        | inl e ↦ subst (λ x. Found S (u ∷ O) x) (sym (is_txn-true t u e)) here
        | inr p ↦ later p.0 (found does turns O (serial.after_groups B S (all_groups B u)) t once.1 (λ v m. ids v (listed_tail is_txn u O v m)) p.1)
      ]
    where
      own : (asked u).id ≡ u
      own = ids u (listed_head is_txn u O (is_txn-same u))

      here : Found S (u ∷ O) u
      here = (
        S.store,
        cond-true (is_txn (asked u).id u) _ _ (subst (λ x. is_txn x u ≡ true) (sym own) (is_txn-same u)),
        λ g m.
            ap (λ (s : serial.Stage). (s.yielded (at u g)).outs) (after_more S (all_groups B u) (one_by_one B O))
            ∙ ap (λ (y : Yield). y.outs) (kept (one_by_one B O) (serial.after_groups B S (all_groups B u)) (at u g) (apart_all O u g (λ h. once.0 (listed.has_listed is_txn is_txn-true is_txn-same O u h))))
            ∙ (whole_turn u S (turns (proc u)) (does u S.store)).1 g m,
      )

      later : is_txn t u ≡ false → Found (serial.after_groups B S (all_groups B u)) O t → Found S (u ∷ O) t
      later e f = (
        f.0,
        cond-false (is_txn (asked u).id t) _ _ (false_from_ne_true (is_txn (asked u).id t) (λ h. false≢true (sym e ∙ subst (λ x. is_txn t x ≡ true) (sym (is_txn-true (asked u).id t h) ∙ own) (is_txn-same t))))
            ∙ ap (λ s. reply_in t (whole.serial_answers plan.program s (map asked O))) (sym (whole_turn u S (turns (proc u)) (does u S.store)).0)
            ∙ f.1,
        λ g m. ap (λ (s : serial.Stage). (s.yielded (at t g)).outs) (after_more S (all_groups B u) (one_by_one B O)) ∙ f.2 g m,
      )

  -- and they leave what the whole runs leave
  pub whole_stores : AreDone → AreOrders plan orders → (order : List TxnId) (S : serial.Stage) → (serial.after_groups B S (one_by_one B order)).store ≡ whole.serial_store plan.program S.store (map asked order)
  whole_stores does turns [] S = refl
  whole_stores does turns (t ∷ O) S =
      ap (λ (s : serial.Stage). s.store) (after_more S (all_groups B t) (one_by_one B O))
      ∙ (whole_stores does turns O (serial.after_groups B S (all_groups B t))
      ∙ ap (λ s. whole.serial_store plan.program s (map asked O)) (whole_turn t S (turns (proc t)) (does t S.store)).0)

  zipped : (f : ℕ → ℤ) (ks : List ℕ) (k : ℕ) (v : ℤ) → Has (k, v) (zip ks (map f ks)) → f k ≡ v
  zipped f [] k v h = absurd h
  zipped f (x ∷ ks) k v (inl e) = ap (λ (p : ℕ × ℤ). f p.0) e ∙ ap (λ (p : ℕ × ℤ). p.1) (sym e)
  zipped f (x ∷ ks) k v (inr h) = zipped f ks k v h

  -- a whole run gives as many values as the places of the groups are
  abbrev pub AreCounted : Type 0
  AreCounted =
      (t : TxnId) (store : Store)
      → length (whole.run_of plan.program store (asked t)).reply ≡ length (flat_map (outs_of plan (asked t).procedure) (range_with_len 0 (length (groups_of plan (asked t).procedure))))

  pub whole_reply : (start : Store) → AreDone → AreOrders plan orders → AreCounted → (order : List TxnId) → NoneTwice is_txn order
      → ((u : TxnId) → IsListed is_txn order u → (asked u).id ≡ u) → (t : TxnId) → IsListed is_txn order t
      → (reply : List ℤ) × IsWholeReplyFrom plan start asked (scheme_of plan orders asked) order t reply
  whole_reply start does turns counted order once ids t l =
      let f = found does turns order (serial.first_stage start) t once ids l in (
        (whole.run_of plan.program f.0 (asked t)).reply,
        record {
          is = f.1;
          count = counted t f.0;
          given = λ g k v m h.
              zipped (λ i. slice_index_or (whole.run_of plan.program f.0 (asked t)).reply i (pos 0)) (outs_of plan (proc t) g) k v
              (subst (λ ys. Has (k, v) (zip (outs_of plan (proc t) g) ys)) (f.2 g m) h);
        },
      )
