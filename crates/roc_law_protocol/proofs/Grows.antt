-- What messages and states say of the log stays so as the log grows
use Rattle.std.proofs.Common.{◌≡◌, ℕ, ℤ, ◌<◌, Bool, true, not, ◌&&◌, ◌==◌, List, [], ◌∷◌, ◌++◌, length, refl, sym, ap, subst, ◌∙◌, arith, inl, inr}
use Rattle.std.specs.Prelude.{filter, flat_map, zip}
use Rattle.std.specs.List.{AllByRecursion, range_with_len}
use Rattle.std.proofs.lemmas.Bool.{and_parts, not-true, eqb-true}
use Rattle.roc_sequence.specs.Lists.{Has}
use Rattle.roc_sequence.specs.Places.{IsListed, IsListedBefore}
use Rattle.roc_sequence.proofs.Holds.{all_weaker, all_has}
use Rattle.roc_sequence.proofs.Ranges.{range_below}
use Rattle.roc_coord.specs.State.{was_asked, CoordState}
use Rattle.roc_sequence.proofs.Appended.{listed_front}
use Rattle.roc_sequence.proofs.Members.{from_has_filter}
use Rattle.roc_base.specs.declared.id.TxnId.{TxnId}
use Rattle.roc_base.specs.declared.node.Node.{Node}
use Rattle.roc_base.specs.declared.node.Node.TheVariants.{Server, Coord}
use Rattle.roc_base.specs.TxnId.{is_txn}
use Rattle.roc_base.specs.Edge.{Dependency}
use Rattle.roc_depgraph.specs.declared.known.KnownList.{KnownList}
use Rattle.roc_depgraph.proofs.Chains.{weaker_chain}
use Rattle.roc_component.specs.Components.{Mates}
use Rattle.roc_msg.specs.declared.msg.Msg.{Msg}
use Rattle.roc_msg.specs.declared.msg.Msg.TheVariants.{Start, StartOk, Commit, CommitOk, Fetch, Known, Ended, Settled}
use Rattle.roc_plan.specs.Groups.{Plan, groups_of, inputs_of, outs_of}
use Rattle.roc_whole.specs.Serial as whole
use Rattle.roc_law_orders.specs.Behaviour.{TxnGroup, is_txn_group, is_group_number}
use Rattle.roc_law_orders.specs.Runs.{needs}
use Rattle.roc_law_log.specs.Scheme.{Scheme}
use Rattle.roc_law_log.specs.Log.{Log, PrecedesTxn, IsWhole, IsDecidedThroughout}
use Rattle.roc_law_log.specs.Settled.{IsSettled}
use Rattle.roc_law_log.specs.Invariants.{LogInvariants, LogGrows}
use Rattle.roc_law_log.proofs.Settled.{same_mates, settled_later}
use Rattle.roc_step.specs.State.{ServerState}
use Rattle.roc_step.specs.declared.started.StartedGroup.{StartedGroup}
use Rattle.roc_coord.specs.declared.transaction.Transaction.{Transaction}
use Rattle.roc_law_protocol.specs.Beginnings.{Beginning}
use Rattle.roc_law_protocol.specs.PlanAssumptions.{picked, IsSchemeOf}
use Rattle.roc_law_protocol.proofs.Means.{IsPast, run_of, entry_run, place, Ran, Began, stage, values_for, EdgesMean, IsSeen, ListMeans, AllMean, ToldMeans, StartMeans, HasBegun, IsBegunAt, waits_at, outs_at, DoneMeans, StartIs, Means, EntryMeans, TxnMeans, CoordMeans, IsGiven, AnswerMeans, IsForgotten, AreTakenHere, ServerMeans}
use Rattle.roc_law_protocol.proofs.Followed.{AreFollowedOf, followed_later}

pub flat_map_same : {A B : Type 0} (f g : A → List B) (xs : List A) → ((x : A) → Has x xs → f x ≡ g x) → flat_map f xs ≡ flat_map g xs
flat_map_same f g [] h = refl
flat_map_same f g (x ∷ xs) h = rw (h x (inl refl)) (ap (λ ys. g x ++ ys) (flat_map_same f g xs (λ y k. h y (inr k))))

pub filter_same : {A : Type 0} (p q : A → Bool) (xs : List A) → ((x : A) → Has x xs → p x ≡ q x) → filter p xs ≡ filter q xs
filter_same p q [] h = refl
filter_same p q (x ∷ xs) h = rw (h x (inl refl), filter_same p q xs (λ y k. h y (inr k))) refl

module _ (plan : Plan) (asked : TxnId → whole.Call) (S : Scheme) (start : Beginning) (is : IsSchemeOf plan asked S) (c d : Log) (i : LogInvariants S start.store c) (j : LogInvariants S start.store d) (g : LogGrows S start.store c d) where
  pub began_grows : (r : TxnGroup) → Began plan asked S start c r → Began plan asked S start d r
  began_grows r h = subst (λ l. IsListed is_txn_group l r) (sym g.started.1) (listed_front is_txn_group c.past.started g.started.0 r h)

  pub ran_grows : (r : TxnGroup) → Ran plan asked S start c r → Ran plan asked S start d r
  ran_grows r h = subst (λ l. IsListed is_txn_group l r) (sym g.ran.1) (listed_front is_txn_group c.past.ran g.ran.0 r h)

  pub decided_grows : (s : ℕ) (t : TxnId) → IsListed is_txn (c.decided s) t → IsListed is_txn (d.decided s) t
  decided_grows s t h = subst (λ l. IsListed is_txn l t) (sym (g.decided s).1) (listed_front is_txn (c.decided s) (g.decided s).0 t h)

  pub order_grows : (t : TxnId) → IsListed is_txn c.order t → IsListed is_txn d.order t
  order_grows t h = subst (λ l. IsListed is_txn l t) (sym g.order.1) (listed_front is_txn c.order g.order.0 t h)

  -- mates stay mates
  edge_grows : (u t : TxnId) → PrecedesTxn S start.store c.past u t → PrecedesTxn S start.store d.past u t
  edge_grows u t p = record { second = p.second; of_second = p.of_second; by = (g.precedes u p.second p.by.began).0 p.by }

  pub mates_grow : (a b : TxnId) → Mates (PrecedesTxn S start.store c.past) a b → Mates (PrecedesTxn S start.store d.past) a b
  mates_grow a b (inl e) = inl e
  mates_grow a b (inr p) =
      let grown = weaker_chain (PrecedesTxn S start.store c.past) (PrecedesTxn S start.store d.past) edge_grows in
      inr (grown a b p.0, grown b a p.1)

  -- components of what was decided do not grow, and what is settled stays so
  pub mates_back : (t u : TxnId) → IsListed is_txn c.order t → Mates (PrecedesTxn S start.store d.past) t u → Mates (PrecedesTxn S start.store c.past) t u
  mates_back t u h m = (same_mates S start.store c i d j g t u h).1 m

  pub settled_grows : (t : TxnId) → IsSettled S start.store c t → IsSettled S start.store d t
  settled_grows t z = settled_later S start.store c i d j g t z

  pub forgotten_grows : (s : ServerState) (t : TxnId) → IsForgotten plan asked S start c s t → IsForgotten plan asked S start d s t
  forgotten_grows s t f = record { gone = f.gone; settled = settled_grows t f.settled }

  pub links_grow : (known links : List KnownList) → AreFollowedOf (IsSettled S start.store c) known links → AreFollowedOf (IsSettled S start.store d) known links
  links_grow known links are = followed_later (IsSettled S start.store c) (IsSettled S start.store d) settled_grows known links are

  -- the shard decides nothing
  pub taken_grows : (shard : ℕ) (s : ServerState) → ServerMeans plan asked S start c shard s → d.decided shard ≡ c.decided shard → AreTakenHere plan asked S start d shard s
  taken_grows shard s o same =
      record {
        decided = o.taken.decided;
        all = o.taken.all;
        one = o.taken.one;
        mates = λ k t u h x y. mates_grow t u (o.taken.mates k t u h x y);
        whole = λ k t u h x m. elim (o.taken.whole k t u h x (mates_back t u (i.in_order shard t (o.back t (o.taken.decided k t h x))) m)) [ inl y ↦ inl y | inr z ↦ inr (settled_grows t z) ];
        order = λ t u h k b. subst (λ l. IsListedBefore is_txn l t u) (sym same) (o.taken.order t u h k b);
      }

  pub place_needs : (r : TxnGroup) → AllByRecursion (Ran plan asked S start c) (needs S.behaviour r) → place plan asked S start d r ≡ place plan asked S start c r
  place_needs r h = ap (S.group_shard r) (g.inputs r h)

  pub place_grows : (r : TxnGroup) → Began plan asked S start c r → place plan asked S start d r ≡ place plan asked S start c r
  place_grows r h = place_needs r (i.needs_ran r h)

  pub values_grow : (r : TxnGroup) → AllByRecursion (Ran plan asked S start c) (needs S.behaviour r) → values_for plan asked S start d r ≡ values_for plan asked S start c r
  values_grow r h = ap (picked (inputs_of plan (asked r.txn).procedure r.group)) (g.inputs r h)

  pub edges_grow : (r : TxnGroup) (es : List Dependency) → Began plan asked S start c r → EdgesMean plan asked S start c r es → EdgesMean plan asked S start d r es
  edges_grow r es h o =
      record {
        sound = λ e k. let p = o.sound e k in ((g.precedes e.from r h).0 p.0, p.1, p.2, p.3 ∙ sym (place_grows r h));
        complete = λ u p. o.complete u ((g.precedes u r h).1 p);
      }

  whole_grows : (t : TxnId) → IsWhole S c.past.started t → IsWhole S d.past.started t
  whole_grows t h k l = began_grows (run_of t k) (h k l)

  seen_grows : (t : TxnId) (e : Dependency) → IsSeen plan asked S start c t e → IsSeen plan asked S start d t e
  seen_grows t e s =
      record {
        placed = (s.placed.0, s.placed.1, (g.precedes e.from s.placed.0 s.placed.2.began).0 s.placed.2, s.placed.3 ∙ sym (place_grows s.placed.0 s.placed.2.began));
        by_now = λ k. let p = s.by_now k in (p.0, p.1, (g.precedes e.from p.0 p.2.began).0 p.2, p.3);
      }

  pub list_grows : (t : TxnId) (es : List Dependency) → ListMeans plan asked S start c t es → ListMeans plan asked S start d t es
  list_grows t es o =
      record {
        is_whole = whole_grows t o.is_whole;
        sound = λ e k. seen_grows t e (o.sound e k);
        complete = λ u r e p.
            let h : Began plan asked S start c r = subst (λ t. IsListed is_group_number (S.behaviour.groups t) r.group → Began plan asked S start c (run_of t r.group)) (sym e) (o.is_whole r.group) (j.are_groups r p.began) in
            o.complete u r e ((g.precedes u r h).1 p);
      }

  pub all_grow : (ks : List KnownList) → AllMean plan asked S start c ks → AllMean plan asked S start d ks
  all_grow ks h k m = list_grows k.of k.edges (h k m)

  pub told_grows : (r : TxnGroup) (bound outs : List ℤ) (es : List Dependency) (fs : List KnownList) → ToldMeans plan asked S start c r bound outs es fs → ToldMeans plan asked S start d r bound outs es fs
  told_grows r bound outs es fs o =
      record {
        began = began_grows r o.began;
        bound_now = λ e. o.bound_now e ∙ ap (λ y. y.bound) (sym (g.yielded r (i.now_ran r o.began e)));
        outs_now = λ e. o.outs_now e ∙ ap (λ y. y.outs) (sym (g.yielded r (i.now_ran r o.began e)));
        bound_later = o.bound_later;
        outs_later = o.outs_later;
        edges = edges_grow r es o.began o.edges;
        facts = all_grow fs o.facts;
      }

  pub start_grows : (r : TxnGroup) (s : ℕ) → StartMeans plan asked S start c r s → StartMeans plan asked S start d r s
  start_grows r s o =
      record {
        listed = o.listed;
        needs_ran = all_weaker (Ran plan asked S start c) (Ran plan asked S start d) ran_grows (needs S.behaviour r) o.needs_ran;
        on = place_needs r o.needs_ran ∙ o.on;
      }

  pub begun_grows : (t : TxnId) (s : ℕ) → HasBegun plan asked S start c t s → HasBegun plan asked S start d t s
  begun_grows t s o = record { group = o.group; began = began_grows (run_of t o.group) o.began; on = place_grows (run_of t o.group) o.began ∙ o.on }

  begun_at_grows : (t : TxnId) (to : Node) → IsBegunAt plan asked S start c t to → IsBegunAt plan asked S start d t to
  begun_at_grows t (Server shard) o = begun_grows t shard.0 o
  begun_at_grows t (Coord number) o = o

  pub outs_grow : (t : TxnId) (s : ℕ) → IsListed is_txn (c.decided s) t → outs_at plan asked S start d s t ≡ outs_at plan asked S start c s t
  outs_grow t s h =
      let below = range_with_len 0 (length (groups_of plan (asked t).procedure)) in
      ap (flat_map (λ k. ((stage plan asked S start d).yielded (run_of t k)).outs)) (filter_same (waits_at plan asked S start d s t) (waits_at plan asked S start c s t) below (λ k m. ap (λ p. not (S.is_immediate (run_of t k)) && (p == s)) (place_grows (run_of t k) (began k m))))
      ∙ flat_map_same (λ k. ((stage plan asked S start d).yielded (run_of t k)).outs) (λ k. ((stage plan asked S start c).yielded (run_of t k)).outs) (filter (waits_at plan asked S start c s t) below)
      (λ k m.
      let f = from_has_filter (waits_at plan asked S start c s t) k below m in
      let p = and_parts (not (S.is_immediate (run_of t k))) (place plan asked S start c (run_of t k) == s) f.1 in
      let on = eqb-true (place plan asked S start c (run_of t k)) s p.1 in
      ap (λ y. y.outs) (g.yielded (run_of t k) (i.later_ran (run_of t k) (began k f.0) (not-true (S.is_immediate (run_of t k)) p.0) (subst (λ s. IsListed is_txn (c.decided s) t) (sym on) h))))
    where
      began : (k : ℕ) → Has k (range_with_len 0 (length (groups_of plan (asked t).procedure))) → Began plan asked S start c (run_of t k)
      began k m = i.whole t (i.in_order s t h) k ((is.groups t k).1 (below k m))
        where
          below : (k : ℕ) → Has k (range_with_len 0 (length (groups_of plan (asked t).procedure))) → k < length (groups_of plan (asked t).procedure)
          below k m = all_has (λ k. k < length (groups_of plan (asked t).procedure)) k (range_with_len 0 (length (groups_of plan (asked t).procedure))) (range_below 0 (length (groups_of plan (asked t).procedure)) (length (groups_of plan (asked t).procedure)) (omega arith)) m

  pub done_grows : (t : TxnId) (s : ℕ) (outs : List ℤ) → DoneMeans plan asked S start c t s outs → DoneMeans plan asked S start d t s outs
  done_grows t s outs o = record { decided = decided_grows s t o.decided; is = o.is ∙ sym (outs_grow t s o.decided) }

  pub start_is_grows : (id : TxnId) (proc group : ℕ) (args inputs : List ℤ) (to : Node) → StartIs plan asked S start c id proc group args inputs to → StartIs plan asked S start d id proc group args inputs to
  start_is_grows id proc group args inputs to o =
      let r = run_of id group in
      let same = place_needs r o.means.needs_ran in
      let m = start_grows r (place plan asked S start c r) o.means in
      record {
        proc = o.proc;
        args = o.args;
        inputs = o.inputs ∙ sym (values_grow r o.means.needs_ran);
        means = record { listed = m.listed; needs_ran = m.needs_ran; on = refl };
        to = o.to ∙ ap (λ (n : ℕ). Server (record { 0 = n })) (sym same);
      }

  pub answered_grows : (t : TxnId) → IsListed is_txn c.answered t → IsListed is_txn d.answered t
  answered_grows t h = subst (λ l. IsListed is_txn l t) (sym g.answered.1) (listed_front is_txn c.answered g.answered.0 t h)

  pub past_grows : (t : TxnId) → IsPast plan asked S start c t → IsPast plan asked S start d t
  past_grows t h = elim h [ inl k ↦ inl (answered_grows t k) | inr k ↦ inr k ]

  pub means_grow : (m : Msg) (to : Node) → Means plan asked S start c m to → Means plan asked S start d m to
  means_grow (Start id proc group args inputs) to o = start_is_grows id proc group args inputs to o
  means_grow (StartOk id group shard bound outs edges facts) to o = (told_grows (run_of id group) bound outs edges facts o.0, o.1 ∙ sym (place_grows (run_of id group) o.0.began), o.2)
  means_grow (Commit id edges facts) to o = (all_grow (record { of = id; edges = edges } ∷ facts) o.0, begun_at_grows id to o.1)
  means_grow (CommitOk id shard outs) to o = (done_grows id shard.0 outs o.0, o.1)
  means_grow (Fetch id asker) to o = begun_at_grows id to o
  means_grow (Known id edges) to o = (list_grows id edges o.0, o.1)
  means_grow (Ended coord mark) to o = (λ q h. past_grows (record { coord = coord; seq = q }) (o.0 q h), o.1)
  means_grow (Settled id mark) to o = (settled_grows id o.0, λ q h. past_grows (record { coord = id.coord; seq = q }) (o.1 q h), o.2)
  means_grow msg to o = o

  pub entry_grows : (s : ℕ) (e : StartedGroup) → EntryMeans plan asked S start c s e → EntryMeans plan asked S start d s e
  entry_grows s e o =
      let r = entry_run e in
      record {
        on = place_grows r o.told.began ∙ o.on;
        proc = o.proc;
        args = o.args;
        inputs = o.inputs ∙ sym (values_grow r (i.needs_ran r o.told.began));
        cells = o.cells ∙ sym (g.uses r o.told.began);
        told = told_grows r e.bound e.outs e.edges e.facts o.told;
      }

  pub txn_grows : (x : Transaction) → TxnMeans plan asked S start c x → TxnMeans plan asked S start d x
  txn_grows x o =
      record {
        proc = o.proc;
        args = o.args;
        startoks = λ ok h. told_grows (run_of x.id ok.group) ok.bound ok.outs ok.edges ok.facts (o.startoks ok h);
        starts = λ k s h. start_grows (run_of x.id k) s.0 (o.starts k s h);
        ready = o.ready;
        told = λ ok h. subst (λ p. was x ok.group p ≡ true) (sym (place_grows (run_of x.id ok.group) (o.startoks ok h).began)) (o.told ok h);
        asked_whole = o.asked_whole;
        commitoks = λ s outs h. done_grows x.id s.0 outs (o.commitoks s outs h);
      }
    where
      was : Transaction → ℕ → ℕ → Bool
      was x k p = was_asked x k (record { 0 = p })

  pub coord_grows : (s : CoordState) → CoordMeans plan asked S start c s → CoordMeans plan asked S start d s
  coord_grows s o =
      record {
        pending = λ x h. txn_grows x (o.pending x h);
        unanswered = o.unanswered;
        views = o.views;
        all = λ q l. elim (o.all q l) [ inl p ↦ inl p | inr k ↦ inr (past_grows (record { coord = s.number; seq = q }) k) ];
        onward = o.onward;
      }

  throughout_grows : (t : TxnId) → IsDecidedThroughout S start.store c t → IsDecidedThroughout S start.store d t
  throughout_grows t o =
      record {
        in_order = order_grows t o.in_order;
        everywhere = λ k l.
            (let r = run_of t k in
            let at = place plan asked S start c r in
            subst (λ s. IsListed is_txn (d.decided s) t) (sym (place_grows r (i.whole t o.in_order k l))) (decided_grows at t (o.everywhere k l)));
      }

  pub answer_grows : (t : TxnId) (reply : List ℤ) → AnswerMeans plan asked S start c t reply → AnswerMeans plan asked S start d t reply
  answer_grows t reply o =
      record {
        throughout = throughout_grows t o.throughout;
        count = o.count;
        given = λ at h. given at (o.given at h);
      }
    where
      given : (at : ℕ) {v : ℤ} → IsGiven plan asked S start c t at v → IsGiven plan asked S start d t at v
      given at {v = v} k =
          record {
            group = k.group;
            ran = ran_grows (run_of t k.group) k.ran;
            gave = subst (λ y. Has (at, v) (zip (outs_of plan (asked t).procedure k.group) y)) (ap (λ y. y.outs) (sym (g.yielded (run_of t k.group) k.ran))) k.gave;
          }
