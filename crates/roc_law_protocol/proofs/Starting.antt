-- A new group starts on a shard
use Rattle.std.proofs.Common.{◌≡◌, ◌≢◌, ℕ, ℤ, pos, ◌==◌, Bool, true, false, not, cond, ◌&&◌, ◌||◌, List, [], ◌∷◌, ◌++◌, Some, None, map, refl, sym, ap, subst, ◌∙◌, arith, ◌⊎◌, inl, inr, append-nil}
use Rattle.std.proofs.lemmas.Bool.{false≢true, false_from_ne_true, and_parts, and_from, eq-eqb, cond-true, cond-false, not-true, not_from_false}
use Rattle.std.specs.Prelude.{if◌then◌else◌, filter, flat_map}
use Rattle.roc_sequence.specs.Lists.{Has}
use Rattle.roc_sequence.specs.Places.{place_of, IsListed, IsListedBefore, is_listed}
use Rattle.roc_sequence.proofs.Members.{has_append, has_one, has_map, from_has_map, has_filter, from_has_filter}
use Rattle.roc_sequence.proofs.Holds.{all_has, has_all}
use Rattle.roc_sequence.proofs.Found.{found_has}
use Rattle.roc_sequence.proofs.Places.{listed_false, unlisted_test, listed_by_before}
use Rattle.roc_sequence.proofs.Listed.{listed_one, in_one}
use Rattle.roc_sequence.proofs.Appended.{listed_behind, listed_either, before_new}
use Rattle.roc_base.specs.declared.id.TxnId.{TxnId}
use Rattle.roc_base.specs.declared.node.Node.{Node}
use Rattle.roc_base.specs.declared.node.Node.TheVariants.{Server, Coord}
use Rattle.roc_base.specs.TxnId.{is_txn}
use Rattle.roc_base.specs.Equalities.{is_txn-same}
use Rattle.roc_base.proofs.Ids.{is_txn-false, is_txn-ne}
use Rattle.roc_base.specs.Edge.{Dependency, joined}
use Rattle.roc_base.specs.Equality.{same_tag}
use Rattle.roc_base.proofs.Union.{AllByRecursion-united}
use Rattle.roc_base.proofs.Members.{has-united}
use Rattle.roc_rows.specs.declared.cell.Cell.{Cell}
use Rattle.roc_rows.specs.Store.{Store, read}
use Rattle.roc_depgraph.specs.Deps.{IsKnown, IsDecided}
use Rattle.roc_plan.specs.Groups.{Plan, is_immediate_of}
use Rattle.roc_whole.specs.Serial as whole
use Rattle.roc_group.specs.Accesses.{do_conflict}
use Rattle.roc_group.specs.GroupRun.{GroupCall, call, group_run, bound_by_run}
use Rattle.roc_law_orders.specs.Behaviour.{TxnGroup, is_txn_group, Meet, Yield}
use Rattle.roc_law_orders.specs.Runs.{Stage, inputs_at, stage_behind, stage_before, uses_at, uses_in, after_group, after_groups, groups_before, Conflict}
use Rattle.roc_law_orders.proofs.SameGroups.{same_group, is_group-same}
use Rattle.roc_law_orders.proofs.Places.{before_past, before_itself}
use Rattle.roc_law_log.specs.Scheme.{Scheme}
use Rattle.roc_law_log.specs.Log.{Log}
use Rattle.roc_law_log.specs.Steps.{MayStart, with_start, IsReachedLog, LogStep, group_starts, no_steps, one_step_more}
use Rattle.roc_law_log.specs.Settled.{IsSettled}
use Rattle.roc_law_log.specs.Invariants.{LogInvariants, LogGrows}
use Rattle.roc_step.specs.declared.started.StartedGroup.{StartedGroup}
use Rattle.roc_step.specs.State.{is_group, is_here, find_group, unrun, ServerState}
use Rattle.roc_step.specs.Start.{is_immediate_group, is_predecessor, edge_to, new_group, start_new}
use Rattle.roc_law_protocol.specs.PlanAssumptions.{called, use_of, IsSchemeOf}
use Rattle.roc_law_protocol.specs.Beginnings.{Beginning}
use Rattle.roc_law_protocol.specs.Inner.Given.{LogLaws}
use Rattle.roc_law_protocol.proofs.Means.{run_of, entry_run, place, Precedes, Ran, Began, stage, EdgesMean, ListMeans, ToldMeans, StartIs, EntryMeans, ServerMeans}
use Rattle.roc_law_protocol.proofs.Gone.{IsGone, gone_begins}
use Rattle.roc_law_protocol.proofs.Followed.{known_alike}
use Rattle.roc_law_protocol.proofs.OneGroupMore.{find_front, find_last, here_now, here_more, here_cases}
use Rattle.roc_law_protocol.proofs.Flattened.{flat, before_unlisted}
use Rattle.roc_law_protocol.proofs.SaidOfServers.{found_run, group_decided, found_or_decided, taken_decided}
use Rattle.roc_law_protocol.proofs.Grows.{mates_grow, settled_grows, links_grow, taken_grows, begun_grows, place_grows, values_grow, entry_grows, list_grows, all_grow, past_grows}
use Rattle.roc_law_protocol.proofs.Meets.{same_class, meet_of, of_meet}
use Rattle.roc_law_protocol.proofs.Facts.{facts_known}
use Rattle.roc_law_protocol.proofs.Local.{after_append, call_is, run_cells, run_elsewhere, run_bound, run_outs, run_uses}
use Rattle.roc_law_protocol.proofs.Elsewhere.{IsQuietOn}

abbrev pub shard_number : Node → ℕ
shard_number (Server s) = s.0
shard_number (Coord n) = 0

module _ (plan : Plan) (asked : TxnId → whole.Call) (S : Scheme) (start : Beginning) (is : IsSchemeOf plan asked S) (laws : LogLaws S start.store) (c : Log) (reached : IsReachedLog S start.store c) (n : ℕ) (s : ServerState) (o : ServerMeans plan asked S start c n s) where
  module _ (id : TxnId) (proc group : ℕ) (args inputs : List ℤ) (m : StartIs plan asked S start c id proc group args inputs (Server (record { 0 = n }))) (none : find_group id group s.started ≡ None) (kept : ¬ IsGone s id) (left_out ids : List TxnId) (left : (t : TxnId) → IsListed is_txn left_out t → IsDecided s.lists.links t) (left_all : (t : TxnId) → IsDecided s.lists.links t → IsListed is_txn left_out t) (led : (u : TxnId) → IsListed is_txn ids u → IsKnown s.lists.links u) where
    abbrev r : TxnGroup
    r = run_of id group

    abbrev X : Stage
    X = stage plan asked S start c

    abbrev this : GroupCall
    this = call proc group args inputs

    abbrev entry : StartedGroup
    entry = new_group plan left_out ids s id this

    pub i : LogInvariants S start.store c
    i = laws.holds c reached

    pub on : place plan asked S start c r ≡ n
    on = ap shard_number (sym m.to)

    pub new : ¬ Began plan asked S start c r
    new h = elim (o.groups.finds r h on) [ inl f ↦ go f | inr gone ↦ kept gone ]
      where
        go : (e : StartedGroup) × (find_group id group s.started ≡ Some e) → ⊥
        go f = let a = f.1 in let b = none in cc

    -- in the log it leaves out all that the shard ever decided: what is forgotten too
    abbrev pub out : List TxnId
    out = c.decided n

    pub may : MayStart S start.store c r out
    may =
        record {
          new = new;
          listed = m.means.listed;
          needs_ran = m.means.needs_ran;
          out_decided = λ t h. subst (λ s. IsListed is_txn (c.decided s) t) (sym on) h;
        }

    abbrev pub d : Log
    d = with_start S c r out

    pub step : LogStep S start.store c d
    step = group_starts r out may

    pub reached_after : IsReachedLog S start.store d
    reached_after = one_step_more reached step

    pub j : LogInvariants S start.store d
    j = laws.holds d reached_after

    pub g : LogGrows S start.store c d
    g = laws.grows c d i (one_step_more no_steps step)

    abbrev now : List TxnGroup
    now = cond (S.is_immediate r) (r ∷ []) []

    abbrev Y : Stage
    Y = stage plan asked S start d

    not_ran : ¬ Ran plan asked S start c r
    not_ran h = new (i.ran_started r h)

    Y_is : Y ≡ after_groups S.behaviour X now
    Y_is = after_append S.behaviour _ c.past.ran now

    none_before : groups_before r now ≡ []
    none_before = go (S.is_immediate r)
      where
        go : (b : Bool) → groups_before r (cond b (r ∷ []) []) ≡ []
        go true = before_itself [] r
        go false = refl

    found_start : stage_before S.behaviour start.store d.past.ran r ≡ X
    found_start = ap (stage_behind S.behaviour start.store) (before_past c.past.ran now r not_ran ∙ (ap (λ l. c.past.ran ++ l) none_before ∙ append-nil c.past.ran))

    is_called : this ≡ called plan asked r (inputs_at S.behaviour X r)
    is_called = call_is plan asked S start is laws proc group args inputs id (inputs_at S.behaviour X r) m.proc m.args m.inputs

    cells_start : map use_of entry.cells ≡ uses_in S.behaviour start.store d.past.ran r
    cells_start = run_uses plan asked S start is laws n X r this s.store is_called on o.part.cells ∙ ap (λ (Z : Stage). uses_at S.behaviour Z r) (sym found_start)

    abbrev I : Bool
    I = is_immediate_group plan this

    imm_is : S.is_immediate r ≡ I
    imm_is = is.immediate r ∙ ap (λ p. is_immediate_of plan p group) (sym m.proc)

    pub in_new : Began plan asked S start d r
    in_new = listed_behind is_txn_group c.past.started (r ∷ []) r (in_one is_txn_group same_group is_group-same r)

    pub begun_cases : (q : TxnGroup) → Began plan asked S start d q → Began plan asked S start c q ⊎ (q ≡ r)
    begun_cases q h = elim (listed_either is_txn_group c.past.started (r ∷ []) q h) [ inl k ↦ inl k | inr k ↦ inr (listed_one is_txn_group same_group is_group-same r q k.1) ]

    ran_cases : (q : TxnGroup) → Ran plan asked S start d q → Ran plan asked S start c q ⊎ ((q ≡ r) × (S.is_immediate r ≡ true))
    ran_cases q h = elim (listed_either is_txn_group c.past.ran now q h) [ inl k ↦ inl k | inr k ↦ inr (go (S.is_immediate r) refl k.1) ]
      where
        go : (b : Bool) → S.is_immediate r ≡ b → IsListed is_txn_group (cond b (r ∷ []) []) q → (q ≡ r) × (S.is_immediate r ≡ true)
        go true e k = (listed_one is_txn_group same_group is_group-same r q k, e)
        go false e k = absurd (omega arith)

    out_new : d.past.left_out r ≡ out
    out_new = cond-true (is_txn_group r r) out (c.past.left_out r) (is_group-same r)

    pub place_new : place plan asked S start d r ≡ n
    place_new = ap (S.group_shard r) (g.inputs r m.means.needs_ran) ∙ on

    conflict_of : (e : StartedGroup) → EntryMeans plan asked S start c n (unrun e) → Meet (map use_of e.cells) (map use_of entry.cells) → Conflict S.behaviour start.store d.past.ran (entry_run e) r
    conflict_of e k met =
        let a : map use_of e.cells ≡ uses_in S.behaviour start.store d.past.ran (entry_run e) = k.cells ∙ sym (g.uses (entry_run e) k.told.began) in
        subst (λ a. Meet a (uses_in S.behaviour start.store d.past.ran r)) a (subst (Meet (map use_of e.cells)) cells_start met)

    -- an entry is of a group that was met
    record IsMet (z : Dependency) : Type 0 where
      of : StartedGroup
      has : Has of (filter (is_predecessor plan left_out id this entry.cells) s.started)
      from : z.from ≡ of.id
      imm : z.imm ≡ I
      def : z.def ≡ not I
      at : z.at.0 ≡ n

    or_same : (a b x : Bool) → a ≡ x → b ≡ x → (a || b) ≡ x
    or_same true b x e f = e
    or_same false b x e f = f

    both_met : (a b : Dependency) → a.from ≡ b.from → IsMet a → IsMet b → IsMet (joined a b)
    both_met a b e p q = record { of = p.of; has = p.has; from = p.from; imm = or_same a.imm b.imm I p.imm q.imm; def = or_same a.def b.def (not I) p.def q.def; at = (let v = p.at in let y = q.at in omega arith) }

    abbrev raw : List Dependency
    raw = map (edge_to s.shard I) (filter (is_predecessor plan left_out id this entry.cells) s.started)

    are_met : (z : Dependency) → Has z entry.edges → IsMet z
    are_met z h = all_has IsMet z entry.edges (AllByRecursion-united IsMet both_met raw (has_all IsMet raw one)) h
      where
        one : (x : Dependency) → Has x raw → IsMet x
        one x h =
            let a = from_has_map (edge_to s.shard I) x (filter (is_predecessor plan left_out id this entry.cells) s.started) h in
            record { of = a.0; has = a.1; from = ap (λ (e : Dependency). e.from) a.2; imm = ap (λ (e : Dependency). e.imm) a.2; def = ap (λ (e : Dependency). e.def) a.2; at = ap (λ (e : Dependency). e.at.0) a.2 ∙ o.number }

    class_of : (e : StartedGroup) → EntryMeans plan asked S start c n (unrun e) → is_immediate_of plan e.proc e.group ≡ S.is_immediate (entry_run e)
    class_of e k = ap (λ p. is_immediate_of plan p e.group) k.proc ∙ sym (is.immediate (entry_run e))

    abbrev rest_test : StartedGroup → Bool
    rest_test e = same_tag (is_immediate_of plan e.proc e.group) I && do_conflict e.cells entry.cells

    edges_start : EdgesMean plan asked S start d r entry.edges
    edges_start =
        record {
          sound = λ z h.
              (let q = are_met z h in
              let b = from_has_filter (is_predecessor plan left_out id this entry.cells) q.of s.started q.has in
              let k = o.groups.entries q.of b.0 in
              let p0 = and_parts (not (is_txn q.of.id id)) (not (is_listed is_txn left_out q.of.id) && rest_test q.of) b.1 in
              let p1 = and_parts (not (is_listed is_txn left_out q.of.id)) (rest_test q.of) p0.1 in
              let p2 = and_parts (same_tag (is_immediate_of plan q.of.proc q.of.group) I) (do_conflict q.of.cells entry.cells) p1.1 in (
                record {
                  first = entry_run q.of;
                  of_first = sym q.from;
                  other = λ f. is_txn-false q.of.id id (not-true (is_txn q.of.id id) p0.0) (sym q.from ∙ f);
                  began = in_new;
                  before = before_new is_txn_group c.past.started (r ∷ []) (entry_run q.of) r k.told.began new;
                  conflict = conflict_of q.of k (meet_of q.of.cells entry.cells p2.1);
                  kept = λ y. listed_false is_txn left_out q.of.id (not-true (is_listed is_txn left_out q.of.id) p1.0) (left_all q.of.id (group_decided plan asked S start c n s o q.of b.0 (subst (IsListed is_txn out) q.from (subst (λ l. IsListed is_txn l z.from) out_new y))));
                },
                q.imm ∙ sym imm_is,
                q.def ∙ ap not (sym imm_is),
                q.at ∙ sym place_new,
              ));
          complete = λ u p.
              (let was = earlier p in
              let same_place : place plan asked S start c p.first ≡ n = sym (place_grows plan asked S start is c d i j g p.first was) ∙ (laws.one_shard d j p.first r p.conflict ∙ place_new) in
              let f = elim (found_or_decided plan asked S start c n s o p.first was same_place) as (λ z. (e : StartedGroup) × (find_group p.first.txn p.first.group s.started ≡ Some e)) [
                | inl f ↦ f
                | inr k ↦ absurd (p.kept (subst (λ l. IsListed is_txn l u) (sym out_new) (subst (IsListed is_txn out) p.of_first k)))
              ] in
              let e = f.0 in
              let found = found_has (is_group p.first.txn p.first.group) s.started e f.1 in
              let same : entry_run e ≡ p.first = found_run p.first e found.1 in
              let k = o.groups.entries e found.0 in
              let cells : uses_in S.behaviour start.store d.past.ran p.first ≡ map use_of e.cells = ap (uses_in S.behaviour start.store d.past.ran) (sym same) ∙ sym (k.cells ∙ sym (g.uses (entry_run e) k.told.began)) in
              let met = of_meet e.cells entry.cells (subst (λ a. Meet a (map use_of entry.cells)) cells (subst (Meet (uses_in S.behaviour start.store d.past.ran p.first)) (sym cells_start) p.conflict)) in
              let from : e.id ≡ u = ap (λ (q : TxnGroup). q.txn) same ∙ p.of_first in
              let apart : e.id ≢ id = λ f. p.other (sym from ∙ f) in
              let unlisted : ¬ IsListed is_txn left_out e.id = λ z. p.kept (subst (λ l. IsListed is_txn l u) (sym out_new) (subst (IsListed is_txn out) from (o.back e.id (left e.id z)))) in
              let class : is_immediate_of plan e.proc e.group ≡ I = class_of e k ∙ (ap S.is_immediate same ∙ (laws.one_class d j p.first r p.conflict ∙ imm_is)) in
              let passes =
              and_from (not (is_txn e.id id)) (not (is_listed is_txn left_out e.id) && rest_test e) (not_from_false (is_txn e.id id) (is_txn-ne e.id id apart))
              (and_from (not (is_listed is_txn left_out e.id)) (rest_test e) (not_from_false (is_listed is_txn left_out e.id) (unlisted_test is_txn left_out e.id unlisted))
              (and_from (same_tag (is_immediate_of plan e.proc e.group) I) (do_conflict e.cells entry.cells) (same_class (is_immediate_of plan e.proc e.group) I class) met)) in
              named e u from (has_filter (is_predecessor plan left_out id this entry.cells) e s.started found.0 passes));
        }
      where
        -- a group that was met is named by an entry
        named : (e : StartedGroup) (u : TxnId) → e.id ≡ u → Has e (filter (is_predecessor plan left_out id this entry.cells) s.started) → (z : Dependency) × Has z entry.edges × (z.from ≡ u)
        named e u from h = let y = has-united raw (edge_to s.shard I e) (has_map (edge_to s.shard I) e (filter (is_predecessor plan left_out id this entry.cells) s.started) h) in (y.0, y.1, y.2.from ∙ from)

        earlier : {u : TxnId} → (p : Precedes plan asked S start d u r) → Began plan asked S start c p.first
        earlier p = elim (begun_cases p.first (listed_by_before is_txn_group d.past.started p.first r p.before)) [
          | inl k ↦ k
          | inr k ↦ absurd (let z = ap (λ a. place_of (is_txn_group a) d.past.started) k in let b = p.before in omega arith)
        ]

    Y_now : S.is_immediate r ≡ true → Y ≡ after_group S.behaviour X r
    Y_now e = Y_is ∙ ap (λ b. after_groups S.behaviour X (cond b (r ∷ []) [])) e

    Y_later : S.is_immediate r ≡ false → Y ≡ X
    Y_later e = Y_is ∙ ap (λ b. after_groups S.behaviour X (cond b (r ∷ []) [])) e

    pub told_start : ToldMeans plan asked S start d r entry.bound entry.outs entry.edges entry.facts
    told_start =
        record {
          began = in_new;
          bound_now = λ e. cond-true I (bound_by_run plan this s.store) [] (sym imm_is ∙ e) ∙ run_bound plan asked S start is laws n X r this s.store is_called on o.part.cells ∙ ap (λ (Z : Stage). (Z.yielded r).bound) (sym (Y_now e));
          outs_now = λ e. cond-true I (group_run plan this s.store).reply [] (sym imm_is ∙ e) ∙ run_outs plan asked S start is laws n X r this s.store is_called on o.part.cells ∙ ap (λ (Z : Stage). (Z.yielded r).outs) (sym (Y_now e));
          bound_later = λ e. cond-false I (bound_by_run plan this s.store) [] (sym imm_is ∙ e);
          outs_later = λ e. cond-false I (group_run plan this s.store).reply [] (sym imm_is ∙ e);
          edges = edges_start;
          facts = λ f h.
              (let k = facts_known s.lists.known ids (λ u k. sym (known_alike (IsSettled S start.store c) s.lists.known s.lists.links o.links u) ∙ led u k) f h in
              subst (λ t. ListIs d t f.edges) k.2 (subst (ListIs d k.0.of) (sym k.3) (list_grows plan asked S start is c d i j g k.0.of k.0.edges (o.known k.0 k.1))));
        }
      where
        ListIs : Log → TxnId → List Dependency → Type 0
        ListIs d t es = ListMeans plan asked S start d t es

    pub server_start : ServerMeans plan asked S start d n (start_new plan s this entry).state
    server_start =
        record {
          number = o.number;
          groups = record {
            entries = λ e h. elim (has_append e s.started (entry ∷ []) h) [
              | inl k ↦ entry_grows plan asked S start is c d i j g n (unrun e) (o.groups.entries e k)
              | inr k ↦ subst (λ (e : StartedGroup). EntryMeans plan asked S start d n (unrun e)) (sym (has_one e entry k)) entry_start
            ];
            finds = λ q h p. elim (begun_cases q h) [
              | inl k ↦ elim (o.groups.finds q k (sym (place_grows plan asked S start is c d i j g q k) ∙ p)) [
                | inl f ↦ inl (f.0, find_front (is_group q.txn q.group) s.started (entry ∷ []) f.0 f.1)
                | inr gone ↦ inr (gone_begins s (start_new plan s this entry).state entry kept q.txn refl refl gone)
              ]
              | inr k ↦ inl (entry, subst (λ (q : TxnGroup). find_group q.txn q.group (s.started ++ entry ∷ []) ≡ Some entry) (sym k) (find_last (is_group id group) s.started entry none (and_from (is_txn id id) (group == group) (is_txn-same id) (eq-eqb group group refl))))
            ];
          };
          part = record {
            cells = λ x e. cells_after x e;
            elsewhere = λ x apart. elsewhere_after x apart;
            later = λ e h ran imm. elim (has_append e s.started (entry ∷ []) h) [
              | inl k ↦ elim (ran_cases (entry_run e) ran) [
                | inl l ↦ o.part.later e k l imm ∙ ap (λ (y : Yield). Some y.outs) (sym (g.yielded (entry_run e) l))
                | inr l ↦ absurd (false≢true (sym imm ∙ (ap S.is_immediate l.0 ∙ l.1)))
              ]
              | inr k ↦ (let f : entry_run e ≡ r = ap entry_run (has_one e entry k) in elim (ran_cases (entry_run e) ran) [
                | inl l ↦ absurd (not_ran (subst (Ran plan asked S start c) f l))
                | inr l ↦ absurd (false≢true (sym imm ∙ (ap S.is_immediate l.0 ∙ l.1)))
              ])
            ];
            at_once = λ e h imm. elim (has_append e s.started (entry ∷ []) h) [
              | inl k ↦ o.part.at_once e k imm
              | inr k ↦ ap (λ (e : StartedGroup). e.later) (has_one e entry k)
            ];
          };
          known = all_grow plan asked S start is c d i j g s.lists.known o.known;
          links = links_grow plan asked S start is c d i j g s.lists.known s.lists.links o.links;
          decided = λ t h. elim (o.decided t h) [
            | inl k ↦ inl k
            | inr f ↦ inr (record { gone = gone_begins s (start_new plan s this entry).state entry kept t refl refl f.gone; settled = settled_grows plan asked S start is c d i j g t f.settled })
          ];
          back = o.back;
          forgot = λ t h gone. elim (begun_cases (run_of t h.group) h.began) [
            | inl k ↦
                (let q = o.forgot t (record { group = h.group; began = k; on = sym (place_grows plan asked S start is c d i j g (run_of t h.group) k) ∙ h.on }) (was_gone t gone) in
                (q.0, settled_grows plan asked S start is c d i j g t q.1))
            | inr k ↦ absurd (false≢true (sym gone.nowhere ∙ subst (λ t. is_here t (s.started ++ entry ∷ []) ≡ true) (sym (ap (λ (q : TxnGroup). q.txn) k)) (here_now s.started entry)))
          ];
          taken = (let k = taken_grows plan asked S start is c d i j g n s o refl in record { decided = k.decided; all = k.all; one = k.one; mates = k.mates; whole = k.whole; order = taken_in_order });
          follows = λ u t e k p m. elim (here_cases s.started entry t e) [
            | inl was ↦ o.follows u t was k p (λ x. m (mates_grow plan asked S start is c d i j g t u x))
            | inr same ↦ absurd (undecided (subst (IsListed is_txn (c.decided n)) same (o.back t k)))
          ];
          fetched = λ a h. begun_grows plan asked S start is c d i j g a.id a.at.0 (o.fetched a h);
          ended = λ t h. past_grows plan asked S start is c d i j g t (o.ended t h);
        }
      where
        was_gone : (t : TxnId) → IsGone (start_new plan s this entry).state t → IsGone s t
        was_gone t gone = record { nowhere = false_from_ne_true (is_here t s.started) (λ h. false≢true (sym gone.nowhere ∙ here_more s.started entry t h)); ended = gone.ended }

        -- a transaction of which a group starts was decided nowhere
        undecided : ¬ IsListed is_txn (c.decided n) id
        undecided h = new (i.whole id (i.in_order n id h) group m.means.listed)

        taken_in_order : (t u : TxnId) → is_here t (s.started ++ entry ∷ []) ≡ true → is_here u (s.started ++ entry ∷ []) ≡ true → IsListedBefore is_txn (flat_map (λ c. c) s.lists.taken) t u → IsListedBefore is_txn (c.decided n) t u
        taken_in_order t u h k b = elim (here_cases s.started entry t h) [
          | inr same ↦ absurd (undecided (subst (IsListed is_txn (c.decided n)) same was))
          | inl first ↦ elim (here_cases s.started entry u k) [
            | inl second ↦ o.taken.order t u first second b
            | inr same ↦ before_unlisted (c.decided n) t u was (λ x. undecided (subst (IsListed is_txn (c.decided n)) same x))
          ]
        ]
          where
            was : IsListed is_txn (c.decided n) t
            was = taken_decided plan asked S start c n s o t (listed_by_before is_txn (flat s.lists.taken) t u b)

        entry_start : EntryMeans plan asked S start d n (unrun entry)
        entry_start =
            record {
              on = place_new;
              proc = m.proc;
              args = m.args;
              inputs = m.inputs ∙ sym (values_grow plan asked S start is c d i j g r m.means.needs_ran);
              cells = cells_start;
              told = told_start;
            }

        elsewhere_after : (x : Cell) → S.cell_shard x ≢ n → read (if I then (group_run plan this s.store).store else s.store) x ≡ pos 0
        elsewhere_after x apart = go I
          where
            go : (b : Bool) → read (if b then (group_run plan this s.store).store else s.store) x ≡ pos 0
            go true = run_elsewhere plan asked S start is laws n X r this s.store is_called on o.part.cells x apart ∙ o.part.elsewhere x apart
            go false = o.part.elsewhere x apart

        cells_after : (x : Cell) → S.cell_shard x ≡ n → read (if I then (group_run plan this s.store).store else s.store) x ≡ read Y.store x
        cells_after x e = go (S.is_immediate r) refl
          where
            go : (b : Bool) → S.is_immediate r ≡ b → read (if I then (group_run plan this s.store).store else s.store) x ≡ read Y.store x
            go true f = ap (λ (t : Store). read t x) (cond-true I (group_run plan this s.store).store s.store (sym imm_is ∙ f)) ∙ (run_cells plan asked S start is laws n X r this s.store is_called on o.part.cells x e ∙ ap (λ (Z : Stage). read Z.store x) (sym (Y_now f)))
            go false f = ap (λ (t : Store). read t x) (cond-false I (group_run plan this s.store).store s.store (sym imm_is ∙ f)) ∙ (o.part.cells x e ∙ ap (λ (Z : Stage). read Z.store x) (sym (Y_later f)))

    -- the other shards
    pub quiet_elsewhere : (other : ℕ) → n ≢ other → IsQuietOn plan asked S start c d other
    quiet_elsewhere other apart =
        record {
          began = λ q h p. elim (begun_cases q h) [ inl k ↦ k | inr k ↦ absurd (apart (sym place_new ∙ (ap (place plan asked S start d) (sym k) ∙ p))) ];
          ran = λ q h imm p. elim (ran_cases q h) [ inl k ↦ k | inr k ↦ absurd (false≢true (sym imm ∙ (ap S.is_immediate k.0 ∙ k.1))) ];
          cells = λ x e. go x e (S.is_immediate r) refl;
          decided = refl;
        }
      where
        go : (x : Cell) → S.cell_shard x ≡ other → (b : Bool) → S.is_immediate r ≡ b → read Y.store x ≡ read X.store x
        go x e true f = ap (λ (Z : Stage). read Z.store x) (Y_now f) ∙ laws.elsewhere X r x (λ y. apart (sym on ∙ (sym y ∙ e)))
        go x e false f = ap (λ (Z : Stage). read Z.store x) (Y_later f)
