-- A server's step keeps what is named there, and that its groups are the plan's
use Rattle.std.proofs.Common.{◌≡◌, ℕ, ◌<◌, ◌==◌, ◌&&◌, is_none, min, Bool, true, false, not, List, [], ◌∷◌, ◌++◌, Option, Some, None, unwrap_or, length, map, refl, sym, subst, arith}
use Rattle.std.proofs.lemmas.Bool.{and_parts, eqb-true}
use Rattle.std.proofs.lemmas.Bool.Decides.{nat_tests}
use Rattle.std.specs.Prelude.{filter, flat_map, nat_lt, if◌then◌else◌}
use Rattle.std.specs.List.{AllByRecursion, list_any}
use Rattle.roc_sequence.specs.Lists.{Has}
use Rattle.roc_sequence.specs.Places.{is_listed}
use Rattle.roc_sequence.proofs.Found.{found_has}
use Rattle.roc_sequence.proofs.Holds.{all_has, has_all, all_append, any_has}
use Rattle.roc_sequence.proofs.Members.{from_has_map, from_has_filter}
use Rattle.roc_base.specs.declared.id.TxnId.{TxnId}
use Rattle.roc_base.specs.declared.node.Shard.{Shard}
use Rattle.roc_base.specs.TxnId.{is_txn}
use Rattle.roc_base.specs.Equalities.{is_txn-true}
use Rattle.roc_base.specs.Edge.{Dependency}
use Rattle.roc_base.specs.Edges.{united}
use Rattle.roc_depgraph.specs.declared.known.KnownList.{KnownList}
use Rattle.roc_depgraph.specs.Deps.{list_of, entries_of, is_known}
use Rattle.roc_step.specs.declared.waits.OpenFetch.{OpenFetch}
use Rattle.roc_step.specs.declared.waits.Asker.{Asker}
use Rattle.roc_step.specs.Waits.{is_asked_before, is_asker_before, was_asked_for, with_asked, with_all_asked, without_asked, askers_of}
use Rattle.roc_msg.specs.declared.msg.Msg.{Msg}
use Rattle.roc_msg.specs.declared.msg.Msg.TheVariants.{Start, Commit, Fetch, Known, Ended, Settled, Read}
use Rattle.roc_msg.specs.declared.outbox.Outgoing.{Outgoing}
use Rattle.roc_msg.specs.declared.reason.Reason.TheVariants.{NotHere, Foreign, Differs, Late, BadProc, BadGroup, BadInputs}
use Rattle.roc_msg.specs.Facts.{is_fact_before}
use Rattle.roc_program.proofs.Transactions.{transaction_parts}
use Rattle.roc_plan.specs.Groups.{Plan, procedure_of, groups_of, inputs_of, shard_of, group_place}
use Rattle.roc_group.specs.GroupRun.{GroupCall, call, group_uses}
use Rattle.roc_step.specs.declared.started.StartedGroup.{StartedGroup}
use Rattle.roc_step.specs.Fits.{IsCallOf, ServerFits}
use Rattle.roc_step.specs.State.{refused, ignored, answered, first_answer, is_here, is_group, find_group, Lists, ServerState, ServerStep, hearing}
use Rattle.roc_step.specs.Below.{is_ended}
use Rattle.roc_step.specs.Forgets.{over, forget, forgetting}
use Rattle.roc_step.specs.Piggyback.{facts_of}
use Rattle.roc_step.specs.Start.{has_procedure, has_counts, differs, start_refusal, start_taken, start_judged, startok_of, new_group, is_predecessor, is_immediate_group, edge_to}
use Rattle.roc_step.specs.Runs.{group_call, commitok_of}
use Rattle.roc_step.specs.Carried.{list_with, carried, unknown_of}
use Rattle.roc_step.specs.Asking.{asked_of, known_to, knowns_for, fetch_from}
use Rattle.roc_step.specs.Links.{all_entries, least_naming, without_links}
use Rattle.roc_step.specs.Lists.{is_done, links_of, is_missing, missing_after, lists_after, decides, taught, commit_differs, commit_refusal, commit_taken, after_commit, fetch_taken, settled_to, after_fetch, known_refusal, after_known, after_ended, is_settled, lists_settled, after_settled}
use Rattle.roc_step.specs.Step.{Findings, Handles, after_message, tick_sends}
use Rattle.roc_step.specs.State.{unrun}
use Rattle.roc_law_protocol.specs.Fits.{AreSeenHere, AreListsHere, NamesNodes, IsStartedHere, IsServerHere}
use Rattle.roc_law_protocol.proofs.KeptGroups.{take_keeps, take_same}
use Rattle.roc_law_protocol.proofs.Facts.{has_fitting}
use Rattle.roc_law_protocol.proofs.Served.{list_has}
use Rattle.roc_law_protocol.proofs.Named.{all_in_place, all_flat, seen_united, IsOutHere}
use Rattle.roc_step.specs.declared.handled.Handled.{Handled}
use Rattle.roc_step.specs.declared.handled.Handled.TheVariants.{Ignored, Gone}
use Rattle.roc_coord.proofs.Keeping.{all_filter}

-- a start is taken only of a group of the plan
called : (plan : Plan) (s : ServerState) (id : TxnId) (c : GroupCall) → start_refusal plan s id c ≡ None → IsCallOf plan c
called plan s id c taken =
    passed (is_none (find_group id c.group s.started) && is_ended s.below id) (has_procedure plan c.proc) (nat_lt c.group (length (groups_of plan c.proc))) (has_counts plan c)
    ((not (shard_of plan (group_place plan c.proc c.group c.args c.inputs) == s.shard.0), Ignored NotHere) ∷ (is_none (find_group id c.group s.started) && is_known s.lists.known id, Ignored Late) ∷ (differs s id c, Ignored Differs) ∷ []) taken refl refl refl
  where
    passed : (e a b d : Bool) (rest : List (Bool × Handled)) → first_answer ((e, Gone) ∷ (not a, Ignored BadProc) ∷ (not b, Ignored BadGroup) ∷ (not d, Ignored BadInputs) ∷ rest) ≡ None
        → has_procedure plan c.proc ≡ a → nat_lt c.group (length (groups_of plan c.proc)) ≡ b → has_counts plan c ≡ d → IsCallOf plan c
    passed false true true true rest f h k l =
        let p = and_parts (length c.args == (procedure_of plan c.proc).arguments) (length c.inputs == length (inputs_of plan c.proc c.group)) l in
        record {
          procedure = (transaction_parts plan.program c.proc h).there;
          transaction = (transaction_parts plan.program c.proc h).writes;
          group = grind (arith, nat_tests);
          args = eqb-true (length c.args) (procedure_of plan c.proc).arguments p.0;
          inputs = eqb-true (length c.inputs) (length (inputs_of plan c.proc c.group)) p.1;
        }
    passed true a b d rest f h k l = absurd (cc)
    passed false false b d rest f h k l = absurd (cc)
    passed false true false d rest f h k l = absurd (cc)
    passed false true true false rest f h k l = absurd (cc)

-- no entry tells of a lesser shard than the least that is there
least_below : (id : TxnId) (at n : ℕ) (ds : List Dependency) → at < n → least_naming id at ds < n
least_below id at n [] l = l
least_below id at n (d ∷ ds) l = least_below id (if is_txn d.from id then min at d.at.0 else at) n ds (go (is_txn d.from id))
  where
    go : (b : Bool) → (if b then min at d.at.0 else at) < n
    go true = omega arith
    go false = l

module _ (plan : Plan) (servers coords : ℕ) where
  abbrev AreOutsHere : List Outgoing → Type 0
  AreOutsHere outs = AllByRecursion (IsOutHere servers coords) outs

  -- what comes of a step of the server of this shard is of the plan, and names only nodes that are there
  pub record KeepsServer (shard : Shard) (r : ServerStep) : Type 0 where
    pub state : IsServerHere servers coords r.state
    pub fits : ServerFits plan r.state
    pub own : r.state.shard ≡ shard
    pub sends : AreOutsHere r.sends

  some_edges : (passes : TxnId → Bool) (lists : List KnownList) → AreListsHere servers coords lists → AreListsHere servers coords (map (without_links passes) lists)
  some_edges passes [] h = tt
  some_edges passes (k ∷ lists) h = (all_filter (λ (d : Dependency). d.at.0 < servers) (λ (d : Dependency). not (passes d.from)) k.edges h.0, some_edges passes lists h.1)

  -- what is forgotten is named no more
  forgotten_here : (s : ServerState) → IsServerHere servers coords s → IsServerHere servers coords (forget s)
  forgotten_here s here =
      let gone : TxnId → Bool = is_listed is_txn (over s.below s.lists.taken) in
      record {
        started = all_filter (IsStartedHere servers coords) (λ (e : StartedGroup). not (gone e.id)) s.started here.started;
        known = all_filter (λ (k : KnownList). AreSeenHere servers coords k.edges) (λ (k : KnownList). not (gone k.of)) s.lists.known here.known;
        links = some_edges gone (filter (λ (k : KnownList). not (gone k.of)) s.lists.links) (all_filter (λ (k : KnownList). AreSeenHere servers coords k.edges) (λ (k : KnownList). not (gone k.of)) s.lists.links here.links);
        asked = all_filter (λ (a : OpenFetch). a.at.0 < servers) (λ (a : OpenFetch). not (gone a.id)) s.lists.waiting.asked here.asked;
        askers = here.askers;
      }

  forgets : (shard : Shard) (r : ServerStep) → KeepsServer shard r → KeepsServer shard (forgetting r)
  forgets shard r k =
      record {
        state = forgotten_here r.state k.state;
        fits = all_filter (λ (e : StartedGroup). IsCallOf plan (group_call e)) (λ (e : StartedGroup). not (is_listed is_txn (over r.state.below r.state.lists.taken) e.id)) r.state.started k.fits;
        own = k.own;
        sends = k.sends;
      }

  module _ (s : ServerState) (own : s.shard.0 < servers) (here : IsServerHere servers coords s) (of_plan : ServerFits plan s) where
    refuses : (answer : Handled) → KeepsServer s.shard (refused s answer)
    refuses answer = record { state = here; fits = of_plan; own = refl; sends = tt }

    -- nothing changes
    answers : (outs : List Outgoing) → AreOutsHere outs → KeepsServer s.shard (answered s outs)
    answers outs sends = record { state = here; fits = of_plan; own = refl; sends = sends }

    -- lists are asked for
    fetches_here : (asks : List OpenFetch) → AllByRecursion (λ (a : OpenFetch). a.at.0 < servers) asks → AreOutsHere (map (fetch_from s.shard) asks)
    fetches_here [] h = tt
    fetches_here (a ∷ asks) h = ((h.0, own), fetches_here asks h.1)

    -- ---- a start

    startok_here : (e : StartedGroup) → IsStartedHere servers coords e → IsOutHere servers coords (startok_of s.shard e)
    startok_here e k = (k.coord, (k.edges, k.facts))

    edges_here : (immediate : Bool) (es : List StartedGroup) → AreSeenHere servers coords (map (edge_to s.shard immediate) es)
    edges_here immediate [] = tt
    edges_here immediate (e ∷ es) = (own, edges_here immediate es)

    -- the entries that are known of a transaction: none, or those of a known list
    entries_here : (u : TxnId) → AreSeenHere servers coords (entries_of s.lists.known u)
    entries_here u = go (list_of u s.lists.known) refl
      where
        go : (x : Option (List Dependency)) → list_of u s.lists.known ≡ x → AreSeenHere servers coords (unwrap_or x [])
        go None e = tt
        go (Some edges) e = let k = list_has s.lists.known u edges e in subst (AreSeenHere servers coords) k.3 (all_has (λ (k : KnownList). AreSeenHere servers coords k.edges) k.0 s.lists.known here.known k.1)

    module _ (f : Findings) (id : TxnId) (c : GroupCall) (coord : id.coord < coords) where
      abbrev e : StartedGroup
      e = new_group plan f.before f.reached s id c

      new_here : IsStartedHere servers coords e
      new_here =
          record {
            coord = coord;
            edges = seen_united servers coords (map (edge_to s.shard (is_immediate_group plan c)) (filter (is_predecessor plan f.before id c (group_uses plan c s.store)) s.started)) (edges_here (is_immediate_group plan c) (filter (is_predecessor plan f.before id c (group_uses plan c s.store)) s.started));
            facts = has_all (λ (k : KnownList). AreSeenHere servers coords k.edges) (facts_of s.lists.known f.reached) (λ k h. (let q = from_has_map (λ u. list_with u (entries_of s.lists.known u)) k f.reached (has_fitting (map (λ u. list_with u (entries_of s.lists.known u)) f.reached) k h) in
                subst (λ (k : KnownList). AreSeenHere servers coords k.edges) (sym q.2) (entries_here q.0)));
          }

      start_keeps : (x : Option Handled) → start_refusal plan s id c ≡ x → KeepsServer s.shard (start_judged plan f.before f.reached s id c x)
      start_keeps (Some answer) why = refuses answer
      start_keeps None why = taken (find_group id c.group s.started) refl
        where
          taken : (x : Option StartedGroup) → find_group id c.group s.started ≡ x → KeepsServer s.shard (start_taken plan f.before f.reached s id c x)
          taken (Some b) k = answers (startok_of s.shard b ∷ []) (startok_here b (all_has (IsStartedHere servers coords) b s.started here.started (found_has (is_group id c.group) s.started b k).0), tt)
          taken None k =
              record {
                state = record { started = all_append (IsStartedHere servers coords) s.started (e ∷ []) here.started (new_here, tt); known = here.known; links = here.links; asked = here.asked; askers = here.askers };
                fits = all_append (λ (e : StartedGroup). IsCallOf plan (group_call e)) s.started (e ∷ []) of_plan (called plan s id c why, tt);
                own = refl;
                sends = (startok_here e new_here, tt);
              }

    -- ---- the lists change, and what they newly decide runs

    -- who has a group here has its coordinator
    coord_here : (t : TxnId) → is_here t s.started ≡ true → t.coord < coords
    coord_here t h =
        let q = any_has (λ (e : StartedGroup). is_txn e.id t) s.started h in
        subst (λ (u : TxnId). u.coord < coords) (is_txn-true q.0.id t q.2) (all_has (IsStartedHere servers coords) q.0 s.started here.started q.1).coord

    -- a group that has run is the one that started
    same_here : (e f : StartedGroup) → unrun e ≡ unrun f → IsStartedHere servers coords f → IsStartedHere servers coords e
    same_here e f q k =
        record {
          coord = subst (λ (g : StartedGroup). g.id.coord < coords) (sym q) k.coord;
          edges = subst (λ (g : StartedGroup). AreSeenHere servers coords g.edges) (sym q) k.edges;
          facts = subst (λ (g : StartedGroup). AreListsHere servers coords g.facts) (sym q) k.facts;
        }

    -- such lists name only shards that are there
    record AreHere (lists : Lists) : Type 0 where
      known : AreListsHere servers coords lists.known
      links : AreListsHere servers coords lists.links
      asked : AllByRecursion (λ (a : OpenFetch). a.at.0 < servers) lists.waiting.asked
      askers : AllByRecursion (λ (a : Asker). a.shard.0 < servers) lists.waiting.askers

    module _ (lists : Lists) (good : AreHere lists) (components : List (List TxnId)) (told asks : List Outgoing) (told_here : AreOutsHere told) (asks_here : AreOutsHere asks) where
      abbrev before_run : ServerState
      before_run = record s { lists = lists }

      abbrev r : ServerStep
      r = decides plan s lists components told asks

      abbrev ts : List TxnId
      ts = flat_map (λ c. c) components

      lists_are : r.state.lists ≡ lists
      lists_are = (take_keeps plan ts before_run).0

      decided_state : IsServerHere servers coords r.state
      decided_state =
          let lists_here : AreHere r.state.lists = subst AreHere (sym lists_are) good in
          record {
            started = has_all (IsStartedHere servers coords) r.state.started (λ e h. (let q = (take_same plan ts before_run).from e h in same_here e q.0 q.2 (all_has (IsStartedHere servers coords) q.0 s.started here.started q.1)));
            known = lists_here.known;
            links = lists_here.links;
            asked = lists_here.asked;
            askers = lists_here.askers;
          }

      decided_fits : ServerFits plan r.state
      decided_fits = has_all (λ (e : StartedGroup). IsCallOf plan (group_call e)) r.state.started (λ e h. (let q = (take_same plan ts before_run).from e h in
          subst (λ (g : StartedGroup). IsCallOf plan (group_call g)) (sym q.2) (all_has (λ (e : StartedGroup). IsCallOf plan (group_call e)) q.0 s.started of_plan q.1)))

      answered_here : AreOutsHere (map (commitok_of plan r.state) (filter (λ t. is_here t s.started) ts))
      answered_here = has_all (IsOutHere servers coords) (map (commitok_of plan r.state) (filter (λ t. is_here t s.started) ts)) (λ out j. (let q = from_has_map (commitok_of plan r.state) out (filter (λ t. is_here t s.started) ts) j in
          subst (IsOutHere servers coords) (sym q.2) (coord_here q.0 (from_has_filter (λ t. is_here t s.started) q.0 ts q.1).1, tt)))

      decided_keeps : KeepsServer s.shard r
      decided_keeps =
          record {
            state = decided_state;
            fits = decided_fits;
            own = (take_keeps plan ts before_run).1;
            sends =
                all_append (IsOutHere servers coords) told (map (commitok_of plan r.state) (filter (λ t. is_here t s.started) ts) ++ asks) told_here
                (all_append (IsOutHere servers coords) (map (commitok_of plan r.state) (filter (λ t. is_here t s.started) ts)) asks answered_here asks_here);
          }

    -- ---- lists that are taught

    all_asked : (more old : List OpenFetch) → AllByRecursion (λ (a : OpenFetch). a.at.0 < servers) more → AllByRecursion (λ (a : OpenFetch). a.at.0 < servers) old → AllByRecursion (λ (a : OpenFetch). a.at.0 < servers) (with_all_asked more old)
    all_asked [] old h k = k
    all_asked (a ∷ more) old h k = all_asked more (with_asked a old) h.1 (all_in_place (λ (a : OpenFetch). a.at.0 < servers) is_asked_before a old h.0 k)

    module _ (news : List KnownList) (good : AreListsHere servers coords news) (components : List (List TxnId)) where
      abbrev all_links : List KnownList
      all_links = s.lists.links ++ links_of s news

      known_here : AreListsHere servers coords (s.lists.known ++ news)
      known_here = all_append (λ (k : KnownList). AreSeenHere servers coords k.edges) s.lists.known news here.known good

      links_here : AreListsHere servers coords all_links
      links_here = all_append (λ (k : KnownList). AreSeenHere servers coords k.edges) s.lists.links (links_of s news) here.links (some_edges (is_done s (s.lists.known ++ news)) news good)

      missing_here : AllByRecursion (λ (a : OpenFetch). a.at.0 < servers) (missing_after s news)
      missing_here =
          let seen = seen_united servers coords (all_entries all_links) (all_flat (λ (d : Dependency). d.at.0 < servers) (λ (k : KnownList). k.edges) all_links links_here) in
          has_all (λ (a : OpenFetch). a.at.0 < servers) (missing_after s news) (λ a h. (let q = from_has_map (asked_of (s.lists.known ++ news)) a (filter (is_missing s all_links) (united (all_entries all_links))) h in
          subst (λ (a : OpenFetch). a.at.0 < servers) (sym q.2)
          (least_below q.0.from q.0.at.0 servers (all_entries (s.lists.known ++ news)) (all_has (λ (d : Dependency). d.at.0 < servers) q.0 (united (all_entries all_links)) seen (from_has_filter (is_missing s all_links) q.0 (united (all_entries all_links)) q.1).0))))

      told_here : (k : KnownList) → Has k news → AreOutsHere (knowns_for s.lists.waiting.askers k)
      told_here k h = has_all (IsOutHere servers coords) (knowns_for s.lists.waiting.askers k) (λ out j. (let q = from_has_map (known_to k) out (askers_of k.of s.lists.waiting.askers) j in
          subst (IsOutHere servers coords) (sym q.2) (
            all_has (λ (a : Asker). a.shard.0 < servers) q.0 s.lists.waiting.askers here.askers (from_has_filter (λ (a : Asker). is_txn a.id k.of) q.0 s.lists.waiting.askers q.1).0,
            all_has (λ (k : KnownList). AreSeenHere servers coords k.edges) k news good h,
          )))

      taught_keeps : KeepsServer s.shard (taught plan s news components)
      taught_keeps =
          decided_keeps (lists_after s news components) (record {
            known = known_here;
            links = links_here;
            asked = all_asked (missing_after s news) s.lists.waiting.asked missing_here here.asked;
            askers = all_filter (λ (a : Asker). a.shard.0 < servers) (λ (a : Asker). not (list_any (λ (k : KnownList). is_txn k.of a.id) news)) s.lists.waiting.askers here.askers;
          }) components (flat_map (knowns_for s.lists.waiting.askers) news) (map (fetch_from s.shard) (missing_after s news))
          (all_flat (IsOutHere servers coords) (knowns_for s.lists.waiting.askers) news (has_all (λ (k : KnownList). AreOutsHere (knowns_for s.lists.waiting.askers k)) news told_here))
          (fetches_here (missing_after s news) missing_here)

    sends_more : (r : ServerStep) (more : List Outgoing) → KeepsServer s.shard r → AreOutsHere more → KeepsServer s.shard (record r { sends = r.sends ++ more })
    sends_more r more k others = record { state = k.state; fits = k.fits; own = k.own; sends = all_append (IsOutHere servers coords) r.sends more k.sends others }

    commit_keeps : (before : List TxnId) (components : List (List TxnId)) (id : TxnId) (edges : List Dependency) (facts : List KnownList) → AreSeenHere servers coords edges → AreListsHere servers coords facts
        → (x : Option Handled) → commit_refusal s id edges facts ≡ x → KeepsServer s.shard (after_commit plan before components s id edges facts x)
    commit_keeps before components id edges facts own_seen others_seen (Some answer) why = refuses answer
    commit_keeps before components id edges facts own_seen others_seen None why =
        let news = unknown_of s.lists.known (carried id edges facts) in
        let r = taught plan s news components in
        forgets s.shard (commit_taken plan before s id r)
        (sends_more r (if is_listed is_txn before id then commitok_of plan r.state id ∷ [] else [])
        (taught_keeps news (all_filter (λ (k : KnownList). AreSeenHere servers coords k.edges) (λ k. not (is_known s.lists.known k.of)) (carried id edges facts)
        (all_in_place (λ (k : KnownList). AreSeenHere servers coords k.edges) is_fact_before (list_with id edges) facts own_seen others_seen)) components)
        (again r.state (is_listed is_txn before id)))
      where
        was_here : (b e d : Bool) → first_answer ((not b && e, Gone) ∷ (not b, Ignored NotHere) ∷ (d, Ignored Differs) ∷ []) ≡ None → b ≡ true
        was_here true e d f = refl
        was_here false true d f = absurd (cc)
        was_here false false d f = absurd (cc)

        again : (v : ServerState) (b : Bool) → AreOutsHere (if b then commitok_of plan v id ∷ [] else [])
        again v true = ((coord_here id (was_here (is_here id s.started) (is_ended s.below id) (commit_differs s id edges facts) why), tt), tt)
        again v false = tt

    fetch_keeps : (id : TxnId) (asker : Shard) → asker.0 < servers → KeepsServer s.shard (after_fetch s id asker)
    fetch_keeps id asker there = ended (not (is_here id s.started) && is_ended s.below id)
      where
        taken : (x : Option (List Dependency)) → list_of id s.lists.known ≡ x → KeepsServer s.shard (fetch_taken s id asker x)
        taken (Some edges) e =
            let k = list_has s.lists.known id edges e in
            answers (known_to (list_with id edges) (record { id = id; shard = asker }) ∷ []) ((there, subst (AreSeenHere servers coords) k.3 (all_has (λ (k : KnownList). AreSeenHere servers coords k.edges) k.0 s.lists.known here.known k.1)), tt)
        taken None e =
            record {
              state = record { started = here.started; known = here.known; links = here.links; asked = here.asked; askers = all_in_place (λ (a : Asker). a.shard.0 < servers) is_asker_before (record { id = id; shard = asker }) s.lists.waiting.askers there here.askers };
              fits = of_plan;
              own = refl;
              sends = tt;
            }

        found : (b : Bool) → KeepsServer s.shard (if b then fetch_taken s id asker (list_of id s.lists.known) else ignored s NotHere)
        found true = taken (list_of id s.lists.known) refl
        found false = refuses (Ignored NotHere)

        ended : (b : Bool) → KeepsServer s.shard (if b then answered s (settled_to s id asker ∷ []) else (if is_here id s.started then fetch_taken s id asker (list_of id s.lists.known) else ignored s NotHere))
        ended true = answers (settled_to s id asker ∷ []) ((there, tt), tt)
        ended false = found (is_here id s.started)

    known_keeps : (components : List (List TxnId)) (id : TxnId) (edges : List Dependency) → AreSeenHere servers coords edges → (x : Option Handled) → KeepsServer s.shard (after_known plan components s id edges x)
    known_keeps components id edges seen (Some answer) = refuses answer
    known_keeps components id edges seen None =
        let news = unknown_of s.lists.known (list_with id edges ∷ []) in
        forgets s.shard (taught plan s news components)
        (taught_keeps news (all_filter (λ (k : KnownList). AreSeenHere servers coords k.edges) (λ k. not (is_known s.lists.known k.of)) (list_with id edges ∷ []) (seen, tt)) components)

    -- a watermark is heard
    heard_here : (coord mark : ℕ) → IsServerHere servers coords (hearing s coord mark)
    heard_here coord mark = record { started = here.started; known = here.known; links = here.links; asked = here.asked; askers = here.askers }

  module _ (s : ServerState) (own : s.shard.0 < servers) (here : IsServerHere servers coords s) (of_plan : ServerFits plan s) where
    settled_keeps : (components : List (List TxnId)) (id : TxnId) (mark : ℕ) → KeepsServer s.shard (after_settled plan components s id mark)
    settled_keeps components id mark =
        forgets s.shard (if was_asked_for id s.lists.waiting.asked then decides plan h lists components [] [] else refused h Gone) (go (was_asked_for id s.lists.waiting.asked))
      where
        h : ServerState
        h = hearing s id.coord mark

        lists : Lists
        lists = lists_settled s id mark components

        left_asked : (b : Bool) → AllByRecursion (λ (a : OpenFetch). a.at.0 < servers) (if b then s.lists.waiting else without_asked (is_settled s id mark) s.lists.waiting).asked
        left_asked true = here.asked
        left_asked false = all_filter (λ (a : OpenFetch). a.at.0 < servers) (λ (a : OpenFetch). not (is_settled s id mark a.id)) s.lists.waiting.asked here.asked

        left_askers : (b : Bool) → AllByRecursion (λ (a : Asker). a.shard.0 < servers) (if b then s.lists.waiting else without_asked (is_settled s id mark) s.lists.waiting).askers
        left_askers true = here.askers
        left_askers false = here.askers

        go : (b : Bool) → KeepsServer s.shard (if b then decides plan h lists components [] [] else refused h Gone)
        go true =
            decided_keeps h own (heard_here s own here of_plan id.coord mark) of_plan lists
            (record { known = here.known; links = some_edges (is_settled s id mark) s.lists.links here.links; asked = left_asked (is_known s.lists.known id); askers = left_askers (is_known s.lists.known id) }) components [] [] tt tt
        go false = refuses h own (heard_here s own here of_plan id.coord mark) of_plan Gone

    ended_keeps : (coord mark : ℕ) → KeepsServer s.shard (after_ended s coord mark)
    ended_keeps coord mark =
        let h : ServerState = hearing s coord mark in
        forgets s.shard (answered h []) (answers h own (heard_here s own here of_plan coord mark) of_plan [] tt)

    -- ---- any message, and a tick

    pub message_keeps : (msg : Msg) (r : ServerStep) → Handles plan s msg r → NamesNodes servers coords msg → KeepsServer s.shard r
    message_keeps msg r h names = subst (KeepsServer s.shard) (sym h.is) (go msg h.findings names)
      where
        go : (msg : Msg) (f : Findings) → NamesNodes servers coords msg → KeepsServer s.shard (after_message plan s f msg)
        go (Start id proc group args inputs) f k = start_keeps s own here of_plan f id (call proc group args inputs) k (start_refusal plan s id (call proc group args inputs)) refl
        go (Commit id edges facts) f k = commit_keeps s own here of_plan f.before f.components id edges facts k.0 k.1 (commit_refusal s id edges facts) refl
        go (Fetch id asker) f k = fetch_keeps s own here of_plan id asker k
        go (Known id edges) f k = known_keeps s own here of_plan f.components id edges k (known_refusal s id edges)
        go (Ended coord mark) f k = ended_keeps coord mark
        go (Settled id mark) f k = settled_keeps f.components id mark
        go (Read id round proc group args) f k = absurd k
        go msg f k = refuses s own here of_plan (Ignored Foreign)

    pub tick_keeps : KeepsServer s.shard (answered s (tick_sends s))
    tick_keeps = answers s own here of_plan (tick_sends s) (fetches_here s own here of_plan (filter (λ (a : OpenFetch). not (is_known s.lists.known a.id)) s.lists.waiting.asked) (all_filter (λ (a : OpenFetch). a.at.0 < servers) (λ (a : OpenFetch). not (is_known s.lists.known a.id)) s.lists.waiting.asked here.asked))
