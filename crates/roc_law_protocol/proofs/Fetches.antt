-- Who is told of a list has asked for it
use Rattle.std.proofs.Common.{◌≡◌, ℕ, ◌&&◌, Bool, true, false, not, List, [], ◌∷◌, ◌++◌, Option, Some, None, map, refl, sym, ap, subst, ◌∙◌, ◌⊎◌, inl, inr, append-nil}
use Rattle.std.proofs.lemmas.Bool.{cases_eq, and_parts}
use Rattle.std.specs.Prelude.{slice_get, slice_set, filter, flat_map, if◌then◌else◌}
use Rattle.std.specs.List.{list_any}
use Rattle.roc_sequence.specs.Lists.{Has}
use Rattle.roc_sequence.specs.Places.{is_listed}
use Rattle.roc_sequence.proofs.Holds.{has_any}
use Rattle.roc_sequence.proofs.Members.{has_append, has_one, from_has_map, from_has_filter, from_has_flat_map}
use Rattle.roc_base.specs.declared.id.TxnId.{TxnId}
use Rattle.roc_base.specs.declared.node.Node.{Node}
use Rattle.roc_base.specs.declared.node.Node.TheVariants.{Server, Coord}
use Rattle.roc_base.specs.declared.node.Shard.{Shard}
use Rattle.roc_base.specs.TxnId.{is_txn}
use Rattle.roc_base.specs.Equalities.{is_txn-true}
use Rattle.roc_base.proofs.Ids.{is_txn-eq}
use Rattle.roc_base.specs.Edge.{Dependency}
use Rattle.roc_depgraph.specs.declared.known.KnownList.{KnownList}
use Rattle.roc_depgraph.specs.Deps.{list_of, is_known}
use Rattle.roc_step.specs.declared.waits.OpenFetch.{OpenFetch}
use Rattle.roc_step.specs.declared.waits.Asker.{Asker}
use Rattle.roc_step.specs.Waits.{is_asker_before, was_asked_for, with_all_asked, without_asked, askers_of}
use Rattle.roc_step.proofs.Asking.{asked_still, asked_all}
use Rattle.roc_msg.specs.declared.msg.Msg.{Msg}
use Rattle.roc_msg.specs.declared.msg.Msg.TheVariants.{Start, Commit, Fetch, Known, Ended, Settled, Read, ReadOk}
use Rattle.roc_msg.specs.declared.msg.Envelope.{Envelope}
use Rattle.roc_msg.specs.declared.outbox.Outgoing.{Outgoing}
use Rattle.roc_msg.specs.declared.reason.Reason.TheVariants.{NotHere, Foreign}
use Rattle.roc_plan.specs.Groups.{Plan}
use Rattle.roc_group.specs.GroupRun.{GroupCall, call}
use Rattle.roc_step.specs.declared.started.StartedGroup.{StartedGroup}
use Rattle.roc_step.specs.State.{refused, ignored, answered, is_here, find_group, Lists, ServerState, ServerStep, hearing}
use Rattle.roc_step.specs.Below.{is_ended}
use Rattle.roc_step.specs.Forgets.{forget, forgetting}
use Rattle.roc_step.specs.Start.{start_refusal, start_taken, start_judged, startok_of, new_group}
use Rattle.roc_step.specs.Runs.{commitok_of}
use Rattle.roc_step.specs.Carried.{list_with, carried, unknown_of}
use Rattle.roc_step.specs.Asking.{known_to, knowns_for, fetch_from}
use Rattle.roc_step.specs.Lists.{lists_after, missing_after, decides, taught, commit_refusal, commit_taken, after_commit, fetch_taken, settled_to, after_fetch, known_refusal, after_known, after_ended, is_settled, lists_settled, after_settled}
use Rattle.roc_step.specs.Step.{Findings, Handles, after_message, tick_sends}
use Rattle.roc_law_protocol.proofs.KeptGroups.{take_keeps}
use Rattle.roc_coord.specs.State.{CoordState}
use Rattle.roc_audit.specs.declared.entry.Entry.{Entry}
use Rattle.roc_law_protocol.specs.World.{World, sent_by, mark_delivered, at_server, at_coord}
use Rattle.roc_law_protocol.proofs.Gathered.{IsRound}
use Rattle.roc_law_protocol.proofs.Changed.{get-set_here, get-set_other, get-set_cases}
use Rattle.roc_law_protocol.proofs.ForgottenHere.{forgotten, over_ended, asked_some}
use Rattle.roc_step.proofs.Raised.{ended_still}
use Rattle.roc_step.specs.declared.handled.Handled.{Handled}
use Rattle.roc_step.specs.declared.handled.Handled.TheVariants.{Done, Ignored, Gone}
use Rattle.roc_law_protocol.proofs.ReadsHere.{for_read}
use Rattle.roc_law_protocol.specs.Aside.{IsNoRead}
use Rattle.roc_law_protocol.proofs.Submissions.{IsNoReadOk}

-- ---- a step of a server. For says that a shard has asked for a list

abbrev pub FetchedFor : (For : TxnId → ℕ → Type 0) → Msg → Node → Type 0
FetchedFor For (Fetch id asker) to = For id asker.0
FetchedFor For (Known id edges) (Server shard) = For id shard.0
FetchedFor For (Known id edges) (Coord number) = Unit {0}
FetchedFor For (Read id round proc group args) to = ⊥
FetchedFor For (ReadOk id round group shard versions outs) to = ⊥
FetchedFor For msg to = Unit {0}

fetched_later : (P Q : TxnId → ℕ → Type 0) → ((t : TxnId) (n : ℕ) → P t n → Q t n) → (msg : Msg) (to : Node) → FetchedFor P msg to → FetchedFor Q msg to
fetched_later P Q f (Fetch id asker) to k = f id asker.0 k
fetched_later P Q f (Known id edges) (Server shard) k = f id shard.0 k
fetched_later P Q f (Known id edges) (Coord number) k = tt
fetched_later P Q f (Read id round proc group args) to k = k
fetched_later P Q f (ReadOk id round group shard versions outs) to k = k
fetched_later P Q f msg to k = tt

pub fetched_none : (For : TxnId → ℕ → Type 0) (msg : Msg) (to : Node) → FetchedFor For msg to → IsNoReadOk msg
fetched_none For (ReadOk id round group shard versions outs) to k = k
fetched_none For msg to k = tt

pub fetched_no_read : (For : TxnId → ℕ → Type 0) (msg : Msg) (to : Node) → FetchedFor For msg to → IsNoRead msg
fetched_no_read For (Read id round proc group args) to k = k
fetched_no_read For msg to k = tt

-- the list of id was asked for here, or it has ended
abbrev pub WasAskedFor : TxnId → ServerState → Type 0
WasAskedFor id v = (was_asked_for id v.lists.waiting.asked ≡ true) ⊎ (is_ended v.below id ≡ true)

-- the one is asked for here, or has ended; or it was asked for by that shard
abbrev pub IsFor : (For : TxnId → ℕ → Type 0) → ServerState → TxnId → ℕ → Type 0
IsFor For s id shard = ((shard ≡ s.shard.0) × WasAskedFor id s) ⊎ For id shard

-- what is forgotten has ended
asked_left : (v : ServerState) (id : TxnId) → WasAskedFor id v → WasAskedFor id (forget v)
asked_left v id (inl h) = elim (asked_some (forgotten v) id v.lists.waiting.asked h) [ inl k ↦ inl k | inr f ↦ inr (over_ended v.below v.lists.taken id f) ]
asked_left v id (inr e) = inr e

module _ (plan : Plan) (For : TxnId → ℕ → Type 0) where
  pub record KeepsFetches (s : ServerState) (r : ServerStep) : Type 0 where
    pub asked : (id : TxnId) → WasAskedFor id s → WasAskedFor id r.state
    pub askers : (a : Asker) → Has a r.state.lists.waiting.askers → For a.id a.shard.0
    pub sends : (out : Outgoing) → Has out r.sends → FetchedFor (IsFor For r.state) out.msg out.to
    pub shard : r.state.shard ≡ s.shard

  for_left : (v : ServerState) (msg : Msg) (to : Node) → FetchedFor (IsFor For v) msg to → FetchedFor (IsFor For (forget v)) msg to
  for_left v msg to = fetched_later (IsFor For v) (IsFor For (forget v)) (λ t n f. elim f [ inl k ↦ inl (k.0, asked_left v t k.1) | inr k ↦ inr k ]) msg to

  -- it forgets at the end
  forgets : (s : ServerState) (r : ServerStep) → KeepsFetches s r → KeepsFetches s (forgetting r)
  forgets s r k = record { asked = λ id h. asked_left r.state id (k.asked id h); askers = k.askers; sends = λ out h. for_left r.state out.msg out.to (k.sends out h); shard = k.shard }

  -- a watermark is heard first
  heard_first : (s : ServerState) (coord mark : ℕ) (r : ServerStep) → KeepsFetches (hearing s coord mark) r → KeepsFetches s r
  heard_first s coord mark r k =
      record { asked = λ id h. k.asked id (elim h [ inl j ↦ inl j | inr e ↦ inr (ended_still s.below coord mark id e) ]); askers = k.askers; sends = k.sends; shard = k.shard }

  module _ (s : ServerState) (waits : (a : Asker) → Has a s.lists.waiting.askers → For a.id a.shard.0) where
    refuses : (answer : Handled) → KeepsFetches s (refused s answer)
    refuses answer = record { asked = λ id h. h; askers = waits; sends = λ out h. absurd h; shard = refl }

    -- one message is sent
    sends_one : (out : Outgoing) → FetchedFor (IsFor For s) out.msg out.to → KeepsFetches s (answered s (out ∷ []))
    sends_one x k = record { asked = λ id h. h; askers = waits; sends = λ out h. subst (λ (out : Outgoing). FetchedFor (IsFor For s) out.msg out.to) (sym (has_one out x h)) k; shard = refl }

    start_fetches : (f : Findings) (id : TxnId) (c : GroupCall) (x : Option Handled) → KeepsFetches s (start_judged plan f.before f.reached s id c x)
    start_fetches f id c (Some answer) = refuses answer
    start_fetches f id c None = taken (find_group id c.group s.started)
      where
        taken : (x : Option StartedGroup) → KeepsFetches s (start_taken plan f.before f.reached s id c x)
        taken (Some e) = sends_one (startok_of s.shard e) tt
        taken None =
            let r = start_taken plan f.before f.reached s id c None in
            record {
              asked = λ t h. h;
              askers = waits;
              sends = λ out h. subst (λ (out : Outgoing). FetchedFor (IsFor For r.state) out.msg out.to) (sym (has_one out (startok_of s.shard (new_group plan f.before f.reached s id c)) h)) tt;
              shard = refl;
            }

    -- the lists change, and what they newly decide runs
    module _ (lists : Lists) (components : List (List TxnId)) (told asks : List Outgoing)
        (keeps : (id : TxnId) → WasAskedFor id s → (was_asked_for id lists.waiting.asked ≡ true) ⊎ (is_ended s.below id ≡ true))
        (still : (a : Asker) → Has a lists.waiting.askers → For a.id a.shard.0)
        (told_are : (out : Outgoing) → Has out told → FetchedFor For out.msg out.to)
        (asks_are : (out : Outgoing) → Has out asks → FetchedFor (λ id n. (n ≡ s.shard.0) × (was_asked_for id lists.waiting.asked ≡ true)) out.msg out.to) where
      abbrev ts : List TxnId
      ts = flat_map (λ c. c) components

      abbrev before_run : ServerState
      before_run = record s { lists = lists }

      abbrev r : ServerStep
      r = decides plan s lists components told asks

      lists_are : r.state.lists ≡ lists
      lists_are = (take_keeps plan ts before_run).0

      decided_fetches : (more : List Outgoing) → ((out : Outgoing) → Has out more → FetchedFor (IsFor For r.state) out.msg out.to) → KeepsFetches s (record r { sends = r.sends ++ more })
      decided_fetches more others =
          record {
            asked = λ id h. elim (keeps id h) [
              | inl k ↦ inl (subst (λ (l : Lists). was_asked_for id l.waiting.asked ≡ true) (sym lists_are) k)
              | inr e ↦ inr (subst (λ marks. is_ended marks id ≡ true) (sym (take_keeps plan ts before_run).2) e)
            ];
            askers = λ a h. still a (subst (λ (l : Lists). Has a l.waiting.askers) lists_are h);
            sends = λ out h. elim (has_append out r.sends more h) [ inl k ↦ mine out k | inr k ↦ others out k ];
            shard = (take_keeps plan ts before_run).1;
          }
        where
          own : (id : TxnId) (n : ℕ) → (n ≡ s.shard.0) × (was_asked_for id lists.waiting.asked ≡ true) → IsFor For r.state id n
          own id n k = inl (k.0 ∙ ap (λ (s : Shard). s.0) (sym (take_keeps plan ts before_run).1), inl (subst (λ (l : Lists). was_asked_for id l.waiting.asked ≡ true) (sym lists_are) k.1))

          mine : (out : Outgoing) → Has out r.sends → FetchedFor (IsFor For r.state) out.msg out.to
          mine out h =
              elim (has_append out told (map (commitok_of plan r.state) (filter (λ t. is_here t s.started) ts) ++ asks) h) [
                | inl k ↦ fetched_later For (IsFor For r.state) (λ t n f. inr f) out.msg out.to (told_are out k)
                | inr k ↦ elim (has_append out (map (commitok_of plan r.state) (filter (λ t. is_here t s.started) ts)) asks k) [
                  | inl l ↦ (let q = from_has_map (commitok_of plan r.state) out (filter (λ t. is_here t s.started) ts) l in subst (λ (out : Outgoing). FetchedFor (IsFor For r.state) out.msg out.to) (sym q.2) tt)
                  | inr l ↦ fetched_later (λ id n. (n ≡ s.shard.0) × (was_asked_for id lists.waiting.asked ≡ true)) (IsFor For r.state) own out.msg out.to (asks_are out l)
                ]
              ]

    taught_fetches : (news : List KnownList) (components : List (List TxnId)) (more : List Outgoing) → ((out : Outgoing) → Has out more → FetchedFor (IsFor For (taught plan s news components).state) out.msg out.to)
        → KeepsFetches s (record (taught plan s news components) { sends = (taught plan s news components).sends ++ more })
    taught_fetches news components =
        let asks = missing_after s news in
        decided_fetches (lists_after s news components) components (flat_map (knowns_for s.lists.waiting.askers) news) (map (fetch_from s.shard) asks)
        (λ id h. elim h [ inl k ↦ inl (asked_still id asks s.lists.waiting.asked k) | inr e ↦ inr e ])
        (λ a h. waits a (from_has_filter (λ (a : Asker). not (list_any (λ (k : KnownList). is_txn k.of a.id) news)) a s.lists.waiting.askers h).0)
        (λ out h.
        let p = from_has_flat_map (knowns_for s.lists.waiting.askers) out news h in
        let q = from_has_map (known_to p.0) out (askers_of p.0.of s.lists.waiting.askers) p.2 in
        let a = from_has_filter (λ (a : Asker). is_txn a.id p.0.of) q.0 s.lists.waiting.askers q.1 in
        subst (λ (out : Outgoing). FetchedFor For out.msg out.to) (sym q.2) (subst (λ t. For t q.0.shard.0) (is_txn-true q.0.id p.0.of a.1) (waits q.0 a.0)))
        (λ out h.
        let q = from_has_map (fetch_from s.shard) out asks h in
        subst (λ (out : Outgoing). FetchedFor (λ id n. (n ≡ s.shard.0) × (was_asked_for id (with_all_asked asks s.lists.waiting.asked) ≡ true)) out.msg out.to) (sym q.2) (refl, asked_all q.0 asks s.lists.waiting.asked q.1))

    commit_fetches : (before : List TxnId) (components : List (List TxnId)) (id : TxnId) (edges : List Dependency) (facts : List KnownList) (x : Option Handled) → KeepsFetches s (after_commit plan before components s id edges facts x)
    commit_fetches before components id edges facts (Some answer) = refuses answer
    commit_fetches before components id edges facts None =
        let news = unknown_of s.lists.known (carried id edges facts) in
        let r = taught plan s news components in
        forgets s (commit_taken plan before s id r) (taught_fetches news components (if is_listed is_txn before id then commitok_of plan r.state id ∷ [] else []) (again r.state (is_listed is_txn before id)))
      where
        again : (v : ServerState) (b : Bool) (out : Outgoing) → Has out (if b then commitok_of plan v id ∷ [] else []) → FetchedFor (IsFor For v) out.msg out.to
        again v true out h = subst (λ (out : Outgoing). FetchedFor (IsFor For v) out.msg out.to) (sym (has_one out (commitok_of plan v id) h)) tt
        again v false out h = absurd h

    fetch_fetches : (id : TxnId) (asker : Shard) → For id asker.0 → KeepsFetches s (after_fetch s id asker)
    fetch_fetches id asker k = ended (not (is_here id s.started) && is_ended s.below id)
      where
        taken : (x : Option (List Dependency)) → KeepsFetches s (fetch_taken s id asker x)
        taken (Some edges) = sends_one (known_to (list_with id edges) (record { id = id; shard = asker })) (inr k)
        taken None =
            let a : Asker = record { id = id; shard = asker } in
            record {
              asked = λ t h. h;
              askers = λ b h. elim (has_append b (filter (λ x. is_asker_before x a) s.lists.waiting.askers) (a ∷ filter (λ x. is_asker_before a x) s.lists.waiting.askers) h) [
                | inl l ↦ waits b (from_has_filter (λ x. is_asker_before x a) b s.lists.waiting.askers l).0
                | inr l ↦ elim l [ inl e ↦ subst (λ (b : Asker). For b.id b.shard.0) (sym e) k | inr j ↦ waits b (from_has_filter (λ x. is_asker_before a x) b s.lists.waiting.askers j).0 ]
              ];
              sends = λ out h. absurd h;
              shard = refl;
            }

        here : (b : Bool) → KeepsFetches s (if b then fetch_taken s id asker (list_of id s.lists.known) else ignored s NotHere)
        here true = taken (list_of id s.lists.known)
        here false = refuses (Ignored NotHere)

        ended : (b : Bool) → KeepsFetches s (if b then answered s (settled_to s id asker ∷ []) else (if is_here id s.started then fetch_taken s id asker (list_of id s.lists.known) else ignored s NotHere))
        ended true = sends_one (settled_to s id asker) tt
        ended false = here (is_here id s.started)

    known_fetches : (components : List (List TxnId)) (id : TxnId) (edges : List Dependency) (x : Option Handled) → KeepsFetches s (after_known plan components s id edges x)
    known_fetches components id edges (Some answer) = refuses answer
    known_fetches components id edges None =
        let r = taught plan s (unknown_of s.lists.known (list_with id edges ∷ [])) components in
        forgets s r
        (subst (λ outs. KeepsFetches s (record r { sends = outs })) (append-nil r.sends) (taught_fetches (unknown_of s.lists.known (list_with id edges ∷ [])) components [] (λ out h. absurd h)))

  module _ (s : ServerState) (waits : (a : Asker) → Has a s.lists.waiting.askers → For a.id a.shard.0) where
    settled_fetches : (components : List (List TxnId)) (id : TxnId) (mark : ℕ) → KeepsFetches s (after_settled plan components s id mark)
    settled_fetches components id mark = heard_first s id.coord mark (after_settled plan components s id mark) (go (was_asked_for id s.lists.waiting.asked))
      where
        h : ServerState
        h = hearing s id.coord mark

        lists : Lists
        lists = lists_settled s id mark components

        r : ServerStep
        r = decides plan h lists components [] []

        -- what is not asked for any more has ended
        left : (b : Bool) (t : TxnId) → WasAskedFor t h → (was_asked_for t (if b then s.lists.waiting else without_asked (is_settled s id mark) s.lists.waiting).asked ≡ true) ⊎ (is_ended h.below t ≡ true)
        left true t k = k
        left false t (inr e) = inr e
        left false t (inl k) = elim (asked_some (is_settled s id mark) t s.lists.waiting.asked k) [ inl j ↦ inl j | inr e ↦ inr (and_parts (is_txn t id) (is_ended h.below t) e).1 ]

        waits_still : (b : Bool) (a : Asker) → Has a (if b then s.lists.waiting else without_asked (is_settled s id mark) s.lists.waiting).askers → For a.id a.shard.0
        waits_still true a k = waits a k
        waits_still false a k = waits a k

        go : (b : Bool) → KeepsFetches h (forgetting (if b then r else refused h Gone))
        go true =
            forgets h r
            (subst (λ outs. KeepsFetches h (record r { sends = outs })) (append-nil r.sends)
            (decided_fetches h waits lists components [] [] (left (is_known s.lists.known id)) (waits_still (is_known s.lists.known id)) (λ out k. absurd k) (λ out k. absurd k) [] (λ out k. absurd k)))
        go false = forgets h (refused h Gone) (refuses h waits Gone)

    pub message_fetches : (msg : Msg) (to : Node) (r : ServerStep) → Handles plan s msg r → FetchedFor For msg to → KeepsFetches s r
    message_fetches msg to r h k = subst (KeepsFetches s) (sym h.is) (go msg k)
      where
        go : (msg : Msg) → FetchedFor For msg to → KeepsFetches s (after_message plan s h.findings msg)
        go (Start id proc group args inputs) k = start_fetches s waits h.findings id (call proc group args inputs) (start_refusal plan s id (call proc group args inputs))
        go (Commit id edges facts) k = commit_fetches s waits h.findings.before h.findings.components id edges facts (commit_refusal s id edges facts)
        go (Fetch id asker) k = fetch_fetches s waits id asker k
        go (Known id edges) k = known_fetches s waits h.findings.components id edges (known_refusal s id edges)
        go (Ended coord mark) k = heard_first s coord mark (after_ended s coord mark) (forgets (hearing s coord mark) (answered (hearing s coord mark) []) (refuses (hearing s coord mark) waits Done))
        go (Settled id mark) k = settled_fetches h.findings.components id mark
        go (Read id round proc group args) k = for_read plan s (record { id = id; round = round; proc = proc; group = group; args = args }) (KeepsFetches s) (refuses s waits)
        go msg k = refuses s waits (Ignored Foreign)

    pub tick_fetches : KeepsFetches s (answered s (tick_sends s))
    tick_fetches =
        record {
          asked = λ id h. h;
          askers = waits;
          sends = λ out h.
              (let q = from_has_map (fetch_from s.shard) out (filter (λ (a : OpenFetch). not (is_known s.lists.known a.id)) s.lists.waiting.asked) h in
              let a = (from_has_filter (λ (a : OpenFetch). not (is_known s.lists.known a.id)) q.0 s.lists.waiting.asked q.1).0 in
              subst (λ (out : Outgoing). FetchedFor (IsFor For s) out.msg out.to) (sym q.2) (inl (refl, inl (has_any (λ (x : OpenFetch). is_txn x.id q.0.id) s.lists.waiting.asked q.0 a (is_txn-eq q.0.id q.0.id refl)))));
          shard = refl;
        }

-- ---- worlds

-- shard n asked for the list of t, or has heard that it has ended
pub record IsAskedFor (servers : List ServerState) (t : TxnId) (n : ℕ) : Type 0 where
  pub server : ServerState
  pub there : slice_get servers n ≡ Some server
  pub was : WasAskedFor t server

pub record HasAsked (w : World) : Type 0 where
  pub numbers : (n : ℕ) (s : ServerState) → slice_get w.servers n ≡ Some s → s.shard.0 ≡ n
  pub sent : (m : Envelope) → Has m w.sent → FetchedFor (IsAskedFor w.servers) m.msg m.to
  pub askers : (n : ℕ) (s : ServerState) → slice_get w.servers n ≡ Some s → (a : Asker) → Has a s.lists.waiting.askers → IsAskedFor w.servers a.id a.shard.0

module _ (plan : Plan) (w : World) (o : HasAsked w) where
  pub served_asked : (n : ℕ) (s : ServerState) (there : slice_get w.servers n ≡ Some s) (r : ServerStep) → KeepsFetches plan (IsAskedFor w.servers) s r → HasAsked (at_server w n r)
  served_asked n s there r k =
      record {
        numbers = λ m v h. elim (get-set_cases w.servers n m s r.state v there h) [ inl e ↦ ap (λ (v : ServerState). v.shard.0) e.1 ∙ (ap (λ (s : Shard). s.0) k.shard ∙ (o.numbers n s there ∙ e.0)) | inr e ↦ o.numbers m v e.1 ];
        sent = λ m h. elim (has_append m w.sent (map (sent_by (Server (record { 0 = n }))) r.sends) h) [
          | inl j ↦ fetched_later (IsAskedFor w.servers) (IsAskedFor (slice_set w.servers n r.state)) later m.msg m.to (o.sent m j)
          | inr j ↦
              (let q = from_has_map (sent_by (Server (record { 0 = n }))) m r.sends j in
              subst (λ (m : Envelope). FetchedFor (IsAskedFor (slice_set w.servers n r.state)) m.msg m.to) (sym q.2) (fetched_later (IsFor (IsAskedFor w.servers) r.state) (IsAskedFor (slice_set w.servers n r.state)) new q.0.msg q.0.to (k.sends q.0 q.1)))
        ];
        askers = λ m v h a j. later a.id a.shard.0 (elim (get-set_cases w.servers n m s r.state v there h) [ inl e ↦ k.askers a (subst (λ (v : ServerState). Has a v.lists.waiting.askers) e.1 j) | inr e ↦ o.askers m v e.1 a j ]);
      }
    where
      later : (t : TxnId) (m : ℕ) → IsAskedFor w.servers t m → IsAskedFor (slice_set w.servers n r.state) t m
      later t m a = elim (cases_eq n m) [
        | inl e ↦
            (let same : a.server ≡ s = (let x = subst (λ m. slice_get w.servers m ≡ Some a.server) (sym e) a.there in let y = there in cc) in
            record { server = r.state; there = subst (λ m. slice_get (slice_set w.servers n r.state) m ≡ Some r.state) e (get-set_here w.servers n s r.state there); was = k.asked t (subst (WasAskedFor t) same a.was) })
        | inr e ↦ record { server = a.server; there = get-set_other w.servers n m r.state e ∙ a.there; was = a.was }
      ]

      new : (t : TxnId) (m : ℕ) → IsFor (IsAskedFor w.servers) r.state t m → IsAskedFor (slice_set w.servers n r.state) t m
      new t m (inl (e, was)) = record { server = r.state; there = subst (λ m. slice_get (slice_set w.servers n r.state) m ≡ Some r.state) (sym (e ∙ (ap (λ (s : Shard). s.0) k.shard ∙ o.numbers n s there))) (get-set_here w.servers n s r.state there); was = was }
      new t m (inr a) = later t m a

  pub coordinated_asked : (n : ℕ) (after : CoordState) (outs : List Outgoing) (tells : List Entry) → ((out : Outgoing) → Has out outs → IsRound out.msg) → HasAsked (at_coord w n after outs tells)
  coordinated_asked n after outs tells none =
      record {
        numbers = o.numbers;
        sent = λ m h. elim (has_append m w.sent (map (sent_by (Coord n)) outs) h) [
          | inl j ↦ o.sent m j
          | inr j ↦ (let q = from_has_map (sent_by (Coord n)) m outs j in subst (λ (m : Envelope). FetchedFor (IsAskedFor w.servers) m.msg m.to) (sym q.2) (of_round q.0.msg q.0.to (none q.0 q.1)))
        ];
        askers = o.askers;
      }
    where
      of_round : (msg : Msg) (to : Node) → IsRound msg → FetchedFor (IsAskedFor w.servers) msg to
      of_round (Start id proc group args inputs) to k = tt
      of_round (Commit id edges facts) to k = tt
      of_round (Ended coord mark) to k = tt
      of_round msg to k = absurd k

  pub comes_asked : (k : ℕ) → HasAsked (mark_delivered w k)
  comes_asked k = record { numbers = o.numbers; sent = o.sent; askers = o.askers }
