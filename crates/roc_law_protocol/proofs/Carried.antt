-- Lists that servers know and messages carry come from lists that were known and carried
use Rattle.std.proofs.Common.{◌≡◌, ℕ, ◌<◌, ◌==◌, ◌&&◌, Bool, true, false, not, List, [], ◌∷◌, ◌++◌, Option, Some, None, length, max, map, ap, refl, sym, subst, ◌∙◌, ◌⊎◌, inl, inr, append-nil}
use Rattle.std.proofs.lemmas.List.{length-set}
use Rattle.std.proofs.lemmas.Bool.{and_from, and_parts, eq-eqb, eqb-true}
use Rattle.std.specs.Prelude.{filter, flat_map, if◌then◌else◌}
use Rattle.roc_sequence.specs.Lists.{Has}
use Rattle.roc_sequence.specs.Places.{IsListed, is_listed}
use Rattle.roc_sequence.proofs.Found.{found_has}
use Rattle.roc_sequence.proofs.Members.{has_append, has_one, from_has_map, from_has_filter, from_has_flat_map}
use Rattle.roc_base.specs.declared.id.TxnId.{TxnId}
use Rattle.roc_base.specs.declared.node.Shard.{Shard}
use Rattle.roc_base.specs.TxnId.{is_txn}
use Rattle.roc_base.specs.Equalities.{is_txn-true, is_txn-same}
use Rattle.roc_base.specs.Edge.{Dependency}
use Rattle.roc_depgraph.specs.declared.known.KnownList.{KnownList}
use Rattle.roc_depgraph.specs.Deps.{list_of, is_known, IsKnown}
use Rattle.roc_step.specs.declared.waits.OpenFetch.{OpenFetch}
use Rattle.roc_step.specs.Waits.{was_asked_for, askers_of}
use Rattle.roc_msg.specs.declared.msg.Msg.{Msg}
use Rattle.roc_msg.specs.declared.msg.Msg.TheVariants.{Start, StartOk, Commit, CommitOk, Fetch, Known, Ended, Settled, Read}
use Rattle.roc_msg.specs.declared.outbox.Outgoing.{Outgoing}
use Rattle.roc_msg.specs.declared.reason.Reason.TheVariants.{NotHere, Foreign}
use Rattle.roc_msg.specs.Facts.{is_fact_before}
use Rattle.roc_plan.specs.Groups.{Plan}
use Rattle.roc_group.specs.GroupRun.{GroupCall, call}
use Rattle.roc_step.specs.declared.started.StartedGroup.{StartedGroup}
use Rattle.roc_step.specs.State.{refused, ignored, answered, is_here, is_group, find_group, Lists, ServerState, ServerStep, unrun, hearing}
use Rattle.roc_step.specs.Below.{is_ended, mark_of}
use Rattle.roc_step.specs.Forgets.{forget, forgetting}
use Rattle.roc_step.specs.Start.{start_refusal, start_taken, start_judged, startok_of, new_group}
use Rattle.roc_step.specs.Runs.{commitok_of}
use Rattle.roc_step.specs.Carried.{list_with, carried, unknown_of}
use Rattle.roc_step.specs.Asking.{known_to, knowns_for, fetch_from}
use Rattle.roc_step.proofs.SameIds.{ids_of, ids_without, known_alike}
use Rattle.roc_step.specs.Lists.{lists_after, missing_after, decides, taught, commit_refusal, after_commit, fetch_taken, settled_to, after_fetch, known_refusal, after_known, after_ended, is_settled, lists_settled, after_settled}
use Rattle.roc_step.specs.Step.{Findings, AreFindings, Handles, after_message, tick_sends}
use Rattle.roc_law_protocol.specs.Final.{lists_in}
use Rattle.roc_law_protocol.proofs.Facts.{facts_known}
use Rattle.roc_law_protocol.proofs.Served.{list_has}
use Rattle.roc_law_protocol.proofs.KeptGroups.{take_keeps, take_same}
use Rattle.roc_law_protocol.proofs.OneGroupMore.{find_front, find_last, here_more}
use Rattle.roc_law_protocol.proofs.Gone.{IsGone, gone_same, gone_hears, gone_begins, gone_taught}
use Rattle.roc_law_protocol.proofs.ForgottenHere.{forgotten, was_there, gone_still, here_or_gone, found_or_gone, same_left, same_learnt}
use Rattle.roc_step.proofs.Raised.{ended_still}
use Rattle.roc_law_protocol.proofs.MarksKept.{below_mark}
use Rattle.roc_law_protocol.proofs.Taking.{starts_here, commits_here}
use Rattle.roc_step.specs.declared.handled.Handled.{Handled}
use Rattle.roc_step.specs.declared.handled.Handled.TheVariants.{Done, Ignored, Gone}
use Rattle.roc_law_protocol.proofs.ReadsHere.{for_read}

-- ---- a step of a server

-- what a startok tells is what is kept of its group, and who is told of a commit has a group here, or is gone; and who is said to be settled is below
-- the watermark that is told of it, which can be heard
abbrev pub IsToldBy : Shard → ServerState → Msg → Type 0
IsToldBy shard v (StartOk id group at bound outs edges facts) = (at ≡ shard) × (e : StartedGroup) × (find_group id group v.started ≡ Some e) × (e.bound ≡ bound) × (e.outs ≡ outs) × (e.edges ≡ edges) × (e.facts ≡ facts)
IsToldBy shard v (CommitOk id at outs) = (at ≡ shard) × ((is_here id v.started ≡ true) ⊎ IsGone v id)
IsToldBy shard v (Settled id mark) = (id.seq < mark) × (id.coord < length v.below)
IsToldBy shard v msg = Unit {0}

-- all of these lists are good
abbrev pub AllGood : (TxnId → List Dependency → Type 0) → List KnownList → Type 0
AllGood Good lists = (k : KnownList) → Has k lists → Good k.of k.edges

-- what is to start is here
abbrev pub StartsHere : (TxnId → ℕ → Type 0) → Msg → Type 0
StartsHere Here (Start id proc group args inputs) = Here id group
StartsHere Here msg = Unit {0}

pub record HoldsGood (Good : TxnId → List Dependency → Type 0) (Here : TxnId → ℕ → Type 0) (v : ServerState) : Type 0 where
  pub groups : (e : StartedGroup) → Has e v.started → Here e.id e.group
  pub known : AllGood Good v.lists.known
  pub facts : (e : StartedGroup) → Has e v.started → AllGood Good e.facts
  -- what is followed is of the lists that are known
  pub same : ids_of v.lists.links ≡ ids_of v.lists.known

module _ (plan : Plan) (Good : TxnId → List Dependency → Type 0) (Here : TxnId → ℕ → Type 0) where
  pub record KeepsGood (s : ServerState) (r : ServerStep) : Type 0 where
    pub state : HoldsGood Good Here r.state
    pub sends : (out : Outgoing) → Has out r.sends → AllGood Good (lists_in out.msg)
    pub told : (out : Outgoing) → Has out r.sends → IsToldBy s.shard r.state out.msg
    -- what is kept of a group stays, and who has a group here has one, but for those of transactions that are gone; and these stay gone
    pub kept : (id : TxnId) (g : ℕ) (e : StartedGroup) → find_group id g s.started ≡ Some e → ((f : StartedGroup) × (find_group id g r.state.started ≡ Some f) × (unrun f ≡ unrun e)) ⊎ IsGone r.state id
    pub here : (id : TxnId) → is_here id s.started ≡ true → (is_here id r.state.started ≡ true) ⊎ IsGone r.state id
    pub gone : (id : TxnId) → IsGone s id → IsGone r.state id
    -- what has ended has, and as many watermarks are kept
    pub ended : (id : TxnId) → is_ended s.below id ≡ true → is_ended r.state.below id ≡ true
    pub marks : length r.state.below ≡ length s.below
    pub shard : r.state.shard ≡ s.shard

  -- what is forgotten is gone
  holds_left : (v : ServerState) → HoldsGood Good Here v → HoldsGood Good Here (forget v)
  holds_left v holds =
      record {
        groups = λ e h. holds.groups e (was_there v e h).0;
        known = λ k h. holds.known k (from_has_filter (λ k. not (forgotten v k.of)) k v.lists.known h).0;
        facts = λ e h. holds.facts e (was_there v e h).0;
        same = same_left v holds.same;
      }

  -- a watermark is heard first
  hears_first : (s : ServerState) (coord mark : ℕ) (r : ServerStep) → KeepsGood (hearing s coord mark) r → KeepsGood s r
  hears_first s coord mark r k = record { state = k.state; sends = k.sends; told = k.told; kept = k.kept; here = k.here; gone = λ t g. k.gone t (gone_hears s coord mark t g); ended = λ t e. k.ended t (ended_still s.below coord mark t e); marks = k.marks ∙ length-set s.below coord (max (mark_of s.below coord) mark); shard = k.shard }

  module _ (s : ServerState) (holds : HoldsGood Good Here s) where
    refuses : (answer : Handled) → KeepsGood s (refused s answer)
    refuses answer = record { state = holds; sends = λ out h. absurd h; told = λ out h. absurd h; kept = λ id g e h. inl (e, h, refl); here = λ id h. inl h; gone = λ id h. h; ended = λ id e. e; marks = refl; shard = refl }

    -- nothing changes
    answers : (outs : List Outgoing) → ((out : Outgoing) → Has out outs → AllGood Good (lists_in out.msg)) → ((out : Outgoing) → Has out outs → IsToldBy s.shard s out.msg) → KeepsGood s (answered s outs)
    answers outs sends told = record { state = holds; sends = sends; told = told; kept = λ id g e h. inl (e, h, refl); here = λ id h. inl h; gone = λ id h. h; ended = λ id e. e; marks = refl; shard = refl }

    one_sent : (P : Msg → Type 0) (out x : Outgoing) → Has out (x ∷ []) → P x.msg → P out.msg
    one_sent P out x h k = subst (λ (out : Outgoing). P out.msg) (sym (has_one out x h)) k

    -- ---- a start

    module _ (f : Findings) (id : TxnId) (c : GroupCall) (led : (u : TxnId) → IsListed is_txn f.reached u → IsKnown s.lists.links u) (mine : Here id c.group) where
      abbrev e : StartedGroup
      e = new_group plan f.before f.reached s id c

      facts_good : AllGood Good e.facts
      facts_good k h =
          let q = facts_known s.lists.known f.reached (λ u l. sym (known_alike s.lists.known s.lists.links holds.same u) ∙ led u l) k h in
          subst (λ t. Good t k.edges) q.2 (subst (Good q.0.of) (sym q.3) (holds.known q.0 q.1))

      start_good : (x : Option Handled) → start_refusal plan s id c ≡ x → KeepsGood s (start_judged plan f.before f.reached s id c x)
      start_good (Some answer) why = refuses answer
      start_good None why = taken (find_group id c.group s.started) refl
        where
          taken : (x : Option StartedGroup) → find_group id c.group s.started ≡ x → KeepsGood s (start_taken plan f.before f.reached s id c x)
          taken (Some b) k =
              let q = found_has (is_group id c.group) s.started b k in
              let p = and_parts (is_txn b.id id) (b.group == c.group) q.1 in
              answers (startok_of s.shard b ∷ [])
              (λ out h. one_sent (λ m. AllGood Good (lists_in m)) out (startok_of s.shard b) h (holds.facts b q.0))
              (λ out h. one_sent (IsToldBy s.shard s) out (startok_of s.shard b) h
              (refl, b, (λ i. find_group (is_txn-true b.id id p.0 i) (eqb-true b.group c.group p.1 i) s.started) ∙ k, refl, refl, refl, refl))
          taken None k =
              let v = (start_taken plan f.before f.reached s id c None).state in
              record {
                state = record {
                  groups = λ b h. elim (has_append b s.started (e ∷ []) h) [ inl j ↦ holds.groups b j | inr j ↦ subst (λ (b : StartedGroup). Here b.id b.group) (sym (has_one b e j)) mine ];
                  known = holds.known;
                  facts = λ b h. elim (has_append b s.started (e ∷ []) h) [ inl j ↦ holds.facts b j | inr j ↦ subst (λ (b : StartedGroup). AllGood Good b.facts) (sym (has_one b e j)) facts_good ];
                  same = holds.same;
                };
                sends = λ out h. one_sent (λ m. AllGood Good (lists_in m)) out (startok_of s.shard e) h facts_good;
                told = λ out h. one_sent (IsToldBy s.shard v) out (startok_of s.shard e) h
                    (refl, e, find_last (is_group id c.group) s.started e k (and_from (is_txn id id) (c.group == c.group) (is_txn-same id) (eq-eqb c.group c.group refl)), refl, refl, refl, refl);
                kept = λ u g b h. inl (b, find_front (is_group u g) s.started (e ∷ []) b h, refl);
                here = λ u h. inl (here_more s.started (new_group plan f.before f.reached s id c) u h);
                gone = λ t. gone_begins s v e (starts_here plan s id c why k) t refl refl;
                ended = λ t e. e;
                marks = refl;
                shard = refl;
              }

    -- ---- the lists change, and what they newly decide runs

    -- what is sent then: known lists, commitoks of transactions with groups here, fetches
    abbrev IsAnswer : Msg → Type 0
    IsAnswer (Known id edges) = Good id edges
    IsAnswer (CommitOk id at outs) = (at ≡ s.shard) × (is_here id s.started ≡ true)
    IsAnswer (Fetch id asker) = Unit {0}
    IsAnswer msg = ⊥

    abbrev AreAnswers : List Outgoing → Type 0
    AreAnswers outs = (out : Outgoing) → Has out outs → IsAnswer out.msg

    good_lists : (m : Msg) → IsAnswer m → AllGood Good (lists_in m)
    good_lists (Known id edges) a k h = subst (λ (l : KnownList). Good l.of l.edges) (sym (has_one k (list_with id edges) h)) a
    good_lists (CommitOk id at outs) a k h = absurd h
    good_lists (Fetch id asker) a k h = absurd h
    good_lists m a k h = absurd a

    is_told : (v : ServerState) → ((t : TxnId) → is_here t s.started ≡ true → (is_here t v.started ≡ true) ⊎ IsGone v t) → (m : Msg) → IsAnswer m → IsToldBy s.shard v m
    is_told v stays (CommitOk id at outs) a = (a.0, stays id a.1)
    is_told v stays (Known id edges) a = tt
    is_told v stays (Fetch id asker) a = tt
    is_told v stays m a = absurd a

    module _ (lists : Lists) (good : AllGood Good lists.known) (same : ids_of lists.links ≡ ids_of lists.known) (components : List (List TxnId)) (told asks : List Outgoing) (told_are : AreAnswers told) (asks_are : AreAnswers asks) where
      abbrev before_run : ServerState
      before_run = record s { lists = lists }

      abbrev ts : List TxnId
      ts = flat_map (λ c. c) components

      abbrev r : ServerStep
      r = decides plan s lists components told asks

      abbrev left : ServerState
      left = forget r.state

      decided_state : HoldsGood Good Here r.state
      decided_state =
          record {
            groups = λ e h. (let q = (take_same plan ts before_run).from e h in subst (λ (e : StartedGroup). Here e.id e.group) (sym q.2) (holds.groups q.0 q.1));
            known = subst (λ (l : Lists). AllGood Good l.known) (sym (take_keeps plan ts before_run).0) good;
            facts = λ e h. (let q = (take_same plan ts before_run).from e h in subst (λ (e : StartedGroup). AllGood Good e.facts) (sym q.2) (holds.facts q.0 q.1));
            same = subst (λ (l : Lists). ids_of l.links ≡ ids_of l.known) (sym (take_keeps plan ts before_run).0) same;
          }

      commitoks_are : AreAnswers (map (commitok_of plan r.state) (filter (λ t. is_here t s.started) ts))
      commitoks_are out h =
          let q = from_has_map (commitok_of plan r.state) out (filter (λ t. is_here t s.started) ts) h in
          subst (λ (out : Outgoing). IsAnswer out.msg) (sym q.2) ((take_keeps plan ts before_run).1, (from_has_filter (λ t. is_here t s.started) q.0 ts q.1).1)

      decided_sends : AreAnswers r.sends
      decided_sends out h = elim (has_append out told (map (commitok_of plan r.state) (filter (λ t. is_here t s.started) ts) ++ asks) h) [
        | inl k ↦ told_are out k
        | inr k ↦ elim (has_append out (map (commitok_of plan r.state) (filter (λ t. is_here t s.started) ts)) asks k) [ inl l ↦ commitoks_are out l | inr l ↦ asks_are out l ]
      ]

      here_still : (t : TxnId) → is_here t s.started ≡ true → (is_here t left.started ≡ true) ⊎ IsGone left t
      here_still t h = here_or_gone r.state t ((take_same plan ts before_run).here t h)

      decided_good : (more : List Outgoing) → AreAnswers more → KeepsGood s (forgetting (record r { sends = r.sends ++ more }))
      decided_good more more_are =
          let all_are : AreAnswers (r.sends ++ more) = λ out h. elim (has_append out r.sends more h) [ inl k ↦ decided_sends out k | inr k ↦ more_are out k ] in
          record {
            state = holds_left r.state decided_state;
            sends = λ out h. good_lists out.msg (all_are out h);
            told = λ out h. is_told left here_still out.msg (all_are out h);
            kept = λ id g e h.
                let q = (take_same plan ts before_run).found id g e h in
                elim (found_or_gone r.state id g q.0 q.1) [ inl k ↦ inl (q.0, k, q.2) | inr gone ↦ inr gone ];
            here = here_still;
            gone = λ t g. gone_still r.state t (gone_taught plan s lists ts t g);
            ended = λ t e. subst (λ marks. is_ended marks t ≡ true) (sym (take_keeps plan ts before_run).2) e;
            marks = ap length (take_keeps plan ts before_run).2;
            shard = (take_keeps plan ts before_run).1;
          }

    -- ---- lists that are taught

    module _ (news : List KnownList) (good : AllGood Good news) (components : List (List TxnId)) where
      all_good : AllGood Good (s.lists.known ++ news)
      all_good k h = elim (has_append k s.lists.known news h) [ inl j ↦ holds.known k j | inr j ↦ good k j ]

      told_news : AreAnswers (flat_map (knowns_for s.lists.waiting.askers) news)
      told_news out h =
          let p = from_has_flat_map (knowns_for s.lists.waiting.askers) out news h in
          let q = from_has_map (known_to p.0) out (askers_of p.0.of s.lists.waiting.askers) p.2 in
          subst (λ (out : Outgoing). IsAnswer out.msg) (sym q.2) (good p.0 p.1)

      taught_good : (more : List Outgoing) → AreAnswers more → KeepsGood s (forgetting (record (taught plan s news components) { sends = (taught plan s news components).sends ++ more }))
      taught_good =
          decided_good (lists_after s news components) all_good (same_learnt s news holds.same) components (flat_map (knowns_for s.lists.waiting.askers) news) (map (fetch_from s.shard) (missing_after s news)) told_news
          (λ out h. let q = from_has_map (fetch_from s.shard) out (missing_after s news) h in subst (λ (out : Outgoing). IsAnswer out.msg) (sym q.2) tt)

    commit_good : (before : List TxnId) (components : List (List TxnId)) (id : TxnId) (edges : List Dependency) (facts : List KnownList) → AllGood Good (list_with id edges ∷ facts)
        → (x : Option Handled) → commit_refusal s id edges facts ≡ x → KeepsGood s (after_commit plan before components s id edges facts x)
    commit_good before components id edges facts good (Some answer) why = refuses answer
    commit_good before components id edges facts good None why =
        taught_good news (λ k h. good k (from_carried k (from_has_filter (λ k. not (is_known s.lists.known k.of)) k (carried id edges facts) h).0)) components
        (if is_listed is_txn before id then commitok_of plan r.state id ∷ [] else []) (again (is_listed is_txn before id))
      where
        news : List KnownList
        news = unknown_of s.lists.known (carried id edges facts)

        r : ServerStep
        r = taught plan s news components

        from_carried : (k : KnownList) → Has k (carried id edges facts) → Has k (list_with id edges ∷ facts)
        from_carried k h = elim (has_append k (filter (λ x. is_fact_before x (list_with id edges)) facts) (list_with id edges ∷ filter (λ x. is_fact_before (list_with id edges) x) facts) h) [
          | inl a ↦ inr (from_has_filter (λ x. is_fact_before x (list_with id edges)) k facts a).0
          | inr b ↦ elim b [ inl e ↦ inl e | inr a ↦ inr (from_has_filter (λ x. is_fact_before (list_with id edges) x) k facts a).0 ]
        ]

        again : (b : Bool) → AreAnswers (if b then commitok_of plan r.state id ∷ [] else [])
        again true out h = one_sent IsAnswer out (commitok_of plan r.state id) h ((take_keeps plan (flat_map (λ c. c) components) (record s { lists = lists_after s news components })).1, commits_here s id edges facts why)
        again false out h = absurd h

    fetch_good : (id : TxnId) (asker : Shard) → KeepsGood s (after_fetch s id asker)
    fetch_good id asker = ended (not (is_here id s.started) && is_ended s.below id) refl
      where
        taken : (x : Option (List Dependency)) → list_of id s.lists.known ≡ x → KeepsGood s (fetch_taken s id asker x)
        taken (Some edges) e =
            let k = list_has s.lists.known id edges e in
            answers (known_to (list_with id edges) (record { id = id; shard = asker }) ∷ [])
            (λ out h. one_sent (λ m. AllGood Good (lists_in m)) out (known_to (list_with id edges) (record { id = id; shard = asker })) h
            (λ l j. subst (λ (l : KnownList). Good l.of l.edges) (sym (has_one l (list_with id edges) j)) (subst (Good id) k.3 (subst (λ t. Good t k.0.edges) k.2 (holds.known k.0 k.1)))))
            (λ out h. one_sent (IsToldBy s.shard s) out (known_to (list_with id edges) (record { id = id; shard = asker })) h tt)
        taken None e =
            record {
              state = record { groups = holds.groups; known = holds.known; facts = holds.facts; same = holds.same };
              sends = λ out h. absurd h;
              told = λ out h. absurd h;
              kept = λ id g e h. inl (e, h, refl);
              here = λ id h. inl h;
              gone = λ t. gone_same s (fetch_taken s id asker None).state t refl refl;
              ended = λ t e. e;
              marks = refl;
              shard = refl;
            }

        here : (b : Bool) → KeepsGood s (if b then fetch_taken s id asker (list_of id s.lists.known) else ignored s NotHere)
        here true = taken (list_of id s.lists.known) refl
        here false = refuses (Ignored NotHere)

        ended : (b : Bool) → not (is_here id s.started) && is_ended s.below id ≡ b → KeepsGood s (if b then answered s (settled_to s id asker ∷ []) else (if is_here id s.started then fetch_taken s id asker (list_of id s.lists.known) else ignored s NotHere))
        ended true e =
            answers (settled_to s id asker ∷ []) (λ out h. one_sent (λ m. AllGood Good (lists_in m)) out (settled_to s id asker) h (λ k j. absurd j))
            (λ out h. one_sent (IsToldBy s.shard s) out (settled_to s id asker) h (below_mark s.below id (and_parts (not (is_here id s.started)) (is_ended s.below id) e).1))
        ended false e = here (is_here id s.started)

    known_good : (components : List (List TxnId)) (id : TxnId) (edges : List Dependency) → Good id edges → (x : Option Handled) → KeepsGood s (after_known plan components s id edges x)
    known_good components id edges good (Some answer) = refuses answer
    known_good components id edges good None =
        let news = unknown_of s.lists.known (list_with id edges ∷ []) in
        subst (λ outs. KeepsGood s (forgetting (record (taught plan s news components) { sends = outs }))) (append-nil (taught plan s news components).sends)
        (taught_good news
        (λ k h. subst (λ (k : KnownList). Good k.of k.edges) (sym (has_one k (list_with id edges) (from_has_filter (λ k. not (is_known s.lists.known k.of)) k (list_with id edges ∷ []) h).0)) good)
        components [] (λ out h. absurd h))

    -- a watermark is heard
    heard : (coord mark : ℕ) → HoldsGood Good Here (hearing s coord mark)
    heard coord mark = record { groups = holds.groups; known = holds.known; facts = holds.facts; same = holds.same }

    -- and what is over is forgotten
    left_good : (answer : Handled) → KeepsGood s (forgetting (refused s answer))
    left_good answer =
        record {
          state = holds_left s holds;
          sends = λ out h. absurd h;
          told = λ out h. absurd h;
          kept = λ id g e h. elim (found_or_gone s id g e h) [ inl k ↦ inl (e, k, refl) | inr gone ↦ inr gone ];
          here = here_or_gone s;
          gone = gone_still s;
          ended = λ t e. e;
          marks = refl;
          shard = refl;
        }

  module _ (s : ServerState) (holds : HoldsGood Good Here s) where
    settled_good : (components : List (List TxnId)) (id : TxnId) (mark : ℕ) → KeepsGood s (after_settled plan components s id mark)
    settled_good components id mark = hears_first s id.coord mark (after_settled plan components s id mark) (go (was_asked_for id s.lists.waiting.asked))
      where
        h : ServerState
        h = hearing s id.coord mark

        r : ServerStep
        r = decides plan h (lists_settled s id mark components) components [] []

        go : (b : Bool) → KeepsGood h (forgetting (if b then r else refused h Gone))
        go true =
            subst (λ outs. KeepsGood h (forgetting (record r { sends = outs }))) (append-nil r.sends)
            (decided_good h (heard s holds id.coord mark) (lists_settled s id mark components) holds.known (ids_without (is_settled s id mark) s.lists.links ∙ holds.same) components [] [] (λ out h. absurd h) (λ out h. absurd h) [] (λ out h. absurd h))
        go false = left_good h (heard s holds id.coord mark) Gone

    pub message_good : (msg : Msg) (r : ServerStep) → Handles plan s msg r → AllGood Good (lists_in msg) → StartsHere Here msg → KeepsGood s r
    message_good msg r h good starts = subst (KeepsGood s) (sym h.is) (go msg h.findings h.found good starts)
      where
        go : (msg : Msg) (f : Findings) → AreFindings plan s msg f → AllGood Good (lists_in msg) → StartsHere Here msg → KeepsGood s (after_message plan s f msg)
        go (Start id proc group args inputs) f found g k = start_good s holds f id (call proc group args inputs) (λ u h. (found.reached.sound u h).0) k (start_refusal plan s id (call proc group args inputs)) refl
        go (Commit id edges facts) f found g k = commit_good s holds f.before f.components id edges facts g (commit_refusal s id edges facts) refl
        go (Fetch id asker) f found g k = fetch_good s holds id asker
        go (Known id edges) f found g k = known_good s holds f.components id edges (g (list_with id edges) (inl refl)) (known_refusal s id edges)
        go (Ended coord mark) f found g k = hears_first s coord mark (after_ended s coord mark) (left_good (hearing s coord mark) (heard s holds coord mark) Done)
        go (Settled id mark) f found g k = settled_good f.components id mark
        go (Read id round proc group args) f found g k = for_read plan s (record { id = id; round = round; proc = proc; group = group; args = args }) (KeepsGood s) (refuses s holds)
        go msg f found g k = refuses s holds (Ignored Foreign)

    pub tick_good : KeepsGood s (answered s (tick_sends s))
    tick_good =
        answers s holds (tick_sends s)
        (λ out h. let q = from_has_map (fetch_from s.shard) out (filter (λ (a : OpenFetch). not (is_known s.lists.known a.id)) s.lists.waiting.asked) h in subst (λ (out : Outgoing). AllGood Good (lists_in out.msg)) (sym q.2) (λ k j. absurd j))
        (λ out h. let q = from_has_map (fetch_from s.shard) out (filter (λ (a : OpenFetch). not (is_known s.lists.known a.id)) s.lists.waiting.asked) h in subst (λ (out : Outgoing). IsToldBy s.shard s out.msg) (sym q.2) tt)
