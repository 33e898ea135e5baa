-- What a message that a server takes leaves behind
use Rattle.std.proofs.Common.{◌≡◌, ℕ, ℤ, ◌==◌, Bool, true, false, not, ◌&&◌, List, [], ◌∷◌, ◌++◌, Option, Some, None, map, refl, sym, ap, subst, ◌∙◌, ◌⊎◌, inl, inr, arith, is_some, append-nil}
use Rattle.std.proofs.lemmas.Bool.{false≢true, and_parts, and_from, or_left, or_right, not_from_false, not-true, eqb-true, cases_eq, cases_lt}
use Rattle.std.proofs.lemmas.Bool.Decides.{nat_tests}
use Rattle.std.specs.Prelude.{filter, flat_map, nat_lt, if◌then◌else◌}
use Rattle.roc_sequence.specs.Lists.{Has}
use Rattle.roc_sequence.specs.Places.{is_listed}
use Rattle.roc_sequence.proofs.Places.{listed_test}
use Rattle.roc_sequence.proofs.Holds.{has_any}
use Rattle.roc_sequence.proofs.Found.{found_has}
use Rattle.roc_sequence.proofs.Members.{has_left, has_right, has_filter, from_has_filter}
use Rattle.roc_base.specs.declared.id.TxnId.{TxnId}
use Rattle.roc_base.specs.declared.node.Shard.{Shard}
use Rattle.roc_base.specs.TxnId.{is_txn, txn_lt}
use Rattle.roc_base.specs.Equalities.{is_txn-true}
use Rattle.roc_base.proofs.Ids.{is_txn-eq, txn_cases}
use Rattle.roc_base.specs.Edge.{Dependency}
use Rattle.roc_depgraph.specs.declared.known.KnownList.{KnownList}
use Rattle.roc_depgraph.specs.Deps.{list_of, is_known, IsKnown, IsDecided}
use Rattle.roc_depgraph.proofs.Laws.{known_stays}
use Rattle.roc_step.specs.declared.waits.OpenFetch.{OpenFetch}
use Rattle.roc_step.specs.declared.waits.Asker.{Asker}
use Rattle.roc_step.specs.Waits.{is_asker_before, was_asked_for, with_asker, without_asked}
use Rattle.roc_msg.specs.declared.msg.Msg.{Msg}
use Rattle.roc_msg.specs.declared.msg.Msg.TheVariants.{Start, Commit, Fetch, Known, Ended, Settled, Read}
use Rattle.roc_msg.specs.declared.outbox.Outgoing.{Outgoing}
use Rattle.roc_msg.specs.declared.reason.Reason.TheVariants.{NotHere, Foreign}
use Rattle.roc_msg.specs.Facts.{is_fact_before}
use Rattle.roc_plan.specs.Groups.{Plan}
use Rattle.roc_group.specs.GroupRun.{call}
use Rattle.roc_step.specs.declared.handled.Handled.TheVariants.{Done, Ignored, Gone}
use Rattle.roc_step.specs.declared.started.StartedGroup.{StartedGroup}
use Rattle.roc_step.specs.New.{AreNewTaken, AreDecided}
use Rattle.roc_step.specs.Links.{without_links}
use Rattle.roc_step.proofs.SameIds.{ids_of}
use Rattle.roc_step.specs.Below.{is_ended, mark_of}
use Rattle.roc_step.specs.Forgets.{forgetting}
use Rattle.roc_step.specs.State.{refused, ignored, answered, is_here, is_group, find_group, Lists, ServerState, ServerStep, hearing}
use Rattle.roc_step.specs.Start.{start_refusal, start_taken, start_judged, startok_of, new_group}
use Rattle.roc_step.specs.Runs.{commitok, commitok_of, outs_here}
use Rattle.roc_step.specs.Carried.{list_with, carried, unknown_of}
use Rattle.roc_step.specs.Asking.{known_to, knowns_for, fetch_from}
use Rattle.roc_step.specs.Lists.{links_of, lists_after, missing_after, decides, taught, commit_refusal, after_commit, fetch_taken, settled_to, after_fetch, known_refusal, after_known, is_settled, lists_settled}
use Rattle.roc_step.specs.Step.{Findings, AreFindings, unless_refused, after_message, Handles}
use Rattle.roc_law_protocol.proofs.OneGroupMore.{here_more}
use Rattle.roc_law_protocol.proofs.KeptGroups.{take_keeps, take_same}
use Rattle.roc_law_protocol.proofs.Deciding.{more_keeps}
use Rattle.roc_law_protocol.proofs.Hears.{from_has_in_place, in_place_has, has_known, AwaitsNone, IsAnswered, IsSaid, AreKept, Hears, known_or_gone, decided_was, awaits_none, hears_left, IsHeard, kept_after, decided_hears, same_after, forgetting_hears}
use Rattle.roc_law_protocol.proofs.HeardLists.{taught_heard, settled_heard}
use Rattle.roc_law_protocol.proofs.ForgottenHere.{here_or_gone}
use Rattle.roc_law_protocol.proofs.Taking.{IsIgnored, start_late, commit_late, known_late, commits_here}
use Rattle.roc_law_protocol.proofs.Refusals.{IsTakenAs}
use Rattle.roc_law_protocol.proofs.Gone.{IsGone}
use Rattle.roc_step.specs.declared.handled.Handled.{Handled}
use Rattle.roc_law_protocol.proofs.ReadsHere.{for_read}

-- ---- who asks

asker_cases : (a b : Asker) → (is_asker_before a b ≡ true) ⊎ ((a ≡ b) ⊎ (is_asker_before b a ≡ true))
asker_cases a b = elim (txn_cases a.id b.id) [
  | inl l ↦ inl (or_left (txn_lt a.id b.id) (is_txn a.id b.id && nat_lt a.shard.0 b.shard.0) l)
  | inr (inr l) ↦ inr (inr (or_left (txn_lt b.id a.id) (is_txn b.id a.id && nat_lt b.shard.0 a.shard.0) l))
  | inr (inl e) ↦ elim (cases_eq a.shard.0 b.shard.0) [
    | inl same ↦ inr (inl (λ i. record { id = e i; shard = record { 0 = same i } }))
    | inr apart ↦ elim (cases_lt a.shard.0 b.shard.0) [
      | inl l ↦ inl (or_right (txn_lt a.id b.id) (is_txn a.id b.id && nat_lt a.shard.0 b.shard.0) (and_from (is_txn a.id b.id) (nat_lt a.shard.0 b.shard.0) (is_txn-eq a.id b.id e) (grind (arith, nat_tests))))
      | inr l ↦ inr (inr (or_right (txn_lt b.id a.id) (is_txn b.id a.id && nat_lt b.shard.0 a.shard.0) (and_from (is_txn b.id a.id) (nat_lt b.shard.0 a.shard.0) (is_txn-eq b.id a.id (sym e)) (grind (arith, nat_tests)))))
    ]
  ]
]

-- who asked still asks
asker_stays : (b : Asker) (old : List Asker) (a : Asker) → Has a old → Has a (with_asker b old)
asker_stays b old a h = elim (asker_cases a b) [
  | inl l ↦ has_left a (filter (λ x. is_asker_before x b) old) (b ∷ filter (λ x. is_asker_before b x) old) (has_filter (λ x. is_asker_before x b) a old h l)
  | inr (inl e) ↦ has_right a (filter (λ x. is_asker_before x b) old) (b ∷ filter (λ x. is_asker_before b x) old) (inl e)
  | inr (inr l) ↦ has_right a (filter (λ x. is_asker_before x b) old) (b ∷ filter (λ x. is_asker_before b x) old) (inr (has_filter (λ x. is_asker_before b x) a old h l))
]

-- ---- a step

-- a settled that comes names a watermark that ends its transaction
abbrev pub EndsIt : ServerState → Msg → Type 0
EndsIt s (Settled id mark) = is_ended (hearing s id.coord mark).below id ≡ true
EndsIt s msg = Unit {0}

module _ (plan : Plan) (s : ServerState) where
  -- What a message that is taken, or comes too late, leaves: a start its startok, or its transaction has ended, a commit its list and, once it is
  -- decided, its commitok, or it is gone, a fetch its answer or who asks; and behind an answer to a fetch the server waits for none
  abbrev pub Takes : Msg → ServerStep → Type 0
  Takes (Start id proc group args inputs) r = ((e : StartedGroup) × (e.id ≡ id) × (e.group ≡ group) × Has (startok_of s.shard e) r.sends) ⊎ (is_ended r.state.below id ≡ true)
  Takes (Commit id edges facts) r = ((is_here id r.state.started ≡ true) × IsKnown r.state.lists.known id × (IsDecided r.state.lists.links id → IsSaid r.sends s.shard id)) ⊎ IsGone r.state id
  Takes (Fetch id asker) r = IsAnswered r.sends (record { id = id; shard = asker }) ⊎ Has (record { id = id; shard = asker }) r.state.lists.waiting.askers
  Takes (Known id edges) r = AwaitsNone id r.state
  Takes (Settled id mark) r = AwaitsNone id r.state
  Takes msg r = Unit {0}

  abbrev Result : Msg → ServerStep → Type 0
  Result msg r = Hears s r × (IsTakenAs r.answer → Takes msg r)

  -- so it is where nothing changes, whatever is sent and answered
  unchanged : (answer : Handled) (outs : List Outgoing) → Hears s (record (answered s outs) { answer = answer })
  unchanged answer outs = record { known = λ t h. inl h; says = λ t here d. inl d; askers = λ a h. inr h; asked = λ a h. inl (h, λ k. k); waits = λ h. h; seeks = λ h. h }

  pub nothing_changes : (outs : List Outgoing) → Hears s (answered s outs)
  nothing_changes outs = unchanged Done outs

  -- what is ignored was not taken
  not_ignored : (answer : Handled) → IsIgnored answer → ¬ IsTakenAs answer
  not_ignored answer i (inl e) = let f = i.1 in absurd (cc)
  not_ignored answer i (inr e) = let f = i.1 in absurd (cc)

  start_result : (f : Findings) (id : TxnId) (proc group : ℕ) (args inputs : List ℤ) (x : Option Handled) → start_refusal plan s id (call proc group args inputs) ≡ x
      → Result (Start id proc group args inputs) (start_judged plan f.before f.reached s id (call proc group args inputs) x)
  start_result f id proc group args inputs (Some answer) why = (
    unchanged answer [],
    λ done. elim (start_late plan s id (call proc group args inputs) answer why) [ inl e ↦ inr e | inr i ↦ absurd (not_ignored answer i done) ],
  )
  start_result f id proc group args inputs None why = taken (find_group id group s.started) refl
    where
      taken : (x : Option StartedGroup) → find_group id group s.started ≡ x → Result (Start id proc group args inputs) (start_taken plan f.before f.reached s id (call proc group args inputs) x)
      taken (Some e) k =
          let p = and_parts (is_txn e.id id) (e.group == group) (found_has (is_group id group) s.started e k).1 in
          (nothing_changes (startok_of s.shard e ∷ []), λ d. inl (e, is_txn-true e.id id p.0, eqb-true e.group group p.1, inl refl))
      taken None k =
          let e = new_group plan f.before f.reached s id (call proc group args inputs) in (
            record {
              known = λ t h. inl h;
              says = λ t here d. inl d;
              askers = λ a h. inr h;
              asked = λ a h. inl (h, λ k. k);
              waits = λ was a h. (let w = was a h in (here_more s.started e a.id w.0, w.1));
              seeks = λ h k j d m. elim (h k j d m) [ inl known ↦ inl known | inr (inl here) ↦ inr (inl (here_more s.started e d.from here)) | inr (inr asked) ↦ inr (inr asked) ];
            },
            λ d. inl (e, refl, refl, inl refl),
          )

  -- its list is known after a new one is taught
  known_now : (lists : List KnownList) (id : TxnId) (edges : List Dependency) → Has (list_with id edges) lists → IsKnown (s.lists.known ++ unknown_of s.lists.known lists) id
  known_now lists id edges h = go (is_known s.lists.known id) refl
    where
      go : (b : Bool) → is_known s.lists.known id ≡ b → IsKnown (s.lists.known ++ unknown_of s.lists.known lists) id
      go true e = known_stays s.lists.known (s.lists.known ++ unknown_of s.lists.known lists) (more_keeps s.lists.known (unknown_of s.lists.known lists)) id e
      go false e =
          has_known (s.lists.known ++ unknown_of s.lists.known lists) (list_with id edges)
          (has_right (list_with id edges) s.lists.known (unknown_of s.lists.known lists) (has_filter (λ (k : KnownList). not (is_known s.lists.known k.of)) (list_with id edges) lists h (not_from_false (is_known s.lists.known id) e)))

  module _ (kept : AreKept s) (same : ids_of s.lists.links ≡ ids_of s.lists.known) (f : Findings) (was : AreDecided s.lists.links f.before) where
    commit_result : (id : TxnId) (edges : List Dependency) (facts : List KnownList) (x : Option Handled) → commit_refusal s id edges facts ≡ x
        → AreNewTaken (IsDecided s.lists.links) (s.lists.links ++ links_of s (unless_refused x (unknown_of s.lists.known (carried id edges facts)))) f.components
        → Result (Commit id edges facts) (after_commit plan f.before f.components s id edges facts x)
    commit_result id edges facts (Some answer) why new = (
      unchanged answer [],
      λ done. elim (commit_late s id edges facts answer why) [ inl gone ↦ inr gone | inr i ↦ absurd (not_ignored answer i done) ],
    )
    commit_result id edges facts None why new = (forgetting_hears plan s kept f.before was lists f.components knowns fetches h again, λ done. left)
      where
        news : List KnownList
        news = unknown_of s.lists.known (carried id edges facts)

        lists : Lists
        lists = lists_after s news f.components

        knowns : List Outgoing
        knowns = flat_map (knowns_for s.lists.waiting.askers) news

        fetches : List Outgoing
        fetches = map (fetch_from s.shard) (missing_after s news)

        h : IsHeard s lists f.components knowns fetches
        h = taught_heard s same news f.components new

        r : ServerStep
        r = taught plan s news f.components

        again : List Outgoing
        again = if is_listed is_txn f.before id then commitok_of plan r.state id ∷ [] else []

        here : is_here id s.started ≡ true
        here = commits_here s id edges facts why

        keeps : (r.state.lists ≡ lists) × (r.state.shard ≡ s.shard) × (r.state.below ≡ s.below)
        keeps = take_keeps plan (flat_map (λ c. c) f.components) (record s { lists = lists })

        said : (b : Bool) → b ≡ true → IsSaid (r.sends ++ (if b then commitok_of plan r.state id ∷ [] else [])) s.shard id
        said true e = (
          outs_here plan id r.state.started,
          subst (λ at. Has (commitok plan at r.state.started id) (r.sends ++ commitok_of plan r.state id ∷ [])) keeps.1 (has_right (commitok_of plan r.state id) r.sends (commitok_of plan r.state id ∷ []) (inl refl)),
        )
        said false e = absurd (false≢true e)

        says : IsDecided r.state.lists.links id → IsSaid (r.sends ++ again) s.shard id
        says d = elim ((decided_hears plan s kept f.before was lists f.components knowns fetches h again).says id here d) [
          | inl before ↦ said (is_listed is_txn f.before id) (listed_test is_txn f.before id (was.complete id before))
          | inr k ↦ k
        ]

        left : Takes (Commit id edges facts) (forgetting (record r { sends = r.sends ++ again }))
        left =
            let k = kept_after plan s kept f.before was lists f.components knowns fetches h in
            let same2 = same_after plan s kept f.before was lists f.components knowns fetches h in
            let known = subst (λ (l : Lists). IsKnown l.known id) (sym keeps.0) (known_now (carried id edges facts) id edges (in_place_has is_fact_before (list_with id edges) facts)) in
            elim (here_or_gone r.state id ((take_same plan (flat_map (λ c. c) f.components) (record s { lists = lists })).here id here)) [
              | inr gone ↦ inr gone
              | inl stays ↦ elim (known_or_gone r.state k same2 id known) [
                | inr gone ↦ inr gone
                | inl knows ↦ inl (stays, knows, λ d. says (decided_was r.state k same2 id d))
              ]
            ]

    known_result : (id : TxnId) (edges : List Dependency) (x : Option Handled) → known_refusal s id edges ≡ x
        → AreNewTaken (IsDecided s.lists.links) (s.lists.links ++ links_of s (unless_refused x (unknown_of s.lists.known (list_with id edges ∷ [])))) f.components
        → Result (Known id edges) (after_known plan f.components s id edges x)
    known_result id edges (Some answer) why new = (
      unchanged answer [],
      λ done a h same. elim (known_late s id edges answer why) [
        | inl n ↦ absurd (false≢true (sym n ∙ has_any (λ (a : OpenFetch). is_txn a.id id) s.lists.waiting.asked a h (is_txn-eq a.id id same)))
        | inr i ↦ absurd (not_ignored answer i done)
      ],
    )
    known_result id edges None why new =
        let news = unknown_of s.lists.known (list_with id edges ∷ []) in
        let lists = lists_after s news f.components in
        let knowns = flat_map (knowns_for s.lists.waiting.askers) news in
        let fetches = map (fetch_from s.shard) (missing_after s news) in
        let h = taught_heard s same news f.components new in
        let r = taught plan s news f.components in
        let keeps = take_keeps plan (flat_map (λ c. c) f.components) (record s { lists = lists }) in (
          subst (λ outs. Hears s (forgetting (record r { sends = outs }))) (append-nil r.sends) (forgetting_hears plan s kept f.before was lists f.components knowns fetches h []),
          λ done. awaits_none r.state (kept_after plan s kept f.before was lists f.components knowns fetches h) (same_after plan s kept f.before was lists f.components knowns fetches h) id
              (λ a k same. subst (IsKnown r.state.lists.known) (sym same) (subst (λ (l : Lists). IsKnown l.known id) (sym keeps.0) (known_now (list_with id edges ∷ []) id edges (inl refl)))),
        )

  fetch_result : (id : TxnId) (asker : Shard) → Result (Fetch id asker) (after_fetch s id asker)
  fetch_result id asker = ended (not (is_here id s.started) && is_ended s.below id)
    where
      taken : is_here id s.started ≡ true → (x : Option (List Dependency)) → list_of id s.lists.known ≡ x → Result (Fetch id asker) (fetch_taken s id asker x)
      taken h (Some edges) e =
          let a : Asker = record { id = id; shard = asker } in
          (nothing_changes (known_to (list_with id edges) a ∷ []), λ d. inl (known_to (list_with id edges) a, inl refl, refl, inl (edges, refl)))
      taken h None e =
          let a : Asker = record { id = id; shard = asker } in (
            record {
              known = λ t h. inl h;
              says = λ t here d. inl d;
              askers = λ b h. inr (asker_stays a s.lists.waiting.askers b h);
              asked = λ b h. inl (h, λ k. k);
              waits = λ was b k. elim (from_has_in_place is_asker_before a s.lists.waiting.askers b k) [
                | inl same ↦ subst (λ (b : Asker). (is_here b.id s.started ≡ true) × (¬ IsKnown s.lists.known b.id)) (sym same) (h, λ k. false≢true (ap is_some (sym e) ∙ k))
                | inr j ↦ was b j
              ];
              seeks = λ h. h;
            },
            λ d. inr (in_place_has is_asker_before a s.lists.waiting.askers),
          )

      here : (b : Bool) → is_here id s.started ≡ b → Result (Fetch id asker) (if b then fetch_taken s id asker (list_of id s.lists.known) else ignored s NotHere)
      here true e = taken e (list_of id s.lists.known) refl
      here false e = (unchanged (Ignored NotHere) [], λ done. absurd (not_ignored (Ignored NotHere) (NotHere, refl) done))

      ended : (b : Bool) → Result (Fetch id asker) (if b then answered s (settled_to s id asker ∷ []) else (if is_here id s.started then fetch_taken s id asker (list_of id s.lists.known) else ignored s NotHere))
      ended true = (nothing_changes (settled_to s id asker ∷ []), λ d. inl (settled_to s id asker, inl refl, refl, inr (mark_of s.below id.coord, refl)))
      ended false = here (is_here id s.started) refl

  -- a watermark is heard first
  heard_first : (coord mark : ℕ) (r : ServerStep) → Hears (hearing s coord mark) r → Hears s r
  heard_first coord mark r h = record { known = h.known; says = h.says; askers = h.askers; asked = h.asked; waits = h.waits; seeks = h.seeks }

module _ (plan : Plan) (s : ServerState) (kept : AreKept s) (same : ids_of s.lists.links ≡ ids_of s.lists.known) where
  -- what is over is forgotten
  left_hears : (coord mark : ℕ) (answer : Handled) → Hears s (forgetting (refused (hearing s coord mark) answer))
  left_hears coord mark answer =
      let v = hearing s coord mark in
      heard_first plan s coord mark (forgetting (refused v answer)) (hears_left v (refused v answer) kept same (unchanged plan v answer []))

  module _ (f : Findings) (was : AreDecided s.lists.links f.before) (id : TxnId) (mark : ℕ) (ends : is_ended (hearing s id.coord mark).below id ≡ true) where
    abbrev v : ServerState
    v = hearing s id.coord mark

    settled_result : (b : Bool) → was_asked_for id s.lists.waiting.asked ≡ b → AreNewTaken (IsDecided s.lists.links) (if b then map (without_links (is_settled s id mark)) s.lists.links else s.lists.links) f.components
        → Result plan s (Settled id mark) (forgetting (if b then decides plan v (lists_settled s id mark f.components) f.components [] [] else refused v Gone))
    settled_result true asked new =
        let lists = lists_settled s id mark f.components in
        let h = settled_heard s same id mark f.components new in
        let r = decides plan v lists f.components [] [] in
        let keeps = take_keeps plan (flat_map (λ c. c) f.components) (record v { lists = lists }) in (
          heard_first plan s id.coord mark (forgetting r) (subst (λ outs. Hears v (forgetting (record r { sends = outs }))) (append-nil r.sends) (forgetting_hears plan v kept f.before was lists f.components [] [] h [])),
          λ done. awaits_none r.state (kept_after plan v kept f.before was lists f.components [] [] h) (same_after plan v kept f.before was lists f.components [] [] h) id
              (λ a k same. subst (λ (l : Lists). IsKnown l.known a.id) (sym keeps.0) (waited (is_known s.lists.known id) refl a (subst (λ (l : Lists). Has a l.waiting.asked) keeps.0 k) same)),
        )
      where
        -- while its list is unknown it is waited for no longer
        waited : (b : Bool) → is_known s.lists.known id ≡ b → (a : OpenFetch) → Has a (if b then s.lists.waiting else without_asked (is_settled s id mark) s.lists.waiting).asked → a.id ≡ id → IsKnown s.lists.known a.id
        waited true e a k same = subst (IsKnown s.lists.known) (sym same) e
        waited false e a k same =
            let n = not-true (is_settled s id mark a.id) (from_has_filter (λ (a : OpenFetch). not (is_settled s id mark a.id)) a s.lists.waiting.asked k).1 in
            absurd (false≢true (sym n ∙ and_from (is_txn a.id id) (is_ended v.below a.id) (is_txn-eq a.id id same) (subst (λ t. is_ended v.below t ≡ true) (sym same) ends)))
    settled_result false asked new = (
      left_hears id.coord mark Gone,
      λ done. awaits_none v kept same id (λ a h same. absurd (false≢true (sym asked ∙ has_any (λ (a : OpenFetch). is_txn a.id id) s.lists.waiting.asked a h (is_txn-eq a.id id same)))),
    )

  -- any message keeps what is waited for, and leaves what it does if it is taken, or comes too late
  pub message_result : (msg : Msg) (r : ServerStep) → EndsIt s msg → Handles plan s msg r → Hears s r × (IsTakenAs r.answer → Takes plan s msg r)
  message_result msg r ends h = subst (Result plan s msg) (sym h.is) (go msg h.findings ends h.found)
    where
      go : (msg : Msg) (f : Findings) → EndsIt s msg → AreFindings plan s msg f → Result plan s msg (after_message plan s f msg)
      go (Start id proc group args inputs) f ends found = start_result plan s f id proc group args inputs (start_refusal plan s id (call proc group args inputs)) refl
      go (Commit id edges facts) f ends found = commit_result plan s kept same f found.before id edges facts (commit_refusal s id edges facts) refl found.components
      go (Fetch id asker) f ends found = fetch_result plan s id asker
      go (Known id edges) f ends found = known_result plan s kept same f found.before id edges (known_refusal s id edges) refl found.components
      go (Ended coord mark) f ends found = (left_hears coord mark Done, λ d. tt)
      go (Settled id mark) f ends found = settled_result f found.before id mark ends (was_asked_for id s.lists.waiting.asked) refl found.components
      go (Read id round proc group args) f ends found = for_read plan s (record { id = id; round = round; proc = proc; group = group; args = args }) (Result plan s (Read id round proc group args)) (λ a. (unchanged plan s a [], λ d. tt))
      go msg f ends found = (unchanged plan s (Ignored Foreign) [], λ d. absurd (not_ignored plan s (Ignored Foreign) (Foreign, refl) d))
