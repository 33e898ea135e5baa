-- What a server sends is as it has to be, where each kind of what it sends is
use Rattle.std.proofs.Common.{◌&&◌, Bool, true, false, not, List, [], ◌∷◌, ◌++◌, Option, Some, None, map, sym, subst, inl, inr}
use Rattle.std.specs.Prelude.{filter, flat_map, if◌then◌else◌, ℕ}
use Rattle.roc_sequence.specs.Lists.{Has}
use Rattle.roc_sequence.specs.Places.{is_listed}
use Rattle.roc_sequence.proofs.Members.{has_append, has_one, from_has_map, from_has_flat_map}
use Rattle.roc_base.specs.declared.id.TxnId.{TxnId}
use Rattle.roc_base.specs.declared.node.Shard.{Shard}
use Rattle.roc_base.specs.TxnId.{is_txn}
use Rattle.roc_base.specs.Edge.{Dependency}
use Rattle.roc_depgraph.specs.declared.known.KnownList.{KnownList}
use Rattle.roc_depgraph.specs.Deps.{list_of, is_known}
use Rattle.roc_step.specs.declared.waits.Asker.{Asker}
use Rattle.roc_step.specs.declared.waits.OpenFetch.{OpenFetch}
use Rattle.roc_step.specs.Waits.{was_asked_for, askers_of}
use Rattle.roc_msg.specs.declared.msg.Msg.{Msg}
use Rattle.roc_msg.specs.declared.msg.Msg.TheVariants.{Start, Commit, Fetch, Known, Settled, Read}
use Rattle.roc_msg.specs.declared.outbox.Outgoing.{Outgoing}
use Rattle.roc_msg.specs.declared.reason.Reason.TheVariants.{NotHere}
use Rattle.roc_plan.specs.Groups.{Plan}
use Rattle.roc_group.specs.GroupRun.{GroupCall, call}
use Rattle.roc_step.specs.declared.started.StartedGroup.{StartedGroup}
use Rattle.roc_step.specs.State.{refused, ignored, answered, hearing, is_here, find_group, Lists, ServerState}
use Rattle.roc_step.specs.declared.handled.Handled.{Handled}
use Rattle.roc_step.specs.declared.handled.Handled.TheVariants.{Gone}
use Rattle.roc_step.specs.Below.{is_ended}
use Rattle.roc_step.specs.Forgets.{forgetting}
use Rattle.roc_step.specs.Start.{start_refusal, start_taken, start_judged, startok_of, new_group}
use Rattle.roc_step.specs.Runs.{commitok_of}
use Rattle.roc_step.specs.Carried.{list_with, carried, unknown_of}
use Rattle.roc_step.specs.Asking.{known_to, knowns_for, fetch_from}
use Rattle.roc_step.specs.Lists.{missing_after, lists_after, decides, taught, commit_refusal, after_commit, fetch_taken, settled_to, after_fetch, known_refusal, after_known, lists_settled, after_settled}
use Rattle.roc_step.specs.Step.{Findings, after_message, tick_sends}
use Rattle.roc_law_protocol.proofs.ReadsHere.{for_read}

-- each message of these is so
abbrev pub AreSo : (Msg → Type 0) → List Outgoing → Type 0
AreSo P outs = (out : Outgoing) → Has out outs → P out.msg

pub one_so : (P : Msg → Type 0) (x : Outgoing) → P x.msg → AreSo P (x ∷ [])
one_so P x so out h = subst (λ (out : Outgoing). P out.msg) (sym (has_one out x h)) so

-- what answers starts, commits and fetches, and what asks for lists, is so, but for what tells that one has ended
pub record AreKindsSo (plan : Plan) (P : Msg → Type 0) : Type 0 where
  pub startok : (shard : Shard) (e : StartedGroup) → P (startok_of shard e).msg
  pub commitok : (s : ServerState) (id : TxnId) → P (commitok_of plan s id).msg
  pub list : (known : KnownList) (asker : Asker) → P (known_to known asker).msg
  pub fetch : (shard : Shard) (ask : OpenFetch) → P (fetch_from shard ask).msg

module _ (plan : Plan) (P : Msg → Type 0) (kinds : AreKindsSo plan P) where
  fetches_so : (shard : Shard) (asks : List OpenFetch) → AreSo P (map (fetch_from shard) asks)
  fetches_so shard asks out h = let q = from_has_map (fetch_from shard) out asks h in subst (λ (out : Outgoing). P out.msg) (sym q.2) (kinds.fetch shard q.0)

  pub decided_so : (s : ServerState) (lists : Lists) (components : List (List TxnId)) (told asks : List Outgoing) → AreSo P told → AreSo P asks → AreSo P (decides plan s lists components told asks).sends
  decided_so s lists components told asks told_so asks_so out h =
      let r = decides plan s lists components told asks in
      let ts = flat_map (λ c. c) components in
      elim (has_append out told (map (commitok_of plan r.state) (filter (λ t. is_here t s.started) ts) ++ asks) h) [
        | inl k ↦ told_so out k
        | inr k ↦ elim (has_append out (map (commitok_of plan r.state) (filter (λ t. is_here t s.started) ts)) asks k) [
          | inl l ↦ (let q = from_has_map (commitok_of plan r.state) out (filter (λ t. is_here t s.started) ts) l in subst (λ (out : Outgoing). P out.msg) (sym q.2) (kinds.commitok r.state q.0))
          | inr l ↦ asks_so out l
        ]
      ]

  module _ (s : ServerState) where
    start_so : (f : Findings) (id : TxnId) (c : GroupCall) → (x : Option Handled) → AreSo P (start_judged plan f.before f.reached s id c x).sends
    start_so f id c (Some answer) out h = absurd h
    start_so f id c None out h = taken (find_group id c.group s.started) h
      where
        taken : (x : Option StartedGroup) → Has out (start_taken plan f.before f.reached s id c x).sends → P out.msg
        taken (Some e) h = one_so P (startok_of s.shard e) (kinds.startok s.shard e) out h
        taken None h = let e = new_group plan f.before f.reached s id c in one_so P (startok_of s.shard e) (kinds.startok s.shard e) out h

    pub taught_so : (news : List KnownList) (components : List (List TxnId)) → AreSo P (taught plan s news components).sends
    taught_so news components =
        decided_so s (lists_after s news components) components (flat_map (knowns_for s.lists.waiting.askers) news) (map (fetch_from s.shard) (missing_after s news))
        (λ out h. let p = from_has_flat_map (knowns_for s.lists.waiting.askers) out news h in
        let q = from_has_map (known_to p.0) out (askers_of p.0.of s.lists.waiting.askers) p.2 in
        subst (λ (out : Outgoing). P out.msg) (sym q.2) (kinds.list p.0 q.0))
        (fetches_so s.shard (missing_after s news))

    pub commit_so : (before : List TxnId) (components : List (List TxnId)) (id : TxnId) (edges : List Dependency) (facts : List KnownList) → (x : Option Handled) → AreSo P (after_commit plan before components s id edges facts x).sends
    commit_so before components id edges facts (Some answer) out h = absurd h
    commit_so before components id edges facts None out h =
        let news = unknown_of s.lists.known (carried id edges facts) in
        let r = taught plan s news components in
        elim (has_append out r.sends (if is_listed is_txn before id then commitok_of plan r.state id ∷ [] else []) h) [ inl k ↦ taught_so news components out k | inr k ↦ again r.state (is_listed is_txn before id) k ]
      where
        again : (v : ServerState) (b : Bool) → Has out (if b then commitok_of plan v id ∷ [] else []) → P out.msg
        again v true k = one_so P (commitok_of plan v id) (kinds.commitok v id) out k
        again v false k = absurd k

    fetch_so : (id : TxnId) (asker : Shard) → P (settled_to s id asker).msg → AreSo P (after_fetch s id asker).sends
    fetch_so id asker settled out h = ended (not (is_here id s.started) && is_ended s.below id) h
      where
        taken : (x : Option (List Dependency)) → Has out (fetch_taken s id asker x).sends → P out.msg
        taken (Some edges) h =
            let by : Asker = record { id = id; shard = asker } in
            one_so P (known_to (list_with id edges) by) (kinds.list (list_with id edges) by) out h
        taken None h = absurd h

        here : (b : Bool) → Has out (if b then fetch_taken s id asker (list_of id s.lists.known) else ignored s NotHere).sends → P out.msg
        here true h = taken (list_of id s.lists.known) h
        here false h = absurd h

        ended : (b : Bool) → Has out (if b then answered s (settled_to s id asker ∷ []) else (if is_here id s.started then fetch_taken s id asker (list_of id s.lists.known) else ignored s NotHere)).sends → P out.msg
        ended true h = one_so P (settled_to s id asker) settled out h
        ended false h = here (is_here id s.started) h

    known_so : (components : List (List TxnId)) (id : TxnId) (edges : List Dependency) → (x : Option Handled) → AreSo P (after_known plan components s id edges x).sends
    known_so components id edges (Some answer) out h = absurd h
    known_so components id edges None out h = taught_so (unknown_of s.lists.known (list_with id edges ∷ [])) components out h

    settled_so : (components : List (List TxnId)) (id : TxnId) (mark : ℕ) → AreSo P (after_settled plan components s id mark).sends
    settled_so components id mark = go (was_asked_for id s.lists.waiting.asked)
      where
        v : ServerState
        v = hearing s id.coord mark

        go : (b : Bool) → AreSo P (forgetting (if b then decides plan v (lists_settled s id mark components) components [] [] else refused v Gone)).sends
        go true out h = decided_so v (lists_settled s id mark components) components [] [] (λ out h. absurd h) (λ out h. absurd h) out h
        go false out h = absurd h

    pub message_so : ((id : TxnId) (asker : Shard) → P (settled_to s id asker).msg) → (f : Findings) (msg : Msg) → AreSo P (after_message plan s f msg).sends
    message_so settled f (Start id proc group args inputs) out h = start_so f id (call proc group args inputs) (start_refusal plan s id (call proc group args inputs)) out h
    message_so settled f (Commit id edges facts) out h = commit_so f.before f.components id edges facts (commit_refusal s id edges facts) out h
    message_so settled f (Fetch id asker) out h = fetch_so id asker (settled id asker) out h
    message_so settled f (Known id edges) out h = known_so f.components id edges (known_refusal s id edges) out h
    message_so settled f (Settled id mark) out h = settled_so f.components id mark out h
    message_so settled f (Read id round proc group args) out h = for_read plan s (record { id = id; round = round; proc = proc; group = group; args = args }) (λ r. Has out r.sends → P out.msg) (λ answer j. absurd j) h
    message_so settled f msg out h = absurd h

    pub tick_so : AreSo P (tick_sends s)
    tick_so = fetches_so s.shard (filter (λ (a : OpenFetch). not (is_known s.lists.known a.id)) s.lists.waiting.asked)
