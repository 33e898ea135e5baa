-- The watermarks that a server hears and tells
use Rattle.std.proofs.Common.{◌≡◌, ◌∙◌, ◌⊎◌, inl, ℕ, ◌<◌, ◌&&◌, Bool, true, false, not, List, [], ◌∷◌, Option, Some, None, refl, sym, subst, arith}
use Rattle.std.proofs.lemmas.Bool.{false≢true}
use Rattle.std.proofs.lemmas.Bool.Decides.{nat_tests}
use Rattle.std.specs.Prelude.{flat_map, if◌then◌else◌}
use Rattle.roc_sequence.specs.Lists.{Has}
use Rattle.roc_sequence.proofs.Members.{has_one}
use Rattle.roc_base.specs.declared.id.TxnId.{TxnId}
use Rattle.roc_base.specs.declared.node.Shard.{Shard}
use Rattle.roc_base.specs.Edge.{Dependency}
use Rattle.roc_depgraph.specs.declared.known.KnownList.{KnownList}
use Rattle.roc_depgraph.specs.Deps.{list_of}
use Rattle.roc_step.specs.Waits.{was_asked_for}
use Rattle.roc_msg.specs.declared.msg.Msg.{Msg}
use Rattle.roc_msg.specs.declared.msg.Msg.TheVariants.{Start, Commit, Fetch, Known, Ended, Settled, Read}
use Rattle.roc_msg.specs.declared.outbox.Outgoing.{Outgoing}
use Rattle.roc_msg.specs.declared.reason.Reason.TheVariants.{NotHere}
use Rattle.roc_plan.specs.Groups.{Plan}
use Rattle.roc_group.specs.GroupRun.{GroupCall, call}
use Rattle.roc_step.specs.declared.started.StartedGroup.{StartedGroup}
use Rattle.roc_step.specs.declared.handled.Handled.{Handled}
use Rattle.roc_step.specs.declared.handled.Handled.TheVariants.{Gone}
use Rattle.roc_step.specs.Below.{mark_of, is_ended}
use Rattle.roc_step.specs.State.{refused, ignored, answered, hearing, is_here, find_group, ServerState, ServerStep}
use Rattle.roc_step.specs.Forgets.{forgetting}
use Rattle.roc_step.specs.Start.{start_refusal, new_group, startok_of, start_taken, start_judged}
use Rattle.roc_step.specs.Runs.{run_group, run_groups, buffered_here, take_all}
use Rattle.roc_step.specs.Reads.{is_taken, read_refusal, read_judged}
use Rattle.roc_step.specs.Carried.{carried, list_with, unknown_of}
use Rattle.roc_step.specs.Asking.{known_to}
use Rattle.roc_step.specs.Lists.{lists_after, decides, taught, commit_refusal, after_commit}
use Rattle.roc_step.specs.Lists.{fetch_taken, settled_to, after_fetch, known_refusal, after_known, lists_settled, after_settled}
use Rattle.roc_step.specs.Step.{Findings, after_message, tick_sends}
use Rattle.roc_law_protocol.proofs.Marks.{ended_cases}
use Rattle.roc_law_protocol.proofs.ServerSends.{AreSo, AreKindsSo, one_so, decided_so, taught_so, commit_so, tick_so}

-- the message tells a watermark above t
abbrev pub IsAbove : Msg → TxnId → Type 0
IsAbove (Ended coord mark) t = (t.coord ≡ coord) × (t.seq < mark)
IsAbove (Settled id mark) t = (t.coord ≡ id.coord) × (t.seq < mark)
IsAbove msg t = ⊥

-- groups that run leave the number and the watermarks alone
groups_leave : (plan : Plan) (es : List StartedGroup) (s : ServerState) → ((run_groups plan s es).shard ≡ s.shard) × ((run_groups plan s es).below ≡ s.below)
groups_leave plan [] s = (refl, refl)
groups_leave plan (e ∷ es) s = groups_leave plan es (run_group plan s e)

take_leaves : (plan : Plan) (ts : List TxnId) (s : ServerState) → ((take_all plan s ts).shard ≡ s.shard) × ((take_all plan s ts).below ≡ s.below)
take_leaves plan [] s = (refl, refl)
take_leaves plan (t ∷ ts) s =
    let a = take_leaves plan ts (run_groups plan s (buffered_here plan t s.started)) in
    let b = groups_leave plan (buffered_here plan t s.started) s in
    (a.0 ∙ b.0, a.1 ∙ b.1)

-- from s by a message: what ends here ended before or by the message, what is told ended here before, and a message that is ignored changes nothing
pub record KeepsMarks (s : ServerState) (msg : Msg) (r : ServerStep) : Type 0 where
  pub shard : r.state.shard ≡ s.shard
  pub ended : (t : TxnId) → is_ended r.state.below t ≡ true → (is_ended s.below t ≡ true) ⊎ IsAbove msg t
  pub told : (out : Outgoing) → Has out r.sends → (t : TxnId) → IsAbove out.msg t → is_ended s.below t ≡ true
  pub ignored : is_taken r.answer ≡ false → r.state ≡ s

-- it tells no watermark
abbrev TellsNoMark : Msg → Type 0
TellsNoMark msg = (t : TxnId) → ¬ IsAbove msg t

module _ (plan : Plan) where
  none_told : AreKindsSo plan TellsNoMark
  none_told = record { startok = λ shard e t k. k; commitok = λ s id t k. k; list = λ known asker t k. k; fetch = λ shard ask t k. k }

  module _ (s : ServerState) where
    -- a step that keeps the watermarks and tells none
    quiet : (msg : Msg) (r : ServerStep) → r.state.shard ≡ s.shard → r.state.below ≡ s.below → AreSo TellsNoMark r.sends → (is_taken r.answer ≡ false → r.state ≡ s) → KeepsMarks s msg r
    quiet msg r shard below none same =
        record { shard = shard; ended = λ t h. inl (subst (λ l. is_ended l t ≡ true) below h); told = λ out h t k. absurd (none out h t k); ignored = same }

    still : (msg : Msg) (answer : Handled) → KeepsMarks s msg (refused s answer)
    still msg answer = quiet msg (refused s answer) refl refl (λ out h. absurd h) (λ e. refl)

    start_keeps : (f : Findings) (id : TxnId) (c : GroupCall) (msg : Msg) → (x : Option Handled) → KeepsMarks s msg (start_judged plan f.before f.reached s id c x)
    start_keeps f id c msg (Some answer) = still msg answer
    start_keeps f id c msg None = taken (find_group id c.group s.started)
      where
        taken : (x : Option StartedGroup) → KeepsMarks s msg (start_taken plan f.before f.reached s id c x)
        taken (Some e) = quiet msg (start_taken plan f.before f.reached s id c (Some e)) refl refl (one_so TellsNoMark (startok_of s.shard e) (λ t k. k)) (λ e. absurd (false≢true (sym e)))
        taken None =
            quiet msg (start_taken plan f.before f.reached s id c None) refl refl (one_so TellsNoMark (startok_of s.shard (new_group plan f.before f.reached s id c)) (λ t k. k))
            (λ e. absurd (false≢true (sym e)))

    taught_here : (news : List KnownList) (components : List (List TxnId)) → ((taught plan s news components).state.shard ≡ s.shard) × ((taught plan s news components).state.below ≡ s.below)
    taught_here news components =
        take_leaves plan (flat_map (λ c. c) components) (record s { lists = lists_after s news components })

    commit_keeps : (before : List TxnId) (components : List (List TxnId)) (id : TxnId) (edges : List Dependency) (facts : List KnownList) (msg : Msg) → (x : Option Handled)
        → KeepsMarks s msg (after_commit plan before components s id edges facts x)
    commit_keeps before components id edges facts msg (Some answer) = still msg answer
    commit_keeps before components id edges facts msg None =
        let news = unknown_of s.lists.known (carried id edges facts) in
        let here = taught_here news components in
        quiet msg (after_commit plan before components s id edges facts None) here.0 here.1
        (commit_so plan TellsNoMark none_told s before components id edges facts None) (λ e. absurd (false≢true (sym e)))

    known_keeps : (components : List (List TxnId)) (id : TxnId) (edges : List Dependency) (msg : Msg) → (x : Option Handled) → KeepsMarks s msg (after_known plan components s id edges x)
    known_keeps components id edges msg (Some answer) = still msg answer
    known_keeps components id edges msg None =
        let news = unknown_of s.lists.known (list_with id edges ∷ []) in
        let here = taught_here news components in
        quiet msg (after_known plan components s id edges None) here.0 here.1 (taught_so plan TellsNoMark none_told s news components) (λ e. absurd (false≢true (sym e)))

    fetch_keeps : (id : TxnId) (asker : Shard) (msg : Msg) → KeepsMarks s msg (after_fetch s id asker)
    fetch_keeps id asker msg = ended (not (is_here id s.started) && is_ended s.below id)
      where
        taken : (x : Option (List Dependency)) → KeepsMarks s msg (fetch_taken s id asker x)
        taken (Some edges) =
            quiet msg (fetch_taken s id asker (Some edges)) refl refl (one_so TellsNoMark (known_to (list_with id edges) (record { id = id; shard = asker })) (λ t k. k)) (λ e. absurd (false≢true (sym e)))
        taken None = quiet msg (fetch_taken s id asker None) refl refl (λ out h. absurd h) (λ e. absurd (false≢true (sym e)))

        here : (b : Bool) → KeepsMarks s msg (if b then fetch_taken s id asker (list_of id s.lists.known) else ignored s NotHere)
        here true = taken (list_of id s.lists.known)
        here false = quiet msg (ignored s NotHere) refl refl (λ out h. absurd h) (λ e. refl)

        -- the watermark is the one of the coordinator that is kept here
        below_it : (t : TxnId) → (t.coord ≡ id.coord) × (t.seq < mark_of s.below id.coord) → is_ended s.below t ≡ true
        below_it t (same, l) = let k : t.seq < mark_of s.below t.coord = subst (λ c. t.seq < mark_of s.below c) (sym same) l in grind (arith, nat_tests)

        ended : (b : Bool)
            → KeepsMarks s msg (if b then answered s (settled_to s id asker ∷ []) else (if is_here id s.started then fetch_taken s id asker (list_of id s.lists.known) else ignored s NotHere))
        ended true =
            record {
              shard = refl;
              ended = λ t h. inl h;
              told = λ out h t k. below_it t (subst (λ (out : Outgoing). IsAbove out.msg t) (has_one out (settled_to s id asker) h) k);
              ignored = λ e. refl;
            }
        ended false = here (is_here id s.started)

    settled_keeps : (components : List (List TxnId)) (id : TxnId) (mark : ℕ) → KeepsMarks s (Settled id mark) (after_settled plan components s id mark)
    settled_keeps components id mark = go (was_asked_for id s.lists.waiting.asked)
      where
        v : ServerState
        v = hearing s id.coord mark

        go : (b : Bool) → KeepsMarks s (Settled id mark) (forgetting
            (if b then decides plan (hearing s id.coord mark) (lists_settled s id mark components) components [] [] else refused (hearing s id.coord mark) Gone))
        go true =
            let k = take_leaves plan (flat_map (λ c. c) components) (record (hearing s id.coord mark) { lists = lists_settled s id mark components }) in
            record {
              shard = k.0;
              ended = λ t h. ended_cases s.below id.coord mark t (subst (λ l. is_ended l t ≡ true) k.1 h);
              told = λ out h t k. absurd (decided_so plan TellsNoMark none_told v (lists_settled s id mark components) components [] [] (λ out h. absurd h) (λ out h. absurd h) out h t k);
              ignored = λ e. absurd (false≢true (sym e));
            }
        go false =
            record { shard = refl; ended = λ t h. ended_cases s.below id.coord mark t h; told = λ out h. absurd h; ignored = λ e. absurd (false≢true (sym e)) }

    read_keeps : (msg : Msg) (x : Option Handled) → KeepsMarks s msg (read_judged s x)
    read_keeps msg (Some answer) = still msg answer
    read_keeps msg None = quiet msg (answered s []) refl refl (λ out h. absurd h) (λ e. refl)

    pub keeps_marks : (f : Findings) (msg : Msg) → KeepsMarks s msg (after_message plan s f msg)
    keeps_marks f (Start id proc group args inputs) = start_keeps f id (call proc group args inputs) (Start id proc group args inputs) (start_refusal plan s id (call proc group args inputs))
    keeps_marks f (Commit id edges facts) = commit_keeps f.before f.components id edges facts (Commit id edges facts) (commit_refusal s id edges facts)
    keeps_marks f (Fetch id asker) = fetch_keeps id asker (Fetch id asker)
    keeps_marks f (Known id edges) = known_keeps f.components id edges (Known id edges) (known_refusal s id edges)
    keeps_marks f (Ended coord mark) =
        record { shard = refl; ended = λ t h. ended_cases s.below coord mark t h; told = λ out h. absurd h; ignored = λ e. absurd (false≢true (sym e)) }
    keeps_marks f (Settled id mark) = settled_keeps f.components id mark
    keeps_marks f (Read id round proc group args) =
        read_keeps (Read id round proc group args) (read_refusal plan s (record { id = id; round = round; proc = proc; group = group; args = args }))
    keeps_marks f msg = quiet msg (after_message plan s f msg) refl refl (λ out h. absurd h) (λ e. refl)

  pub tick_marks : (s : ServerState) (out : Outgoing) → Has out (tick_sends s) → (t : TxnId) → ¬ IsAbove out.msg t
  tick_marks s out h t k = tick_so plan TellsNoMark none_told s out h t k
