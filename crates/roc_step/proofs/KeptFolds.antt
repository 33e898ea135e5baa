-- What records give is one, and a server stands for them as it goes on and starts again
use Rattle.std.proofs.Common.{◌≡◌, ◌&&◌, Bool, true, false, not, cond, List, [], ◌∷◌, ◌++◌, Option, Some, None, refl, sym, ap, subst, ◌∙◌}
use Rattle.std.proofs.lemmas.Bool.{false≢true}
use Rattle.std.specs.Prelude.{if◌then◌else◌}
use Rattle.roc_sequence.proofs.Appended.{empty_more, same_more}
use Rattle.roc_base.specs.declared.id.TxnId.{TxnId}
use Rattle.roc_base.specs.declared.node.Shard.{Shard}
use Rattle.roc_base.specs.Edge.{Dependency}
use Rattle.roc_depgraph.specs.Deps.{list_of}
use Rattle.roc_msg.specs.declared.msg.Msg.{Msg}
use Rattle.roc_msg.specs.declared.msg.Msg.TheVariants.{Start, Commit, Fetch, Known, Ended, Settled, Read}
use Rattle.roc_msg.specs.declared.reason.Reason.TheVariants.{NotHere}
use Rattle.roc_plan.specs.Groups.{Plan}
use Rattle.roc_group.specs.GroupRun.{GroupCall}
use Rattle.roc_rows.specs.Versions.{Counts}
use Rattle.roc_step.specs.Waits.{was_asked_for}
use Rattle.roc_step.specs.declared.handled.Handled.{Handled}
use Rattle.roc_step.specs.declared.handled.Handled.TheVariants.{Gone}
use Rattle.roc_step.specs.declared.kept_read.KeptRead.{KeptRead}
use Rattle.roc_step.specs.declared.started.StartedGroup.{StartedGroup}
use Rattle.roc_step.specs.Below.{is_ended}
use Rattle.roc_step.specs.Forgets.{forgetting}
use Rattle.roc_step.specs.Lists.{decides, commit_refusal, after_commit, fetch_taken, settled_to, after_fetch, known_refusal, after_known, lists_settled, after_settled}
use Rattle.roc_step.specs.Reads.{is_taken, answering, read_judged, read_refusal, reads_with, with_accesses, reads_behind, AnswersReads, ReadStep}
use Rattle.roc_step.specs.Restarts.{without_reads, recorded, IsKeptFold, nothing_kept, one_more_kept, StandsFor}
use Rattle.roc_step.specs.Runs.{accesses_of}
use Rattle.roc_step.specs.Start.{start_refusal, start_taken, start_judged}
use Rattle.roc_step.specs.State.{answered, ignored, refused, find_group, hearing, is_here, ServerState, ServerStep, Viewing}
use Rattle.roc_step.specs.Step.{Findings, after_message, Handles}
use Rattle.roc_step.proofs.OneStep.{one_step, one_read_step}

-- ---- what records give is one

module _ (plan : Plan) (shard : Shard) where
  pub one_fold : {msgs others : List Msg} {s t : ServerState} {v u : Viewing} → IsKeptFold plan shard msgs s v → IsKeptFold plan shard others t u → msgs ≡ others → (s ≡ t) × (v ≡ u)
  one_fold nothing_kept nothing_kept e = (refl, refl)
  one_fold nothing_kept (one_more_kept {msgs = ys} n q p g handles reads taken) e = absurd (empty_more ys n e)
  one_fold (one_more_kept {msgs = xs} m r q f handles reads taken) nothing_kept e = absurd (empty_more xs m (sym e))
  one_fold (one_more_kept {msgs = xs} {s = a} {v = b} m r q f handles reads taken) (one_more_kept {msgs = ys} {s = c} {v = d} n r2 q2 g handles2 reads2 taken2) e =
      let ends = same_more xs ys m n e in
      go (one_fold f g ends.0) ends.1
    where
      go : (a ≡ c) × (b ≡ d) → m ≡ n → (r.state ≡ r2.state) × (q.viewing ≡ q2.viewing)
      go same msg =
          let step : r ≡ r2 = one_step plan c n r r2 (subst (λ m. Handles plan c m r) msg (subst (λ s. Handles plan s m r) same.0 handles)) handles2 in
          let moved : AnswersReads plan d n r2 q = subst (λ r. AnswersReads plan d n r q) step (subst (λ m. AnswersReads plan d m r q) msg (subst (λ v. AnswersReads plan v m r q) same.1 reads)) in
          let read : q ≡ q2 = one_read_step plan d n r2 q q2 moved reads2 in
          (ap (λ (r : ServerStep). r.state) step, ap (λ (q : ReadStep). q.viewing) read)

-- ---- what leaves no record changes nothing of the state, and counts no write

-- nothing ran, or the answer was that it was taken
module _ (plan : Plan) (s : ServerState) where
  abbrev Stays : ServerStep → Type 0
  Stays r = is_taken r.answer ≡ false → r.state ≡ s

  taken_then : (r : ServerStep) → is_taken r.answer ≡ true → Stays r
  taken_then r taken ignored = absurd (false≢true (sym ignored ∙ taken))

  start_stays : (before reached : List TxnId) (id : TxnId) (c : GroupCall) (x : Option Handled) → Stays (start_judged plan before reached s id c x)
  start_stays before reached id c (Some answer) = λ i. refl
  start_stays before reached id c None = go (find_group id c.group s.started)
    where
      go : (x : Option StartedGroup) → Stays (start_taken plan before reached s id c x)
      go (Some e) i = refl
      go None i = absurd (false≢true (sym i))

  commit_stays : (before : List TxnId) (components : List (List TxnId)) (id : TxnId) (edges : List Dependency) (facts : List _) (x : Option Handled) → Stays (after_commit plan before components s id edges facts x)
  commit_stays before components id edges facts (Some answer) i = refl
  commit_stays before components id edges facts None i = absurd (false≢true (sym i))

  fetch_stays : (id : TxnId) (asker : Shard) → Stays (after_fetch s id asker)
  fetch_stays id asker = ended (not (is_here id s.started) && is_ended s.below id)
    where
      taken : (x : Option (List Dependency)) → Stays (fetch_taken s id asker x)
      taken (Some edges) i = refl
      taken None i = absurd (false≢true (sym i))

      here : (b : Bool) → Stays (if b then fetch_taken s id asker (list_of id s.lists.known) else ignored s NotHere)
      here true = taken (list_of id s.lists.known)
      here false = λ i. refl

      ended : (b : Bool) → Stays (if b then answered s (settled_to s id asker ∷ []) else (if is_here id s.started then fetch_taken s id asker (list_of id s.lists.known) else ignored s NotHere))
      ended true = λ i. refl
      ended false = here (is_here id s.started)

  known_stays : (components : List (List TxnId)) (id : TxnId) (edges : List Dependency) (x : Option Handled) → Stays (after_known plan components s id edges x)
  known_stays components id edges (Some answer) i = refl
  known_stays components id edges None i = absurd (false≢true (sym i))

  settled_stays : (components : List (List TxnId)) (id : TxnId) (mark : _) → Stays (after_settled plan components s id mark)
  settled_stays components id mark = go (was_asked_for id s.lists.waiting.asked)
    where
      go : (b : Bool) → Stays (forgetting (if b then decides plan (hearing s id.coord mark) (lists_settled s id mark components) components [] [] else refused (hearing s id.coord mark) Gone))
      go true i = absurd (false≢true (sym i))
      go false i = absurd (false≢true (sym i))

  read_stays : (x : Option Handled) → (read_judged s x).state ≡ s
  read_stays (Some answer) = refl
  read_stays None = refl

  read_runs : (x : Option Handled) → (read_judged s x).ran ≡ []
  read_runs (Some answer) = refl
  read_runs None = refl

  message_stays : (f : Findings) (msg : Msg) → Stays (after_message plan s f msg)
  message_stays f (Start id proc group args inputs) = start_stays f.before f.reached id (record { proc = proc; group = group; args = args; inputs = inputs }) (start_refusal plan s id (record { proc = proc; group = group; args = args; inputs = inputs }))
  message_stays f (Commit id edges facts) = commit_stays f.before f.components id edges facts (commit_refusal s id edges facts)
  message_stays f (Fetch id asker) = fetch_stays id asker
  message_stays f (Known id edges) = known_stays f.components id edges (known_refusal s id edges)
  message_stays f (Ended coord mark) = λ i. absurd (false≢true (sym i))
  message_stays f (Settled id mark) = settled_stays f.components id mark
  message_stays f (Read id round proc group args) = λ i. read_stays (read_refusal plan s (record { id = id; round = round; proc = proc; group = group; args = args }))
  message_stays f msg = λ i. refl

-- ---- versions

chosen : (b : Bool) (p q : ReadStep) → (if b then p else q).viewing.versions ≡ cond b p.viewing.versions q.viewing.versions
chosen true p q = refl
chosen false p q = refl

either : (b : Bool) (vs : Counts) → cond b vs vs ≡ vs
either true vs = refl
either false vs = refl

module _ (plan : Plan) (decided : List TxnId) (v : Viewing) (msg : Msg) (r : ServerStep) where
  -- what is counted behind a step depends on what was counted and on what ran
  versions_behind : (reads_behind plan decided v msg r).viewing.versions ≡ cond (is_taken r.answer) (with_accesses v.versions (accesses_of r.ran)) v.versions
  versions_behind = chosen (is_taken r.answer) (answering plan decided r.state (with_accesses v.versions (accesses_of r.ran)) (reads_with msg r.answer v.reads)) (record { viewing = v; sends = [] })

-- ---- a server stands for its records

module _ (plan : Plan) (shard : Shard) (msgs : List Msg) (s : ServerState) (v : Viewing) (x : StandsFor plan shard msgs s v) where
  module _ (m : Msg) (r : ServerStep) (q : ReadStep) (h : Handles plan s m r) (a : AnswersReads plan v m r q) where
    counted_now : q.viewing.versions ≡ cond (is_taken r.answer) (with_accesses v.versions (accesses_of r.ran)) v.versions
    counted_now = ap (λ (q : ReadStep). q.viewing.versions) a.is ∙ versions_behind plan a.decided v m r

    goes_on : is_taken r.answer ≡ true → StandsFor plan shard (msgs ++ m ∷ []) r.state q.viewing
    goes_on taken =
        let p = reads_behind plan a.decided x.viewing m r in
        record {
          viewing = p.viewing;
          fold = one_more_kept m r p x.fold h (record { decided = a.decided; found = a.found; is = refl }) taken;
          versions = counted_now ∙ (ap (λ vs. cond (is_taken r.answer) (with_accesses vs (accesses_of r.ran)) vs) x.versions ∙ sym (versions_behind plan a.decided x.viewing m r));
        }

    stays_for : r.state ≡ s → q.viewing.versions ≡ v.versions → StandsFor plan shard msgs r.state q.viewing
    stays_for same counts = record { viewing = x.viewing; fold = subst (λ s. IsKeptFold plan shard msgs s x.viewing) (sym same) x.fold; versions = counts ∙ x.versions }

    by_answer : (b : Bool) → is_taken r.answer ≡ b → StandsFor plan shard (cond b (msgs ++ m ∷ []) msgs) r.state q.viewing
    by_answer true taken = goes_on taken
    by_answer false ignored =
        stays_for (ap (λ (r : ServerStep). r.state) h.is ∙ message_stays plan s h.findings m (ap (λ (r : ServerStep). is_taken r.answer) (sym h.is) ∙ ignored))
        (counted_now ∙ ap (λ b. cond b (with_accesses v.versions (accesses_of r.ran)) v.versions) ignored)

  read_stands : (k : KeptRead) (r : ServerStep) (q : ReadStep) → Handles plan s (Read k.id k.round k.proc k.group k.args) r → AnswersReads plan v (Read k.id k.round k.proc k.group k.args) r q → StandsFor plan shard msgs r.state q.viewing
  read_stands k r q h a =
      let m = Read k.id k.round k.proc k.group k.args in
      let none : r.ran ≡ [] = ap (λ (r : ServerStep). r.ran) h.is ∙ read_runs plan s (read_refusal plan s k) in
      stays_for m r q h a (ap (λ (r : ServerStep). r.state) h.is ∙ read_stays plan s (read_refusal plan s k))
      (counted_now m r q h a ∙ (ap (λ ran. cond (is_taken r.answer) (with_accesses v.versions (accesses_of ran)) v.versions) none ∙ either (is_taken r.answer) v.versions))

  pub stands_on : (m : Msg) (r : ServerStep) (q : ReadStep) → Handles plan s m r → AnswersReads plan v m r q → StandsFor plan shard (recorded msgs m r.answer) r.state q.viewing
  stands_on (Read id round proc group args) r q h a = read_stands (record { id = id; round = round; proc = proc; group = group; args = args }) r q h a
  stands_on m r q h a = by_answer m r q h a (is_taken r.answer) refl

  -- and as it starts again
  pub stands_again : StandsFor plan shard msgs s (without_reads v)
  stands_again = record { viewing = x.viewing; fold = x.fold; versions = x.versions }
