-- A server takes each message that comes
use Rattle.std.proofs.Common.{◌≡◌, ◌⊎◌, ℕ, ℤ, ◌<◌, ◌==◌, Bool, true, false, not, ◌&&◌, List, [], ◌∷◌, Option, Some, None, length, refl, sym, ap, subst, ◌∙◌, inl, inr, arith, is_none}
use Rattle.std.proofs.lemmas.Bool.{false≢true, and_parts, and_from, eq-eqb, false_from_ne_true, not_from_false}
use Rattle.std.proofs.lemmas.Bool.Decides.{nat_tests}
use Rattle.std.proofs.lemmas.List.{length-map}
use Rattle.std.specs.Prelude.{slice_get, nat_lt, if◌then◌else◌}
use Rattle.roc_sequence.specs.Lists.{Has}
use Rattle.roc_sequence.specs.Places.{IsListed}
use Rattle.roc_sequence.proofs.Holds.{none_has}
use Rattle.roc_base.specs.declared.id.TxnId.{TxnId}
use Rattle.roc_base.specs.declared.node.Node.TheVariants.{Server, Coord}
use Rattle.roc_base.specs.declared.node.Shard.{Shard}
use Rattle.roc_base.specs.TxnId.{is_txn}
use Rattle.roc_base.specs.Equalities.{is_txn-true, Decides-is_edges, Decides-is_nums}
use Rattle.roc_base.specs.Edge.{Dependency}
use Rattle.roc_base.specs.Equality.{is_edges, is_nums}
use Rattle.roc_depgraph.specs.declared.known.KnownList.{KnownList}
use Rattle.roc_depgraph.specs.Deps.{list_of, is_known}
use Rattle.roc_msg.specs.declared.msg.Msg.{Msg}
use Rattle.roc_msg.specs.declared.msg.Msg.TheVariants.{Start, StartOk, Commit, CommitOk, Fetch, Known, Ended, Settled}
use Rattle.roc_msg.specs.declared.msg.Envelope.{Envelope}
use Rattle.roc_msg.specs.declared.reason.Reason.TheVariants.{NotHere}
use Rattle.roc_plan.specs.declared.group.Input.{Input}
use Rattle.roc_plan.specs.Groups.{Plan, procedure_of, groups_of, inputs_of, shard_of, group_place, is_transaction}
use Rattle.roc_whole.specs.Serial as whole
use Rattle.roc_group.specs.GroupRun.{GroupCall, call}
use Rattle.roc_law_orders.specs.Behaviour.{TxnGroup, is_group_number}
use Rattle.roc_law_orders.specs.Runs.{needs, inputs_at}
use Rattle.roc_law_log.specs.Scheme.{Scheme}
use Rattle.roc_law_log.specs.Log.{Log}
use Rattle.roc_law_log.specs.Invariants.{LogInvariants}
use Rattle.roc_step.specs.declared.handled.Handled.{Handled}
use Rattle.roc_step.specs.declared.handled.Handled.TheVariants.{Done, Gone}
use Rattle.roc_step.specs.Below.{is_ended}
use Rattle.roc_step.specs.declared.started.StartedGroup.{StartedGroup}
use Rattle.roc_step.specs.State.{is_here, find_group, refused, ignored, answered, hearing, ServerState, ServerStep}
use Rattle.roc_step.specs.Start.{has_procedure, has_counts, differs, start_refusal, start_taken, start_judged}
use Rattle.roc_step.specs.Carried.{list_with, is_unlike}
use Rattle.roc_step.specs.Lists.{commit_refusal, after_commit, fetch_taken, settled_to, after_fetch, known_refusal, after_known, decides, lists_settled, after_settled}
use Rattle.roc_step.specs.Step.{Findings, Handles, after_message}
use Rattle.roc_audit.specs.declared.entry.Entry.TheVariants.{Submitted}
use Rattle.roc_law_protocol.specs.PlanAssumptions.{picked, IsSchemeOf}
use Rattle.roc_step.specs.Waits.{was_asked_for}
use Rattle.roc_law_protocol.specs.Final.{lists_in}
use Rattle.roc_law_protocol.specs.Beginnings.{Beginning}
use Rattle.roc_law_protocol.specs.World.{World}
use Rattle.roc_law_protocol.specs.Inner.Given.{LogLaws}
use Rattle.roc_law_protocol.proofs.Means.{run_of, stage, place, Began, Means, StartIs, ServerMeans}
use Rattle.roc_law_protocol.proofs.SaidOfServers.{begun_here}
use Rattle.roc_law_protocol.proofs.Gone.{IsGone}
use Rattle.roc_law_protocol.proofs.Starting.{shard_number}
use Rattle.roc_law_protocol.proofs.Served.{list_has, StartsAre}
use Rattle.roc_law_protocol.proofs.Facts.{known_has}
use Rattle.roc_law_protocol.proofs.Submissions.{AreSubmissions}
use Rattle.roc_law_protocol.proofs.Fetches.{FetchedFor, IsAskedFor, HasAsked}
use Rattle.roc_law_protocol.proofs.Networks.{Good, IsNetworked, one_union}
use Rattle.roc_law_protocol.proofs.Logged.{Agrees, IsLogged}

length-picked : (is : List Input) (given : List (List ℤ)) → length given ≡ length is → length (picked is given) ≡ length is
length-picked [] given e = refl
length-picked (i ∷ is) [] e = absurd (omega arith)
length-picked (i ∷ is) (v ∷ given) e = let r = length-picked is given (omega arith) in omega arith

-- it is taken, or comes too late of a transaction that has ended
abbrev pub IsTakenAs : Handled → Type 0
IsTakenAs answer = (answer ≡ Done) ⊎ (answer ≡ Gone)

-- so it is where this is why it is not taken
abbrev IsTakenOrGone : Option Handled → Type 0
IsTakenOrGone why = (why ≡ None) ⊎ (why ≡ Some Gone)

just : {a : Handled} → Some a ≡ Some Gone → a ≡ Gone
just e = cc

module _ (plan : Plan) (asked : TxnId → whole.Call) (S : Scheme) (start : Beginning) (is : IsSchemeOf plan asked S) (laws : LogLaws S start.store) (w : World) (log : Log) (o : IsLogged plan asked S start is laws w log) (nw : IsNetworked plan asked S start is laws w) (ha : HasAsked w) (subs : AreSubmissions plan w.history w.coords) (agrees : Agrees asked w) (known : (t : TxnId) → is_transaction plan (asked t).procedure ≡ true) (n : ℕ) (s : ServerState) (there : slice_get w.servers n ≡ Some s) where
  i : LogInvariants S start.store log
  i = laws.holds log o.means.reached

  mine : ServerMeans plan asked S start log n s
  mine = o.means.servers n s there

  -- ---- a start

  module _ (m : Envelope) (has : Has m w.sent) (id : TxnId) (proc group : ℕ) (args inputs : List ℤ) (msg : m.msg ≡ Start id proc group args inputs) (to : m.to ≡ Server (record { 0 = n })) where
    abbrev c : GroupCall
    c = call proc group args inputs

    abbrev r : TxnGroup
    r = run_of id group

    k : StartIs plan asked S start log id proc group args inputs m.to
    k = subst (λ msg. Means plan asked S start log msg m.to) msg (o.means.messages m has)

    on : place plan asked S start log r ≡ n
    on = ap shard_number (sym k.to ∙ to)

    procedure : has_procedure plan proc ≡ true
    procedure = subst (λ p. is_transaction plan p ≡ true) (sym k.proc) (known id)

    group_there : nat_lt group (length (groups_of plan proc)) ≡ true
    group_there = let l = (is.groups id group).0 k.means.listed in let l2 : group < length (groups_of plan proc) = subst (λ p. group < length (groups_of plan p)) (sym k.proc) l in grind (arith, nat_tests)

    counts : has_counts plan c ≡ true
    counts =
        let sub = subst (StartsAre (λ t. (p : ℕ) × (a : List ℤ) × Has (Submitted t p a) w.history)) msg (o.starts m has) in
        let a : args ≡ sub.1 = k.args ∙ sym (agrees.args id sub.0 sub.1 sub.2) in
        let p : proc ≡ sub.0 = k.proc ∙ sym (agrees.proc id sub.0 sub.1 sub.2) in
        let counted : length args ≡ (procedure_of plan proc).arguments = ap length a ∙ (subs.arguments id sub.0 sub.1 sub.2 ∙ ap (λ p. (procedure_of plan p).arguments) (sym p)) in
        let is_of = inputs_of plan (asked id).procedure group in
        let stage_inputs = inputs_at S.behaviour (stage plan asked S start log) r in
        let many : length stage_inputs ≡ length is_of =
        length-map (needs S.behaviour r) (λ q. ((stage plan asked S start log).yielded q).bound)
        ∙ (length-map (S.behaviour.sources r) (run_of id)
        ∙ (ap length (is.sources r) ∙ length-map is_of (λ (a : Input). a.group))) in
        let taken : length inputs ≡ length (inputs_of plan proc group) = ap length k.inputs ∙ (length-picked is_of stage_inputs many ∙ ap (λ p. length (inputs_of plan p group)) (sym k.proc)) in
        and_from (length args == (procedure_of plan proc).arguments) (length inputs == length (inputs_of plan proc group)) (eq-eqb (length args) (procedure_of plan proc).arguments counted) (eq-eqb (length inputs) (length (inputs_of plan proc group)) taken)

    here : shard_of plan (group_place plan proc group args inputs) == s.shard.0 ≡ true
    here =
        let e : place plan asked S start log r ≡ shard_of plan (group_place plan proc group args inputs) =
        is.group_shard r (inputs_at S.behaviour (stage plan asked S start log) r) ∙ sym (λ j. shard_of plan (group_place plan (k.proc j) group (k.args j) (k.inputs j))) in
        eq-eqb (shard_of plan (group_place plan proc group args inputs)) s.shard.0 (sym e ∙ (on ∙ sym mine.number))

    -- a group that is not here is of none whose list is known, unless it has ended
    not_late : is_none (find_group id group s.started) && is_ended s.below id ≡ false → is_none (find_group id group s.started) && is_known s.lists.known id ≡ false
    not_late first = false_from_ne_true (is_none (find_group id group s.started) && is_known s.lists.known id) (λ h.
        let p = and_parts (is_none (find_group id group s.started)) (is_known s.lists.known id) h in
        let l = known_has s.lists.known id p.1 in
        let began = subst (λ t. Began plan asked S start log (run_of t group)) l.2 ((mine.known l.0 l.1).is_whole group (subst (λ t. IsListed is_group_number (S.behaviour.groups t) group) (sym l.2) k.means.listed)) in
        elim (mine.groups.finds r began on) [
          | inl f ↦ clash f.0 f.1 p.0
          | inr gone ↦ false≢true (sym first ∙ and_from (is_none (find_group id group s.started)) (is_ended s.below id) p.0 gone.ended)
        ])
      where
        clash : (e : StartedGroup) → find_group id group s.started ≡ Some e → is_none (find_group id group s.started) ≡ true → ⊥
        clash e f h = false≢true (sym (ap is_none f) ∙ h)

    no_other : differs s id c ≡ false
    no_other = none_has (λ (e : StartedGroup). is_txn e.id id && not (e.proc == proc && is_nums e.args args)) s.started (λ e h. false_from_ne_true (is_txn e.id id && not (e.proc == proc && is_nums e.args args)) (λ j.
        let p = and_parts (is_txn e.id id) (not (e.proc == proc && is_nums e.args args)) j in
        let same = is_txn-true e.id id p.0 in
        let q = mine.groups.entries e h in
        let a = eq-eqb e.proc proc (q.proc ∙ (ap (λ t. (asked t).procedure) same ∙ sym k.proc)) in
        let b = (Decides-is_nums e.args args).1 (q.args ∙ (ap (λ t. (asked t).arguments) same ∙ sym k.args)) in
        false≢true (ap not (sym (and_from (e.proc == proc) (is_nums e.args args) a b)) ∙ p.1)))

    -- so it is taken, or comes too late of one that has ended
    start_taken-here : IsTakenOrGone (start_refusal plan s id c)
    start_taken-here = go (is_none (find_group id group s.started) && is_ended s.below id) refl
      where
        go : (b : Bool) → is_none (find_group id group s.started) && is_ended s.below id ≡ b → IsTakenOrGone (start_refusal plan s id c)
        go true e = inr (rw e refl)
        go false e = inl (rw (e, procedure, group_there, counts, here, not_late e, no_other) refl)

  -- ---- lists

  alike : (k : KnownList) → Good plan asked S start is laws w.sent k.of k.edges → is_unlike s.lists.known k ≡ false
  alike k g = go (list_of k.of s.lists.known) refl
    where
      go : (x : Option (List Dependency)) → list_of k.of s.lists.known ≡ x → is_unlike s.lists.known k ≡ false
      go None e = rw e refl
      go (Some kept) e =
          let l = list_has s.lists.known k.of kept e in
          let good : Good plan asked S start is laws w.sent k.of kept = subst (λ es. Good plan asked S start is laws w.sent k.of es) l.3 (subst (λ t. Good plan asked S start is laws w.sent t l.0.edges) l.2 ((nw.servers n s there).known l.0 l.1)) in
          let same = one_union plan asked S start is laws w log o nw k.of kept k.edges good g in
          rw e (ap not ((Decides-is_edges kept k.edges).1 same))

  commit_taken-here : (m : Envelope) → Has m w.sent → (id : TxnId) (edges : List Dependency) (facts : List KnownList) → m.msg ≡ Commit id edges facts → m.to ≡ Server (record { 0 = n }) → IsTakenOrGone (commit_refusal s id edges facts)
  commit_taken-here m has id edges facts msg to =
      let means = subst (λ to. Means plan asked S start log (Commit id edges facts) to) to (subst (λ msg. Means plan asked S start log msg m.to) msg (o.means.messages m has)) in
      let good : (k : KnownList) → Has k (list_with id edges ∷ facts) → Good plan asked S start is laws w.sent k.of k.edges = λ k h. nw.lists m has k (subst (λ msg. Has k (lists_in msg)) (sym msg) h) in
      let b = none_has (is_unlike s.lists.known) (list_with id edges ∷ facts) (λ k h. alike k (good k h)) in
      let d = none_has (λ (f : KnownList). is_txn f.of id && not (is_edges f.edges edges)) facts (λ f h. false_from_ne_true (is_txn f.of id && not (is_edges f.edges edges)) (λ j.
      let p = and_parts (is_txn f.of id) (not (is_edges f.edges edges)) j in
      let same = one_union plan asked S start is laws w log o nw id f.edges edges (subst (λ t. Good plan asked S start is laws w.sent t f.edges) (is_txn-true f.of id p.0) (good f (inr h))) (good (list_with id edges) (inl refl)) in
      false≢true (ap not (sym ((Decides-is_edges f.edges edges).1 same)) ∙ p.1))) in
      elim (begun_here plan asked S start log n s mine id means.1) [ inl a ↦ inl (rw (a, b, d) refl) | inr gone ↦ inr (rw (gone.nowhere, gone.ended) refl) ]

  known_taken-here : (m : Envelope) → Has m w.sent → (id : TxnId) (edges : List Dependency) → m.msg ≡ Known id edges → m.to ≡ Server (record { 0 = n }) → IsTakenOrGone (known_refusal s id edges)
  known_taken-here m has id edges msg to =
      let f = subst (λ to. FetchedFor (IsAskedFor w.servers) (Known id edges) to) to (subst (λ msg. FetchedFor (IsAskedFor w.servers) msg m.to) msg (ha.sent m has)) in
      let b = alike (list_with id edges) (nw.lists m has (list_with id edges) (subst (λ msg. Has (list_with id edges) (lists_in msg)) (sym msg) (inl refl))) in
      go (was_asked_for id s.lists.waiting.asked) refl b (subst (λ (v : ServerState). (was_asked_for id v.lists.waiting.asked ≡ true) ⊎ (is_ended v.below id ≡ true)) (same f.server f.there) f.was)
    where
      same : (v : ServerState) → slice_get w.servers n ≡ Some v → v ≡ s
      same v e = let f = there in cc

      go : (a : Bool) → was_asked_for id s.lists.waiting.asked ≡ a → is_unlike s.lists.known (list_with id edges) ≡ false → (was_asked_for id s.lists.waiting.asked ≡ true) ⊎ (is_ended s.below id ≡ true) → IsTakenOrGone (known_refusal s id edges)
      go true a b f = inl (rw (a, b) refl)
      go false a b (inl f) = absurd (false≢true (sym a ∙ f))
      go false a b (inr e) = inr (rw (a, e) refl)

  fetch_taken-here : (m : Envelope) → Has m w.sent → (id : TxnId) (asker : Shard) → m.msg ≡ Fetch id asker → m.to ≡ Server (record { 0 = n }) → (is_here id s.started ≡ true) ⊎ IsGone s id
  fetch_taken-here m has id asker msg to =
      begun_here plan asked S start log n s mine id (subst (λ to. Means plan asked S start log (Fetch id asker) to) to (subst (λ msg. Means plan asked S start log msg m.to) msg (o.means.messages m has)))

  -- ---- any message

  pub message_taken : (m : Envelope) → Has m w.sent → m.to ≡ Server (record { 0 = n }) → (r : ServerStep) → Handles plan s m.msg r → IsTakenAs r.answer
  message_taken m has to r h = subst (λ (r : ServerStep). IsTakenAs r.answer) (sym h.is) (go m.msg refl)
    where
      start_done : (f : Findings) (id : TxnId) (c : GroupCall) (x : Option Handled) → IsTakenOrGone x → IsTakenAs (start_judged plan f.before f.reached s id c x).answer
      start_done f id c (Some answer) (inl e) = absurd (cc)
      start_done f id c (Some answer) (inr e) = inr (just e)
      start_done f id c None e = taken (find_group id c.group s.started)
        where
          taken : (x : Option StartedGroup) → IsTakenAs (start_taken plan f.before f.reached s id c x).answer
          taken (Some e) = inl refl
          taken None = inl refl

      commit_done : (before : List TxnId) (components : List (List TxnId)) (id : TxnId) (edges : List Dependency) (facts : List KnownList) (x : Option Handled) → IsTakenOrGone x → IsTakenAs (after_commit plan before components s id edges facts x).answer
      commit_done before components id edges facts (Some answer) (inl e) = absurd (cc)
      commit_done before components id edges facts (Some answer) (inr e) = inr (just e)
      commit_done before components id edges facts None e = inl refl

      known_done : (components : List (List TxnId)) (id : TxnId) (edges : List Dependency) (x : Option Handled) → IsTakenOrGone x → IsTakenAs (after_known plan components s id edges x).answer
      known_done components id edges (Some answer) (inl e) = absurd (cc)
      known_done components id edges (Some answer) (inr e) = inr (just e)
      known_done components id edges None e = inl refl

      fetch_done : (id : TxnId) (asker : Shard) → (is_here id s.started ≡ true) ⊎ IsGone s id → IsTakenAs (after_fetch s id asker).answer
      fetch_done id asker (inl here) = subst (λ b. IsTakenAs (if not b && is_ended s.below id then answered s (settled_to s id asker ∷ []) else (if b then fetch_taken s id asker (list_of id s.lists.known) else ignored s NotHere)).answer) (sym here) (told (list_of id s.lists.known))
        where
          told : (x : Option (List Dependency)) → IsTakenAs (fetch_taken s id asker x).answer
          told (Some edges) = inl refl
          told None = inl refl
      fetch_done id asker (inr gone) =
          subst (λ b. IsTakenAs (if b then answered s (settled_to s id asker ∷ []) else (if is_here id s.started then fetch_taken s id asker (list_of id s.lists.known) else ignored s NotHere)).answer)
          (sym (and_from (not (is_here id s.started)) (is_ended s.below id) (not_from_false (is_here id s.started) gone.nowhere) gone.ended)) (inl refl)

      settled_done : (components : List (List TxnId)) (id : TxnId) (mark : ℕ) → IsTakenAs (after_settled plan components s id mark).answer
      settled_done components id mark = was (was_asked_for id s.lists.waiting.asked)
        where
          was : (b : Bool) → IsTakenAs (if b then decides plan (hearing s id.coord mark) (lists_settled s id mark components) components [] [] else refused (hearing s id.coord mark) Gone).answer
          was true = inl refl
          was false = inr refl

      to_coord : {c : ℕ} → m.to ≡ Coord c → ⊥
      to_coord e = let f = to in cc

      go : (msg : Msg) → m.msg ≡ msg → IsTakenAs (after_message plan s h.findings msg).answer
      go (Start id proc group args inputs) e = start_done h.findings id (call proc group args inputs) (start_refusal plan s id (call proc group args inputs)) (start_taken-here m has id proc group args inputs e to)
      go (Commit id edges facts) e = commit_done h.findings.before h.findings.components id edges facts (commit_refusal s id edges facts) (commit_taken-here m has id edges facts e to)
      go (Fetch id asker) e = fetch_done id asker (fetch_taken-here m has id asker e to)
      go (Known id edges) e = known_done h.findings.components id edges (known_refusal s id edges) (known_taken-here m has id edges e to)
      go (StartOk id group shard bound outs edges facts) e = absurd (to_coord (subst (λ msg. Means plan asked S start log msg m.to) e (o.means.messages m has)).2)
      go (CommitOk id shard outs) e = absurd (to_coord (subst (λ msg. Means plan asked S start log msg m.to) e (o.means.messages m has)).1)
      go (Ended coord mark) e = inl refl
      go (Settled id mark) e = settled_done h.findings.components id mark
      go any e = absurd (subst (λ msg. Means plan asked S start log msg m.to) e (o.means.messages m has))
