-- Nothing is sent of a message that comes too late: what holds a kept read up is not forgotten
use Rattle.std.proofs.Common.{◌≡◌, ◌≢◌, ◌∙◌, ◌⊎◌, inl, inr, ℕ, ℤ, Bool, true, false, not, ◌&&◌, List, [], ◌∷◌, ◌++◌, Option, Some, None, map, refl, sym, ap, subst, append-nil}
use Rattle.std.proofs.lemmas.Bool.{and_from, false_from_ne_true}
use Rattle.std.specs.Prelude.{slice_get, if◌then◌else◌, Result, Ok, Err}
use Rattle.std.specs.List.{filter}
use Rattle.roc_sequence.specs.Lists.{Has}
use Rattle.roc_sequence.specs.Places.{is_listed}
use Rattle.roc_sequence.proofs.Holds.{has_any}
use Rattle.roc_sequence.proofs.Members.{has_filter, same_there}
use Rattle.roc_sequence.proofs.Places.{unlisted_test}
use Rattle.roc_base.specs.declared.id.TxnId.{TxnId}
use Rattle.roc_base.specs.declared.node.Node.{Node}
use Rattle.roc_base.specs.declared.node.Node.TheVariants.{Server, Coord}
use Rattle.roc_base.specs.declared.node.Shard.{Shard}
use Rattle.roc_base.specs.TxnId.{is_txn}
use Rattle.roc_base.specs.Edge.{Dependency}
use Rattle.roc_depgraph.specs.Deps.{list_of, IsDecided}
use Rattle.roc_step.specs.Waits.{was_asked_for}
use Rattle.roc_depgraph.specs.declared.known.KnownList.{KnownList}
use Rattle.roc_msg.specs.declared.msg.Msg.{Msg}
use Rattle.roc_msg.specs.declared.msg.Msg.TheVariants.{Start, Commit, Fetch, Known, Ended, Settled, Read}
use Rattle.roc_msg.specs.declared.outbox.Outgoing.{Outgoing}
use Rattle.roc_msg.specs.declared.reason.Reason.TheVariants.{NotHere, Foreign}
use Rattle.roc_plan.specs.Groups.{Plan}
use Rattle.roc_group.specs.GroupRun.{call, GroupCall}
use Rattle.roc_step.proofs.ForgottenLinks.{left_decided}
use Rattle.roc_step.specs.declared.handled.Handled.{Handled}
use Rattle.roc_step.specs.declared.handled.Handled.TheVariants as answer
use Rattle.roc_step.specs.declared.kept_read.KeptRead.{KeptRead}
use Rattle.roc_step.specs.declared.started.StartedGroup.{StartedGroup}
use Rattle.roc_step.specs.Below.{is_ended}
use Rattle.roc_step.specs.Forgets.{forget, forgetting}
use Rattle.roc_step.specs.Lists.{after_commit, commit_refusal, fetch_taken, after_fetch, after_known, known_refusal, after_ended, after_settled, settled_to, lists_settled, decides}
use Rattle.roc_step.specs.Reads.{read_refusal, read_judged, holds_up, is_free, in_turn, readok_of, reads_with, is_taken, with_accesses, answering, AnswersReads, ReadStep}
use Rattle.roc_step.specs.Runs.{accesses_of}
use Rattle.roc_step.specs.Start.{start_judged, start_taken, start_refusal}
use Rattle.roc_step.specs.State.{refused, answered, ignored, hearing, find_group, is_here, ServerState, ServerStep, Viewing}
use Rattle.roc_step.specs.Step.{after_message}
use Rattle.roc_step.specs.Step as server
use Rattle.roc_coord.specs.Step as coord
use Rattle.roc_coord.specs.Submit.{Submission, after_submit}
use Rattle.roc_coord.specs.declared.handled.Handled.{Handled as CoordHandled}
use Rattle.roc_coord.specs.declared.handled.Handled.TheVariants as coord_answer
use Rattle.roc_coord.specs.declared.handled.SubmitFault.{SubmitFault}
use Rattle.roc_coord.specs.declared.handled.SubmitFault.TheVariants as fault
use Rattle.roc_law_protocol.specs.declared.event.Event.{Event}
use Rattle.roc_law_protocol.specs.declared.event.Event.TheVariants.{Submit, Deliver, Tick, Stop}
use Rattle.roc_law_protocol.specs.declared.event.Seen.TheVariants as seen
use Rattle.roc_law_protocol.specs.declared.event.Kept.{Kept}
use Rattle.roc_law_protocol.specs.Happens.{server_seen, coord_seen}
use Rattle.roc_law_protocol.specs.World.{sent_by}
use Rattle.roc_law_protocol.proofs.ForgottenHere.{forgotten, over_of}
use Rattle.roc_law_protocol.proofs.Rounds.{filter_none}
use Rattle.roc_law_world.specs.World.{World, mark_delivered}
use Rattle.roc_law_world.specs.Happens.{Outcome, Submits, IsReceived, IsServed, StopsIn, at_rest, unrecorded, recorded, restarted}
use Rattle.roc_law_world.specs.Run.{Transition}
use Rattle.roc_law_world.proofs.Calm.{AreCalm}
use Rattle.roc_law_world.proofs.KeptReads.{IsHeld}

-- ---- a server's step

module _ (plan : Plan) (s : ServerState) where
  -- it sends nothing, and the server is as it was, but for a watermark that it heard and what it forgot by that
  pub record IsLate (r : ServerStep) : Type 0 where
    pub sends : r.sends ≡ []
    pub state : (r.state ≡ s) ⊎ ((coord : ℕ) × (mark : ℕ) × (r.state ≡ forget (hearing s coord mark)))

  abbrev IsLateWhereGone : ServerStep → Type 0
  IsLateWhereGone r = r.answer ≡ answer.Gone → IsLate r

  refused_late : (what : Handled) → IsLateWhereGone (refused s what)
  refused_late what e = record { sends = refl; state = inl refl }

  done_late : (r : ServerStep) → r.answer ≡ answer.Done → IsLateWhereGone r
  done_late r done gone = absurd (apart (sym done ∙ gone))
    where
      apart : answer.Done ≢ answer.Gone
      apart e = cc

  start_late : (f : server.Findings) (id : TxnId) (c : GroupCall) (x : Option Handled) → IsLateWhereGone (start_judged plan f.before f.reached s id c x)
  start_late f id c (Some what) = refused_late what
  start_late f id c None = taken (find_group id c.group s.started)
    where
      taken : (x : Option StartedGroup) → IsLateWhereGone (start_taken plan f.before f.reached s id c x)
      taken (Some e) = done_late (start_taken plan f.before f.reached s id c (Some e)) refl
      taken None = done_late (start_taken plan f.before f.reached s id c None) refl

  commit_late : (before : List TxnId) (components : List (List TxnId)) (id : TxnId) (edges : List Dependency) (facts : List KnownList) (x : Option Handled)
      → IsLateWhereGone (after_commit plan before components s id edges facts x)
  commit_late before components id edges facts (Some what) = refused_late what
  commit_late before components id edges facts None = done_late (after_commit plan before components s id edges facts None) refl

  known_late : (components : List (List TxnId)) (id : TxnId) (edges : List Dependency) (x : Option Handled) → IsLateWhereGone (after_known plan components s id edges x)
  known_late components id edges (Some what) = refused_late what
  known_late components id edges None = done_late (after_known plan components s id edges None) refl

  fetch_late : (id : TxnId) (asker : Shard) → IsLateWhereGone (after_fetch s id asker)
  fetch_late id asker = ended (not (is_here id s.started) && is_ended s.below id)
    where
      taken : (x : Option (List Dependency)) → IsLateWhereGone (fetch_taken s id asker x)
      taken (Some edges) = done_late (fetch_taken s id asker (Some edges)) refl
      taken None = done_late (fetch_taken s id asker None) refl

      here : (b : Bool) → IsLateWhereGone (if b then fetch_taken s id asker (list_of id s.lists.known) else ignored s NotHere)
      here true = taken (list_of id s.lists.known)
      here false = refused_late (answer.Ignored NotHere)

      ended : (b : Bool) → IsLateWhereGone (if b then answered s (settled_to s id asker ∷ []) else (if is_here id s.started then fetch_taken s id asker (list_of id s.lists.known) else ignored s NotHere))
      ended true = done_late (answered s (settled_to s id asker ∷ [])) refl
      ended false = here (is_here id s.started)

  settled_late : (components : List (List TxnId)) (id : TxnId) (mark : ℕ) → IsLateWhereGone (after_settled plan components s id mark)
  settled_late components id mark = go (was_asked_for id s.lists.waiting.asked)
    where
      go : (b : Bool) → IsLateWhereGone (forgetting (if b then decides plan (hearing s id.coord mark) (lists_settled s id mark components) components [] [] else refused (hearing s id.coord mark) answer.Gone))
      go true = done_late (forgetting (decides plan (hearing s id.coord mark) (lists_settled s id mark components) components [] [])) refl
      go false = λ e. record { sends = refl; state = inr (id.coord, mark, refl) }

  read_late : (x : Option Handled) → IsLateWhereGone (read_judged s x)
  read_late (Some what) = refused_late what
  read_late None = done_late (answered s []) refl

  message_late : (f : server.Findings) (msg : Msg) → IsLateWhereGone (after_message plan s f msg)
  message_late f (Start id proc group args inputs) = start_late f id (call proc group args inputs) (start_refusal plan s id (call proc group args inputs))
  message_late f (Commit id edges facts) = commit_late f.before f.components id edges facts (commit_refusal s id edges facts)
  message_late f (Fetch id asker) = fetch_late id asker
  message_late f (Known id edges) = known_late f.components id edges (known_refusal s id edges)
  message_late f (Ended coord mark) = done_late (after_ended s coord mark) refl
  message_late f (Settled id mark) = settled_late f.components id mark
  message_late f (Read id round proc group args) = read_late (read_refusal plan s (record { id = id; round = round; proc = proc; group = group; args = args }))
  message_late f msg = refused_late (answer.Ignored Foreign)

  -- ---- what holds a kept read up

  module _ (decided : (c : List TxnId) (t : TxnId) → Has c s.lists.taken → Has t c → IsDecided s.lists.links t) where
    held_there : (coord mark : ℕ) (x : KeptRead) → IsHeld plan s x → IsHeld plan (forget (hearing s coord mark)) x
    held_there coord mark x h =
        record {
          by = h.by;
          has = has_filter (λ (e : StartedGroup). not (forgotten v e.id)) h.by s.started h.has (ap not kept);
          undecided = λ d. h.undecided (left_decided (forgotten v) s.lists.links over_decided h.by.id d).0;
          writes = h.writes;
        }
      where
        v : ServerState
        v = hearing s coord mark

        over_decided : (t : TxnId) → forgotten (hearing s coord mark) t ≡ true → IsDecided s.lists.links t
        over_decided t f = let k = over_of v t f in decided k.component t k.has k.member

        kept : forgotten (hearing s coord mark) h.by.id ≡ false
        kept = false_from_ne_true (forgotten v h.by.id) (λ f. h.undecided (over_decided h.by.id f))

    held_still : (r : ServerStep) → IsLate r → (x : KeptRead) → IsHeld plan s x → IsHeld plan r.state x
    held_still r late x h = elim late.state [
      | inl e ↦ subst (λ (s : ServerState). IsHeld plan s x) (sym e) h
      | inr k ↦ subst (λ (s : ServerState). IsHeld plan s x) (sym k.2) (held_there k.0 k.1 x h)
    ]

  -- a read that is held is not free
  held_not_free : (ids : List TxnId) (v : ServerState) → ((t : TxnId) → ¬ IsDecided v.lists.links t → is_listed is_txn ids t ≡ false) → (x : KeptRead) → IsHeld plan v x → is_free plan ids v x ≡ false
  held_not_free ids v none x h =
      ap not (has_any (λ (e : StartedGroup). not (is_listed is_txn ids e.id) && holds_up plan v x e) v.started h.by h.has
      (and_from (not (is_listed is_txn ids h.by.id)) (holds_up plan v x h.by) (ap not (none h.by.id h.undecided)) h.writes))

  -- so nothing comes of it for reads
  late_reads : (z : Viewing) (msg : Msg) (r : ServerStep) (q : ReadStep) → AnswersReads plan z msg r q → r.answer ≡ answer.Gone → ((x : KeptRead) → Has x z.reads → IsHeld plan r.state x) → q.sends ≡ []
  late_reads z msg r q a gone held = ap (λ (q : ReadStep). q.sends) a.is ∙ go r.answer gone
    where
      none : (t : TxnId) → ¬ IsDecided r.state.lists.links t → is_listed is_txn a.decided t ≡ false
      none t n = unlisted_test is_txn a.decided t (λ l. n (a.found.sound t l))

      same_reads : (msg : Msg) → reads_with msg answer.Gone z.reads ≡ z.reads
      same_reads (Read id round proc group args) = refl
      same_reads msg = refl

      nobody : filter (is_free plan a.decided r.state) (reads_with msg answer.Gone z.reads) ≡ []
      nobody = ap (filter (is_free plan a.decided r.state)) (same_reads msg) ∙ filter_none (is_free plan a.decided r.state) z.reads (λ x h. held_not_free a.decided r.state none x (held x h))

      go : (what : Handled) → what ≡ answer.Gone
          → (if is_taken what then answering plan a.decided r.state (with_accesses z.versions (accesses_of r.ran)) (reads_with msg what z.reads) else record { viewing = z; sends = [] }).sends ≡ []
      go answer.Gone e = ap (λ l. map (readok_of plan r.state (with_accesses z.versions (accesses_of r.ran))) (in_turn l)) nobody
      go answer.Done e = absurd (cc)
      go (answer.Ignored why) e = absurd (cc)

-- ---- any step

late_at_server : (what : Handled) → server_seen what ≡ seen.Gone → what ≡ answer.Gone
late_at_server answer.Gone e = refl
late_at_server answer.Done e = absurd (cc)
late_at_server (answer.Ignored why) e = absurd (cc)

never_at_coord : (what : CoordHandled) → coord_seen what ≢ seen.Gone
never_at_coord coord_answer.Done e = cc
never_at_coord (coord_answer.Answered id reply) e = cc
never_at_coord (coord_answer.Ignored why) e = cc

module _ (plan : Plan) (w : World) (uncounted : List ℕ) (calm : AreCalm plan (record w { undelivered = uncounted }))
    (decided : (n : ℕ) (s : ServerState) → slice_get w.servers n ≡ Some s → (c : List TxnId) (t : TxnId) → Has c s.lists.taken → Has t c → IsDecided s.lists.links t) where
  served_late : (k : ℕ) (msg : Msg) (n : ℕ) (o : Outcome) → IsServed plan (mark_delivered w k) msg n o → o.seen ≡ seen.Gone → o.world.sent ≡ w.sent
  served_late k msg n o x gone =
      let r = x.step in
      let said : r.answer ≡ answer.Gone = late_at_server r.answer (sym (ap (λ (o : Outcome). o.seen) x.is) ∙ gone) in
      let late : IsLate plan x.state r = subst (λ (r : ServerStep). r.answer ≡ answer.Gone → IsLate plan x.state r) (sym x.handles.is) (message_late plan x.state x.handles.findings msg) said in
      let reads = late_reads plan x.state x.viewing msg r x.reads x.answers said (λ y h.
      let b = calm.kept n x.viewing x.keeps y h in
      let same : b.server ≡ x.state = same_there w.servers n b.server x.state b.there x.there in
      held_still plan x.state (decided n x.state x.there) r late y (subst (λ (s : ServerState). IsHeld plan s y) same b.held)) in
      ap (λ (o : Outcome). o.world.sent) x.is ∙ (nothing (r.sends ++ x.reads.sends) (ap (λ l. l ++ x.reads.sends) late.sends ∙ reads))
    where
      nothing : (outs : List Outgoing) → outs ≡ [] → w.sent ++ map (sent_by (Server (record { 0 = n }))) outs ≡ w.sent
      nothing outs e = ap (λ l. w.sent ++ map (sent_by (Server (record { 0 = n }))) l) e ∙ append-nil w.sent

  submits_not_gone : (n proc : ℕ) (args : List ℤ) (r : Submission) (o : Outcome) → Submits w n proc args r.state r.sends r.answer o → o.seen ≢ seen.Gone
  submits_not_gone n proc args r o h = go r.answer h
    where
      go : (a : Result TxnId SubmitFault) → Submits w n proc args r.state r.sends a o → o.seen ≢ seen.Gone
      go (Ok id) k e = let f = sym (ap (λ (o : Outcome). o.seen) k) ∙ e in cc
      go (Err fault.Spent) k e = let f = sym (ap (λ (o : Outcome). o.seen) k) ∙ e in cc
      go (Err fault.Busy) k e = let f = sym (ap (λ (o : Outcome). o.seen) k) ∙ e in cc
      go (Err fault.NoProc) k e = absurd k
      go (Err fault.Args) k e = absurd k
      go (Err fault.NoMemory) k e = absurd k

  -- a stop is Done, whatever the server answers to the message
  stops_not_gone : (n : ℕ) (s : ServerState) (v : Viewing) (during : Option (ℕ × Kept)) (before : World) (r : ServerStep) (q : ReadStep) → StopsIn plan w n s v during before r q
      → (restarted before n r q).seen ≢ seen.Gone
  stops_not_gone n s v during before r q at_rest e = cc
  stops_not_gone n s v during before r q (unrecorded k m sent) e = cc
  stops_not_gone n s v during before r q (recorded k many m whole reads sent handles answers) e = cc

  pub gone_silent : (e : Option Event) (o : Outcome) → Transition plan w e o → o.seen ≡ seen.Gone → o.world.sent ≡ w.sent
  gone_silent None o h gone = ap (λ (o : Outcome). o.world.sent) h
  gone_silent (Some (Submit n proc args)) o (s, there, h) gone = absurd (submits_not_gone n proc args (after_submit plan s proc args) o h gone)
  gone_silent (Some (Deliver k)) o (m, some, there, h) gone = go m.to h
    where
      go : (to : Node) → IsReceived plan (mark_delivered w k) m.msg to o → o.world.sent ≡ w.sent
      go (Server shard) x = served_late k m.msg shard.0 o x gone
      go (Coord n) (s, at, e) = absurd (never_at_coord (coord.after_message plan s m.msg).answer (sym (ap (λ (o : Outcome). o.seen) e) ∙ gone))
  gone_silent (Some (Tick (Server shard))) o (s, z, there, keeps, h) gone = absurd (let f = sym (ap (λ (o : Outcome). o.seen) h) ∙ gone in cc)
  gone_silent (Some (Tick (Coord n))) o (s, there, h) gone = absurd (let f = sym (ap (λ (o : Outcome). o.seen) h) ∙ gone in cc)
  gone_silent (Some (Stop shard during)) o x gone = absurd (stops_not_gone shard.0 x.state x.viewing during x.before x.step x.reads x.stops (sym (ap (λ (o : Outcome). o.seen) x.is) ∙ gone))
