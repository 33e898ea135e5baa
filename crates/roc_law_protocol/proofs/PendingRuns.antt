-- Each event keeps what holds of pending transactions
use Rattle.std.proofs.Common.{◌≡◌, ◌≢◌, ℕ, ℤ, ◌-◌, ◌==◌, Bool, true, false, not, ◌&&◌, List, [], ◌∷◌, Option, Some, None, map, refl, sym, ap, subst, ◌∙◌, inl, inr, is_some, flat_map}
use Rattle.std.proofs.lemmas.Bool.{false≢true, and_parts, and_from, eq-eqb, cond-true}
use Rattle.std.specs.Prelude.{slice_get, slice_set, filter, is_none, if◌then◌else◌}
use Rattle.roc_sequence.specs.Lists.{Has}
use Rattle.roc_sequence.proofs.Holds.{has_any}
use Rattle.roc_sequence.proofs.Found.{found_has}
use Rattle.roc_sequence.proofs.Members.{has_append, has_one, has_right, has_at, has_map, from_has_map, from_has_filter, from_has_flat_map}
use Rattle.roc_base.specs.declared.id.TxnId.{TxnId}
use Rattle.roc_base.specs.declared.node.Node.{Node}
use Rattle.roc_base.specs.declared.node.Node.TheVariants.{Server, Coord}
use Rattle.roc_base.specs.declared.node.Shard.{Shard}
use Rattle.roc_base.specs.TxnId.{is_txn}
use Rattle.roc_base.proofs.Ids.{is_txn-eq}
use Rattle.roc_base.specs.Edge.{Dependency}
use Rattle.roc_depgraph.specs.declared.known.KnownList.{KnownList}
use Rattle.roc_msg.specs.declared.msg.Msg.{Msg}
use Rattle.roc_msg.specs.declared.msg.Msg.TheVariants.{StartOk, CommitOk, ReadOk}
use Rattle.roc_msg.specs.declared.msg.Envelope.{Envelope}
use Rattle.roc_msg.specs.declared.outbox.Outgoing.{Outgoing}
use Rattle.roc_msg.specs.declared.reason.Reason.{Reason}
use Rattle.roc_plan.specs.Groups.{Plan}
use Rattle.roc_whole.specs.Serial as whole
use Rattle.roc_law_log.specs.Scheme.{Scheme}
use Rattle.roc_law_log.specs.Log.{Log}
use Rattle.roc_law_log.specs.Invariants.{LogInvariants}
use Rattle.roc_step.specs.State.{answered, ServerState, ServerStep}
use Rattle.roc_step.specs.Step as server
use Rattle.roc_coord.specs.declared.transaction.Transaction.{Transaction}
use Rattle.roc_coord.specs.declared.transaction.SentStart.{SentStart}
use Rattle.roc_coord.specs.declared.transaction.TakenStart.{TakenStart}
use Rattle.roc_coord.specs.declared.transaction.TakenCommit.{TakenCommit}
use Rattle.roc_coord.specs.State.{find_transaction, with_transaction, find_start, find_startok, was_asked, has_commitok, CoordState}
use Rattle.roc_coord.specs.Starts.{group_numbers, ready_groups, shard_for, start_for, with_starts, starts_of, all_started, commit_to}
use Rattle.roc_coord.specs.Step.{unless_refused, with_commits, with_startok, sends_after, startok_taken, startok_refusal, after_startok, with_commitok, reply_now, commitok_taken, commitok_refusal, after_commitok, after_message, answered_sends, without_transaction}
use Rattle.roc_coord.specs.Submit.{next_id, new_transaction, accepted}
use Rattle.roc_coord.specs.Tick.{awaits_startok, starts_again, commits_again, sent_again}
use Rattle.roc_audit.specs.declared.entry.Entry.{Entry}
use Rattle.roc_audit.specs.declared.entry.Entry.TheVariants.{Submitted}
use Rattle.roc_step.proofs.SameIds.{ids_of}
use Rattle.roc_law_protocol.specs.Aside.{transaction_tick_sends}
use Rattle.roc_law_protocol.specs.declared.event.Event.{Event}
use Rattle.roc_law_protocol.specs.declared.event.Event.TheVariants.{Submit, Deliver, Tick, Stop}
use Rattle.roc_law_protocol.specs.PlanAssumptions.{IsSchemeOf}
use Rattle.roc_law_protocol.specs.Final.{lists_in}
use Rattle.roc_law_protocol.specs.Beginnings.{Beginning, IsBeginning, begun_server, begun_coord}
use Rattle.roc_law_protocol.specs.World.{World, mark_delivered, at_coord, at_server}
use Rattle.roc_law_protocol.specs.Happens.{Outcome, answer_entries, IsReceived, IsSentTo}
use Rattle.roc_law_protocol.specs.Run.{Stepped}
use Rattle.roc_law_protocol.specs.Beside.{Moves, IsRunBeside, beside_begins, beside_goes_on}
use Rattle.roc_law_protocol.specs.Inner.Given.{LogLaws, StoreLaws}
use Rattle.roc_law_protocol.proofs.Means.{TxnMeans}
use Rattle.roc_law_protocol.proofs.Rounds.{told}
use Rattle.roc_law_protocol.proofs.Coordinators.{number_below, ready_group}
use Rattle.roc_law_protocol.proofs.Carried.{message_good, tick_good}
use Rattle.roc_law_protocol.proofs.Served.{StartsAre}
use Rattle.roc_law_protocol.proofs.NoStarts.{no_starts, no_starts_at_tick}
use Rattle.roc_law_protocol.proofs.Networks.{IsNetworked}
use Rattle.roc_law_protocol.proofs.Finals.{run_networked, comes_networked}
use Rattle.roc_law_protocol.proofs.Held.{commits_id, Advances, stays, message_advances, submission_advances, starts_asked, stays_aside}
use Rattle.roc_law_protocol.proofs.Pending.{AskedBy, IsWholeAt, StartsOn, IsPending, starts_here, served_pending, coordinated_pending, lists_later}
use Rattle.roc_law_protocol.proofs.PendingSends.{start_on, commit_lists, commit_starts, start_lists, round_starts, round_lists}
use Rattle.roc_law_protocol.proofs.Firsts.{found_at}
use Rattle.roc_law_protocol.proofs.Submissions.{AreSubmissions, unused}
use Rattle.roc_law_protocol.proofs.AcceptedSubmissions.{Submitting, is_refused, is_accepted, submitting, submissions_from}
use Rattle.roc_law_protocol.proofs.Logged.{comes_logged, Agrees, IsLogged}
use Rattle.roc_law_protocol.proofs.Onward.{agrees_before}
use Rattle.roc_law_protocol.proofs.Witness.{run_logged}
use Rattle.roc_law_protocol.proofs.KeptAside.{kept_aside}
use Rattle.roc_law_protocol.proofs.Marks.{IsMarkOf, mark_sent, mark_told}
use Rattle.roc_coord.specs.Marks.{ended_sends}
use Rattle.roc_audit.specs.History.{WasSubmitted}
use Rattle.roc_step.specs.Restarts.{cut_short}
use Rattle.roc_law_protocol.proofs.Stops.{by_stop}
use Rattle.roc_law_protocol.proofs.Stopping.{take_has, fewer_good}

module _ (plan : Plan) (asked : TxnId → whole.Call) (S : Scheme) (start : Beginning) (is : IsSchemeOf plan asked S) (laws : LogLaws S start.store) where
  module _ (w : World) (log : Log) (l : IsLogged plan asked S start is laws w log) (nw : IsNetworked plan asked S start is laws w) (subs : AreSubmissions plan w.history w.coords) (o : IsPending plan w) where
    i : LogInvariants S start.store log
    i = laws.holds log l.means.reached

    abbrev Result : (n : ℕ) → CoordState → List Outgoing → Type 0
    Result n after outs = (tells : List Entry) → IsPending plan (at_coord w n after outs tells)

    module _ (n : ℕ) (s : CoordState) (there : slice_get w.coords n ≡ Some s) where
      once : (y z : Transaction) → Has y s.pending → Has z s.pending → y.id ≡ z.id → y ≡ z
      once = o.once n s there

      own_after : (after : CoordState) → Advances plan s after → (x : Transaction) → Has x after.pending → x.id.coord ≡ n
      own_after after a x h = elim (a.from x h) [
        | inl k ↦ ap (λ (t : TxnId). t.coord) k.2.id ∙ o.own n s there k.0 k.1
        | inr k ↦ ap (λ (t : TxnId). t.coord) k ∙ subs.numbers n s there
      ]

      -- where nothing is sent
      silent : (after : CoordState) → Advances plan s after → Result n after []
      silent after a tells = coordinated_pending plan asked S start is laws w log l subs o n s there after a [] tells (own_after after a) (λ out h. absurd h) (λ out h. absurd h)

      -- the facts that it took were carried
      taken_facts : (after : CoordState) (a : Advances plan s after) → (x : Transaction) → Has x s.pending → (ok : TakenStart) → Has ok x.startoks → (k : KnownList) → Has k ok.facts → IsWholeAt plan (slice_set w.coords n after) k.of
      taken_facts after a x h ok j k i =
          let t = ((nw.taken n s there x h).startoks ok j).0 in
          lists_later plan asked S start is laws w log l subs o n s there after a t.message t.has k (subst (λ msg. Has k (lists_in msg)) (sym t.is) i)

      startok_pending : (m : Envelope) → Has m w.sent → (id : TxnId) (group : ℕ) (shard : Shard) (bound outs : List ℤ) (edges : List Dependency) (facts : List KnownList) → m.msg ≡ StartOk id group shard bound outs edges facts
          → (x : Option Transaction) → find_transaction id s.pending ≡ x
          → Advances plan s (after_startok plan s id x (record { group = group; bound = bound; outs = outs; edges = edges; facts = facts }) shard).state
          → Result n (after_startok plan s id x (record { group = group; bound = bound; outs = outs; edges = edges; facts = facts }) shard).state (after_startok plan s id x (record { group = group; bound = bound; outs = outs; edges = edges; facts = facts }) shard).sends
      startok_pending m has id group shard bound outs edges facts e None f a = silent s a
      startok_pending m has id group shard bound outs edges facts e (Some x) f a = refused (startok_refusal plan x (record { group = group; bound = bound; outs = outs; edges = edges; facts = facts }) shard) a
        where
          found : Has x s.pending × (is_txn x.id id ≡ true)
          found = found_has (λ (x : Transaction). is_txn x.id id) s.pending x f

          refused : (r : Option Reason) → Advances plan s (unless_refused s r (startok_taken plan s (with_startok x (record { group = group; bound = bound; outs = outs; edges = edges; facts = facts })))).state
              → Result n (unless_refused s r (startok_taken plan s (with_startok x (record { group = group; bound = bound; outs = outs; edges = edges; facts = facts })))).state (unless_refused s r (startok_taken plan s (with_startok x (record { group = group; bound = bound; outs = outs; edges = edges; facts = facts })))).sends
          refused (Some why) a tells = silent s a tells
          refused None a tells =
              let ok : TakenStart = record { group = group; bound = bound; outs = outs; edges = edges; facts = facts } in
              let z = with_startok x ok in
              let y = with_commits plan (with_starts plan z) in
              let after = with_transaction s y in
              let own = o.own n s there x found.0 in
              let kept : Has y after.pending = here z x found.0 (commits_id plan (with_starts plan z)) in
              let told_facts : (b : TakenStart) → Has b z.startoks → (k : KnownList) → Has k b.facts → IsWholeAt plan (slice_set w.coords n after) k.of =
              λ b h k j. elim (has_append b x.startoks (ok ∷ []) h) [
                | inl p ↦ taken_facts after a x found.0 b p k j
                | inr p ↦ lists_later plan asked S start is laws w log l subs o n s there after a m has k (subst (λ msg. Has k (lists_in msg)) (sym e) (subst (λ (b : TakenStart). Has k b.facts) (has_one b ok p) j))
              ] in
              coordinated_pending plan asked S start is laws w log l subs o n s there after a (sends_after plan z) tells (own_after after a)
              (round_starts plan w.coords n s after there a.once z kept own told_facts)
              (round_lists plan w.coords n s after there a.once z kept own told_facts)
            where
              here : (z x : Transaction) → Has x s.pending → (with_commits plan (with_starts plan (with_startok x (record { group = group; bound = bound; outs = outs; edges = edges; facts = facts })))).id ≡ x.id → Has (with_commits plan (with_starts plan (with_startok x (record { group = group; bound = bound; outs = outs; edges = edges; facts = facts })))) (with_transaction s (with_commits plan (with_starts plan (with_startok x (record { group = group; bound = bound; outs = outs; edges = edges; facts = facts }))))).pending
              here z x h same =
                  let y = with_commits plan (with_starts plan (with_startok x (record { group = group; bound = bound; outs = outs; edges = edges; facts = facts }))) in
                  subst (λ b. Has b (map (λ (v : Transaction). if is_txn v.id y.id then y else v) s.pending)) (cond-true (is_txn x.id y.id) y x (is_txn-eq x.id y.id (sym same)))
                  (has_map (λ (v : Transaction). if is_txn v.id y.id then y else v) x s.pending h)

      mark_on : (coords : List CoordState) {after : CoordState} (out : Outgoing) → IsMarkOf plan after out → StartsOn coords out.msg out.to
      mark_on coords out q = subst (λ (out : Outgoing). StartsOn coords out.msg out.to) (sym q.is) tt

      mark_lists : {after : CoordState} (out : Outgoing) → IsMarkOf plan after out → (k : KnownList) → Has k (lists_in out.msg) → ⊥
      mark_lists out q k h = subst (λ (out : Outgoing). Has k (lists_in out.msg)) q.is h

      commitok_pending : (ok : TakenCommit) (id : TxnId) (x : Option Transaction) → Advances plan s (after_commitok plan s id x ok).state → Result n (after_commitok plan s id x ok).state (after_commitok plan s id x ok).sends
      commitok_pending ok id None a = silent s a
      commitok_pending ok id (Some x) a = refused (commitok_refusal plan x ok) (reply_now plan (with_commitok x ok)) a
        where
          refused : (r : Option Reason) (reply : Option (List ℤ)) → Advances plan s (unless_refused s r (commitok_taken plan s (with_commitok x ok) reply)).state
              → Result n (unless_refused s r (commitok_taken plan s (with_commitok x ok) reply)).state (unless_refused s r (commitok_taken plan s (with_commitok x ok) reply)).sends
          refused (Some why) reply a = silent s a
          refused None None a = silent (commitok_taken plan s (with_commitok x ok) None).state a
          refused None (Some reply) a = λ tells.
              let after = without_transaction s x.id in
              coordinated_pending plan asked S start is laws w log l subs o n s there after a (answered_sends plan s after) tells (own_after after a)
              (λ out h. mark_on (slice_set w.coords n after) out (mark_told plan s after out h)) (λ out h k j. absurd (mark_lists out (mark_told plan s after out h) k j))

      message_pending : (m : Envelope) → Has m w.sent → (msg : Msg) → m.msg ≡ msg → Advances plan s (after_message plan s msg).state → Result n (after_message plan s msg).state (after_message plan s msg).sends
      message_pending m has (StartOk id group shard bound outs edges facts) e a = startok_pending m has id group shard bound outs edges facts e (find_transaction id s.pending) refl a
      message_pending m has (CommitOk id shard outs) e a = commitok_pending (record { shard = shard; outs = outs }) id (find_transaction id s.pending) a
      message_pending m has (ReadOk id round group shard versions outs) e a = absurd (subst (StartsAre (WasSubmitted w.history)) e (l.starts m has))
      message_pending m has msg e a = silent s a

      -- ---- aside

      aside_pending : (after : CoordState) → after.pending ≡ s.pending → (outs : List Outgoing) → ((out : Outgoing) → Has out outs → IsMarkOf plan after out) → Result n after outs
      aside_pending after e outs marks tells =
          let a = stays_aside plan s once after e in
          coordinated_pending plan asked S start is laws w log l subs o n s there after a outs tells (own_after after a)
          (λ out h. mark_on (slice_set w.coords n after) out (marks out h)) (λ out h k j. absurd (mark_lists out (marks out h) k j))

      -- ---- a tick

      tick_pending : Result n s (transaction_tick_sends plan s)
      tick_pending tells =
          let a = stays plan s once in
          coordinated_pending plan asked S start is laws w log l subs o n s there s a (transaction_tick_sends plan s) tells (own_after s a)
          (λ out h. elim (has_append out (flat_map (sent_again plan) s.pending) (ended_sends plan s) h) [
            | inl k ↦ (let q = from_has_flat_map (sent_again plan) out s.pending k in again_starts a q.0 q.1 out (all_started plan q.0) q.2)
            | inr k ↦ mark_on (slice_set w.coords n s) out (mark_sent plan s out k)
          ])
          (λ out h k j. elim (has_append out (flat_map (sent_again plan) s.pending) (ended_sends plan s) h) [
            | inl m ↦ (let q = from_has_flat_map (sent_again plan) out s.pending m in again_lists a q.0 q.1 out (all_started plan q.0) refl q.2 k j)
            | inr m ↦ absurd (mark_lists out (mark_sent plan s out m) k j)
          ])
        where
          again_starts : Advances plan s s → (x : Transaction) → Has x s.pending → (out : Outgoing) → (b : Bool) → Has out (if b then commits_again x else starts_again plan x) → StartsOn (slice_set w.coords n s) out.msg out.to
          again_starts a x h out true k = commit_starts plan w.coords n s s there once x (filter (λ (shard : Shard). not (has_commitok shard x.commitoks)) x.asked) out k
          again_starts a x h out false k =
              let q = from_has_map (start_for plan x) out (filter (awaits_startok x) (group_numbers plan x.proc)) k in
              let f = from_has_filter (awaits_startok x) q.0 (group_numbers plan x.proc) q.1 in
              subst (λ (out : Outgoing). StartsOn (slice_set w.coords n s) out.msg out.to) (sym q.2)
              (start_on plan w.coords n s s there once x x q.0 h refl (o.own n s there x h) (was x q.0 f.0 (find_start q.0 x.starts) refl (and_parts (is_some (find_start q.0 x.starts)) (is_none (find_startok q.0 x.startoks)) f.1).0 ((l.means.coords n s there).pending x h)))
            where
              was : (x : Transaction) (g : ℕ) → Has g (group_numbers plan x.proc) → (z : Option SentStart) → find_start g x.starts ≡ z → is_some z ≡ true → TxnMeans plan asked S start log x → was_asked x g (shard_for plan x g) ≡ true
              was x g number None e k m = absurd (false≢true k)
              was x g number (Some z) e k m =
                  let f = found_has (λ (z : SentStart). z.group == g) x.starts z e in
                  let asked_z : was_asked x g z.shard ≡ true = has_any (λ (y : SentStart). y.group == g && y.shard.0 == z.shard.0) x.starts z f.0 (and_from (z.group == g) (z.shard.0 == z.shard.0) f.1 (eq-eqb z.shard.0 z.shard.0 refl)) in
                  let r = ready_group plan asked S start is log i x (told plan asked S start is log i x m) g (number_below plan asked S start is log i x (told plan asked S start is log i x m) g number) (m.ready g z.shard asked_z) in
                  let same : z.shard.0 ≡ (shard_for plan x g).0 = sym (m.starts g z.shard asked_z).on ∙ r.means.on in
                  subst (λ n. was_asked x g (record { 0 = n }) ≡ true) same asked_z

          again_lists : Advances plan s s → (x : Transaction) → Has x s.pending → (out : Outgoing) → (b : Bool) → all_started plan x ≡ b → Has out (if b then commits_again x else starts_again plan x) → (k : KnownList) → Has k (lists_in out.msg) → IsWholeAt plan (slice_set w.coords n s) k.of
          again_lists a x h out false e k = start_lists plan w.coords n s s there once x (filter (awaits_startok x) (group_numbers plan x.proc)) out k
          again_lists a x h out true e k =
              let m = (l.means.coords n s there).pending x h in
              let q = from_has_map (commit_to x) out (filter (λ (shard : Shard). not (has_commitok shard x.commitoks)) x.asked) k in
              let g = (from_has_filter (λ (shard : Shard). not (has_commitok shard x.commitoks)) q.0 x.asked q.1).0 in
              commit_lists plan w.coords n s s there once x x h refl (o.own n s there x h) (m.asked_whole q.0 g) (taken_facts s a x h) (filter (λ (shard : Shard). not (has_commitok shard x.commitoks)) x.asked) out k

      -- ---- a submission

      submission_pending : (proc : ℕ) (args : List ℤ) → Result n (accepted plan s (new_transaction s proc args)).state (accepted plan s (new_transaction s proc args)).sends
      submission_pending proc args tells =
          let x = new_transaction s proc args in
          let y = with_starts plan x in
          let after = (accepted plan s x).state in
          let fresh : (z : Transaction) → Has z s.pending → z.id ≢ next_id s = λ z h e. (let q = l.pending n s there z h in unused plan w.history w.coords subs n s there q.0 q.1 (subst (λ t. Has (Submitted t q.0 q.1) w.history) e q.2)) in
          let a = submission_advances plan s once proc args fresh in
          let kept : Has y after.pending = has_right y s.pending (y ∷ []) (inl refl) in
          coordinated_pending plan asked S start is laws w log l subs o n s there after a (starts_of plan x) tells (own_after after a)
          (λ out h. let q = from_has_map (start_for plan x) out (ready_groups plan x) h in subst (λ (out : Outgoing). StartsOn (slice_set w.coords n after) out.msg out.to) (sym q.2) (start_on plan w.coords n s after there a.once x y q.0 kept refl (subs.numbers n s there) (starts_asked plan x q.0 q.1)))
          (start_lists plan w.coords n s after there a.once x (ready_groups plan x))

  -- ---- worlds

  step_pending : (w : World) (log : Log) → IsLogged plan asked S start is laws w log → IsNetworked plan asked S start is laws w → AreSubmissions plan w.history w.coords → IsPending plan w → (e : Option Event) (v : Outcome) → Moves plan w e v → IsPending plan v.world
  step_pending w log l nw subs o None v (inl h) = subst (λ (v : Outcome). IsPending plan v.world) (sym h) o
  step_pending w log l nw subs o None v (inr x) =
      let k = kept_aside plan x.before x.after x.sends x.does in
      subst (λ (v : Outcome). IsPending plan v.world) (sym x.is) (aside_pending w log l nw subs o x.number x.before x.there x.after k.pending x.sends k.marks [])
  step_pending w log l nw subs o (Some (Submit n proc args)) v (s, there, h) = go (submitting plan w n proc args s v h)
    where
      go : Submitting plan w n proc args s v → IsPending plan v.world
      go (is_refused e) = subst (IsPending plan) (sym e) o
      go (is_accepted known counted e) = subst (IsPending plan) (sym e) (submission_pending w log l nw subs o n s there proc args (Submitted (next_id s) proc args ∷ []))
  step_pending w log l nw subs o (Some (Deliver k)) v (m, some, there, h) = go m.to (o.starts m (has_at w.sent (k - 1) m there)) h
    where
      p : IsPending plan (mark_delivered w k)
      p = record { own = o.own; once = o.once; starts = o.starts; lists = o.lists; servers = o.servers }

      go : (to : Node) → StartsOn w.coords m.msg to → IsReceived plan (mark_delivered w k) m.msg to v → IsPending plan v.world
      go (Server shard) f (s, r, at, step, e) = subst (λ (v : Outcome). IsPending plan v.world) (sym e)
          (served_pending plan (mark_delivered w k) p shard.0 s at r
          (message_good plan (λ t es. IsWholeAt plan w.coords t) (λ t g. AskedBy w.coords t g shard.0) s (o.servers shard.0 s at) m.msg r step (o.lists m (has_at w.sent (k - 1) m there)) (starts_here w.coords m.msg shard.0 f))
          (subst (λ (r : ServerStep). (out : Outgoing) → Has out r.sends → StartsAre (λ t. ⊥) out.msg) (sym step.is) (no_starts plan s (λ t. ⊥) step.findings m.msg)))
      go (Coord n) f (s, at, e) = subst (λ (v : Outcome). IsPending plan v.world) (sym e)
          (message_pending (mark_delivered w k) log (comes_logged plan asked S start is laws w log l k) (comes_networked plan asked S start is laws w log l nw k) subs p n s at m (has_at w.sent (k - 1) m there) m.msg refl (message_advances plan s (o.once n s at) m.msg) (answer_entries (after_message plan s m.msg).answer))
  step_pending w log l nw subs o (Some (Tick (Server shard))) v (s, there, e) = subst (λ (v : Outcome). IsPending plan v.world) (sym e)
      (served_pending plan w o shard.0 s there (answered s (server.tick_sends s)) (tick_good plan (λ t es. IsWholeAt plan w.coords t) (λ t g. AskedBy w.coords t g shard.0) s (o.servers shard.0 s there)) (no_starts_at_tick plan s (λ t. ⊥)))
  step_pending w log l nw subs o (Some (Tick (Coord n))) v (s, there, e) = subst (λ (v : Outcome). IsPending plan v.world) (sym e) (tick_pending w log l nw subs o n s there [])
  step_pending w log l nw subs o (Some (Stop shard during)) v x = by_stop plan w shard.0 (IsPending plan) o (λ k m sent. come k) cut again during v x
    where
      come : (k : ℕ) → IsPending plan (mark_delivered w k)
      come k = record { own = o.own; once = o.once; starts = o.starts; lists = o.lists; servers = o.servers }

      cut : (k many : ℕ) (m : Envelope) (s : ServerState) (r : ServerStep) → IsSentTo w.sent k shard.0 m → slice_get w.servers shard.0 ≡ Some s → server.Handles plan s m.msg r → IsPending plan (at_server (mark_delivered w k) shard.0 (cut_short many r))
      cut k many m s r sent at step =
          let has = has_at w.sent (k - 1) m sent.there in
          let f = subst (StartsOn w.coords m.msg) sent.to (o.starts m has) in
          served_pending plan (mark_delivered w k) (come k) shard.0 s at (cut_short many r)
          (fewer_good plan (λ t es. IsWholeAt plan w.coords t) (λ t g. AskedBy w.coords t g shard.0) s r _ (take_has many r.sends)
          (message_good plan (λ t es. IsWholeAt plan w.coords t) (λ t g. AskedBy w.coords t g shard.0) s (o.servers shard.0 s at) m.msg r step (o.lists m has) (starts_here w.coords m.msg shard.0 f)))
          (λ out h. subst (λ (r : ServerStep). (out : Outgoing) → Has out r.sends → StartsAre (λ t. ⊥) out.msg) (sym step.is) (no_starts plan s (λ t. ⊥) step.findings m.msg) out (take_has many r.sends out h))

      again : (v : World) (s : ServerState) → IsPending plan v → slice_get v.servers shard.0 ≡ Some s → IsPending plan (at_server v shard.0 (answered s (server.tick_sends s)))
      again v s p there = served_pending plan v p shard.0 s there (answered s (server.tick_sends s)) (tick_good plan (λ t es. IsWholeAt plan v.coords t) (λ t g. AskedBy v.coords t g shard.0) s (p.servers shard.0 s there)) (no_starts_at_tick plan s (λ t. ⊥))

  module _ (stores : StoreLaws) (begins : IsBeginning plan start) where
    pub run_pending : (coords : ℕ) (steps : List Stepped) (w : World) → IsRunBeside plan start coords steps w → Agrees asked w → IsPending plan w
    run_pending coords steps w beside_begins fits =
        record {
          own = λ n c e x h. elim (subst (λ (c : CoordState). Has x c.pending) (found_at (begun_coord start) 0 coords n c e) h) [ ];
          once = λ n c e y z h. elim (subst (λ (c : CoordState). Has y c.pending) (found_at (begun_coord start) 0 coords n c e) h) [ ];
          starts = λ m h. absurd h;
          lists = λ m h. absurd h;
          servers = λ n s h. (let e = found_at (begun_server start) 0 plan.program.shards n s h in
              record {
                groups = λ b j. elim (subst (λ (s : ServerState). Has b s.started) e j) [ ];
                known = λ k j. elim (subst (λ (s : ServerState). Has k s.lists.known) e j) [ ];
                facts = λ b j. elim (subst (λ (s : ServerState). Has b s.started) e j) [ ];
                same = subst (λ (s : ServerState). ids_of s.lists.links ≡ ids_of s.lists.known) (sym e) refl;
              });
        }
    run_pending coords steps w (beside_goes_on {w = v} e o r h) fits =
        let g = agrees_before plan v (submissions_from plan start coords _ v r) asked e o h fits in
        let lg = run_logged plan asked S start is laws stores begins coords _ v r g in
        step_pending v lg.0 lg.1 (run_networked plan asked S start is laws stores begins coords _ v r g) (submissions_from plan start coords _ v r) (run_pending coords _ v r g) e o h
