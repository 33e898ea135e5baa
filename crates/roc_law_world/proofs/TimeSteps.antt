-- What each step adds to history, order and looks
use Rattle.std.proofs.Common.{◌≡◌, ◌≢◌, ◌∙◌, inl, inr, ℕ, ℤ, ◌≤◌, Bool, true, false, cond, List, [], ◌∷◌, ◌++◌, Option, Some, None, length, refl, sym, ap, subst, arith, append-nil, append_assoc}
use Rattle.std.proofs.lemmas.Bool.{false≢true}
use Rattle.std.specs.Prelude.{slice_get, if◌then◌else◌}
use Rattle.std.specs.List.{cons_option, filter_map}
use Rattle.roc_sequence.specs.Lists.{Has}
use Rattle.roc_sequence.specs.Places.{is_listed}
use Rattle.roc_sequence.proofs.Found.{found_has}
use Rattle.roc_sequence.proofs.Members.{has_one, has_right, from_has_map}
use Rattle.roc_base.specs.declared.id.TxnId.{TxnId}
use Rattle.roc_base.specs.TxnId.{is_txn}
use Rattle.roc_base.specs.declared.node.Node.{Node}
use Rattle.roc_base.specs.declared.node.Node.TheVariants.{Server, Coord}
use Rattle.roc_base.specs.declared.node.Shard.{Shard}
use Rattle.roc_msg.specs.declared.msg.Msg.{Msg}
use Rattle.roc_msg.specs.declared.msg.Msg.TheVariants.{Read, ReadOk, StartOk, CommitOk}
use Rattle.roc_msg.specs.declared.outbox.Outgoing.{Outgoing}
use Rattle.roc_msg.specs.declared.reason.Reason.{Reason}
use Rattle.roc_plan.specs.Groups.{Plan, is_view_of}
use Rattle.roc_readonly.specs.declared.view.Round.{Round}
use Rattle.roc_readonly.specs.declared.view.Round.TheVariants.{Waits, Ends, GoesOn}
use Rattle.roc_readonly.specs.declared.view.TakenRead.{TakenRead}
use Rattle.roc_readonly.specs.declared.view.View.{View}
use Rattle.roc_readonly.specs.Round.{view_groups, read_for, reads_of, with_readok, next_round, round_of, readok_refusal, first_round}
use Rattle.roc_coord.specs.declared.handled.Handled.{Handled}
use Rattle.roc_coord.specs.declared.handled.Handled.TheVariants as coord_answer
use Rattle.roc_coord.specs.declared.handled.SubmitFault.{SubmitFault}
use Rattle.roc_coord.specs.declared.handled.SubmitFault.TheVariants.{NoProc, Args, Spent, Busy, NoMemory}
use Rattle.roc_coord.specs.declared.transaction.Transaction.{Transaction}
use Rattle.roc_coord.specs.Marks.{passes_mark, ended_sends}
use Rattle.roc_coord.specs.Starts.{ready_groups, start_for, starts_of}
use Rattle.roc_coord.specs.State.{find_view, CoordState}
use Rattle.roc_coord.specs.Step.{unless_refused, without_view, answered_sends, readok_taken, after_readok, after_message}
use Rattle.roc_coord.specs.Submit.{next_id, new_transaction, accepted, accepted_view, refusal_of, refused_or_accepted}
use Rattle.roc_audit.specs.declared.entry.Entry.{Entry}
use Rattle.roc_audit.specs.declared.entry.Entry.TheVariants.{Submitted, Answered}
use Rattle.roc_audit.specs.History.{WasSubmitted, WasAnswered}
use Rattle.roc_audit.specs.Order.{noted, noted_one}
use Rattle.roc_audit.specs.Woven.{Look}
use Rattle.roc_audit.proofs.Histories.{submitted_front}
use Rattle.roc_law_protocol.specs.declared.event.Event.{Event}
use Rattle.roc_law_protocol.specs.declared.event.Event.TheVariants.{Submit, Deliver, Tick, Stop}
use Rattle.roc_law_protocol.specs.Happens.{answer_entries}
use Rattle.roc_law_world.specs.World.{World, reads_for, first_look, looks_in, mark_delivered}
use Rattle.roc_law_world.specs.Happens.{Outcome, IsSubmissionOf, IsReceived}
use Rattle.roc_law_world.specs.Run.{Transition}
use Rattle.roc_law_world.specs.Beside.{is_of_view, TellsViews}
use Rattle.roc_law_world.proofs.Coordinators.{IsCoordSound}
use Rattle.roc_law_world.proofs.CoordSteps.{for_transactions}
use Rattle.roc_law_world.proofs.TickSends.{are_endeds}
use Rattle.roc_law_world.proofs.InTime.{AddsInTime}
use Rattle.roc_law_world.proofs.Stops.{stop_keeps, by_losing}

-- what coordinators keep says of the history
pub record IsKeptInTime (is_view : TxnId → Bool) (w : World) : Type 0 where
  -- a view that is kept was submitted, and was not answered
  pub views :
      (n : ℕ) (c : CoordState) → slice_get w.coords n ≡ Some c → (v : View) → Has v c.views
      → (is_view v.id ≡ true) × WasSubmitted w.history v.id × ((reply : List ℤ) → ¬ WasAnswered w.history v.id reply)
  -- the next id is new
  pub next : (n : ℕ) (c : CoordState) → slice_get w.coords n ≡ Some c → ¬ WasSubmitted w.history (next_id c)
  -- who was answered was submitted
  pub told : (t : TxnId) (reply : List ℤ) → WasAnswered w.history t reply → WasSubmitted w.history t

-- ---- orders and looks

pub noted_grows : (order ts : List TxnId) → (rest : List TxnId) × (noted order ts ≡ order ++ rest)
noted_grows order [] = ([], sym (append-nil order))
noted_grows order (t ∷ ts) =
    let one : List TxnId = if is_listed is_txn order t then [] else t ∷ [] in
    let r = noted_grows (noted_one order t) ts in
    (one ++ r.0, r.1 ∙ append_assoc order one r.0)

read_among : (outs : List Outgoing) (id : TxnId) → Has id (filter_map (λ out. reads_for out.msg) outs) → (out : Outgoing) × Has out outs × (reads_for out.msg ≡ Some id)
read_among [] id h = absurd h
read_among (out ∷ outs) id h = go (reads_for out.msg) refl h (read_among outs id)
  where
    go : (r : Option TxnId) → reads_for out.msg ≡ r → Has id (cons_option r (filter_map (λ out. reads_for out.msg) outs))
        → (Has id (filter_map (λ out. reads_for out.msg) outs) → (x : Outgoing) × Has x outs × (reads_for x.msg ≡ Some id))
        → (x : Outgoing) × Has x (out ∷ outs) × (reads_for x.msg ≡ Some id)
    go None e k ih = let r = ih k in (r.0, inr r.1, r.2)
    go (Some x) e (inl f) ih = (out, inl refl, e ∙ ap Some (sym f))
    go (Some x) e (inr k) ih = let r = ih k in (r.0, inr r.1, r.2)

-- a look is that of the view of a read
look_from : (behind : ℕ) (outs : List Outgoing) (l : Look) → Has l (looks_in behind outs) → (l.behind ≡ behind) × ((out : Outgoing) × Has out outs × (reads_for out.msg ≡ Some l.id))
look_from behind outs l h = let r = first (filter_map (λ out. reads_for out.msg) outs) h in (r.0, read_among outs l.id r.1)
  where
    first : (ids : List TxnId) → Has l (first_look behind ids) → (l.behind ≡ behind) × Has l.id ids
    first [] k = absurd k
    first (id ∷ ids) k =
        let is : l ≡ record { id = id; behind = behind } = has_one l (record { id = id; behind = behind }) k in
        (ap (λ (l : Look). l.behind) is, inl (ap (λ (l : Look). l.id) is))

-- a message of transactions reads for none
no_read : (msg : Msg) (id : TxnId) → is_of_view msg ≡ false → reads_for msg ≢ Some id
no_read (Read x round proc group args) id v e = false≢true (sym v)
no_read msg id v e = cc

-- ---- what is told

few_told : (a : Handled) → length (answer_entries a) ≤ 1
few_told (coord_answer.Answered id reply) = omega arith
few_told coord_answer.Done = omega arith
few_told (coord_answer.Ignored reason) = omega arith

no_submission : (a : Handled) (t : TxnId) → ¬ WasSubmitted (answer_entries a) t
no_submission (coord_answer.Answered id reply) t s = elim s.2 [ inl e ↦ apart e | inr z ↦ z ]
  where
    apart : Submitted t s.0 s.1 ≢ Answered id reply
    apart e = cc
no_submission coord_answer.Done t s = s.2
no_submission (coord_answer.Ignored reason) t s = s.2

only_submitted : (t x : TxnId) (proc : ℕ) (args : List ℤ) → WasSubmitted (Submitted x proc args ∷ []) t → t ≡ x
only_submitted t x proc args (p, a, h) = elim h [ inl e ↦ same e | inr z ↦ absurd z ]
  where
    same : Submitted t p a ≡ Submitted x proc args → t ≡ x
    same e = cc

module _ (plan : Plan) (is_view : TxnId → Bool) (w : World) (kept : IsKeptInTime is_view w) where
  -- nothing is told, and nobody looks
  quiet : (u : World) → u.history ≡ w.history → u.looks ≡ w.looks → (rest : List TxnId) → u.order ≡ w.order ++ rest → AddsInTime is_view w u
  quiet u h l rest o =
      record {
        told = [];
        history = h ∙ sym (append-nil w.history);
        one = omega arith;
        new = λ t s. absurd s.2;
        ts = rest;
        order = o;
        more = [];
        looks = l ∙ sym (append-nil w.looks);
        behind = λ l j. absurd j;
        view = λ l j. absurd j;
        unanswered = λ l j. absurd j;
      }

  -- what is sent is read for unanswered views
  abbrev Reads : List Entry → List Outgoing → Type 0
  Reads told outs =
      (out : Outgoing) → Has out outs → (id : TxnId) → reads_for out.msg ≡ Some id
      → (is_view id ≡ true) × WasSubmitted (w.history ++ told) id × ((reply : List ℤ) → ¬ WasAnswered w.history id reply)

  -- a coordinator takes a step
  coord_adds : (u : World) (told : List Entry) (outs : List Outgoing) → u.history ≡ w.history ++ told → u.looks ≡ w.looks ++ looks_in (length w.order) outs → u.order ≡ w.order
      → length told ≤ 1 → ((t : TxnId) → WasSubmitted told t → ¬ WasSubmitted w.history t) → Reads told outs → AddsInTime is_view w u
  coord_adds u told outs h l o one new reads =
      record {
        told = told;
        history = h;
        one = one;
        new = new;
        ts = [];
        order = o ∙ sym (append-nil w.order);
        more = looks_in (length w.order) outs;
        looks = l;
        behind = λ l j. (look_from (length w.order) outs l j).0;
        view = λ l j. let f = (look_from (length w.order) outs l j).1 in let r = reads f.0 f.1 l.id f.2 in (r.0, subst (λ H. WasSubmitted H l.id) (sym h) r.1);
        unanswered = λ l j. let f = (look_from (length w.order) outs l j).1 in (reads f.0 f.1 l.id f.2).2;
      }

  module _ (n : ℕ) (s : CoordState) (there : slice_get w.coords n ≡ Some s) where
    -- ---- a message

    -- reads of a round are for its view
    round_reads : (v : View) (out : Outgoing) → Has out (reads_of plan v) → (id : TxnId) → reads_for out.msg ≡ Some id → v.id ≡ id
    round_reads v out h id e = same v.id id (sym (ap (λ (o : Outgoing). reads_for o.msg) (from_has_map (read_for plan v) out (view_groups plan v) h).2) ∙ e)
      where
        same : (a b : TxnId) → Some a ≡ Some b → a ≡ b
        same a b e = cc

    -- what is sent is of a view that is kept
    abbrev ForKept : List Outgoing → Type 0
    ForKept outs = (out : Outgoing) → Has out outs → (id : TxnId) → reads_for out.msg ≡ Some id → (v : View) × Has v s.views × (v.id ≡ id)

    marks_for : (t : CoordState) → ForKept (answered_sends plan s t)
    marks_for t out h id e = go (passes_mark s t) h
      where
        go : (b : Bool) → Has out (cond b (ended_sends plan t) []) → (v : View) × Has v s.views × (v.id ≡ id)
        go true k = absurd (no_read out.msg id (are_endeds plan t out k) e)
        go false k = absurd k

    taken_for : (v taken : View) → Has v s.views → taken.id ≡ v.id → (b : Round) → ForKept (readok_taken plan s taken b).sends
    taken_for v taken has same Waits out h id e = absurd h
    taken_for v taken has same (Ends reply) out h id e = marks_for (without_view s taken.id) out h id e
    taken_for v taken has same GoesOn out h id e = (v, has, sym same ∙ round_reads (next_round taken) out h id e)

    readok_for : (id : TxnId) (x : Option View) → find_view id s.views ≡ x → (round : ℕ) (ok : TakenRead) (shard : Shard) → ForKept (after_readok plan s id x round ok shard).sends
    readok_for id None f round ok shard out h i e = absurd h
    readok_for id (Some v) f round ok shard out h i e = go (readok_refusal plan v round ok shard) h
      where
        go : (r : Option Reason) → Has out (unless_refused s r (readok_taken plan s (with_readok v ok) (round_of plan (with_readok v ok)))).sends → (v : View) × Has v s.views × (v.id ≡ i)
        go (Some reason) k = absurd k
        go None k = taken_for v (with_readok v ok) (found_has (λ (y : View). is_txn y.id id) s.views v f).0 refl (round_of plan (with_readok v ok)) out k i e

    message_for : IsCoordSound is_view s → (msg : Msg) (b : Bool) → is_of_view msg ≡ b → ForKept (after_message plan s msg).sends
    message_for own msg false b out h id e = absurd (no_read out.msg id ((for_transactions plan is_view s own msg b).sends out h) e)
    message_for own (ReadOk id round group shard vs outs) true b out h i e =
        readok_for id (find_view id s.views) refl round (record { group = group; versions = vs; outs = outs }) shard out h i e
    message_for own (StartOk id group shard bound outs edges facts) true b out h i e = absurd (false≢true b)
    message_for own (CommitOk id shard outs) true b out h i e = absurd (false≢true b)
    message_for own msg true b out h i e = absurd h

    message_reads : IsCoordSound is_view s → (msg : Msg) → Reads (answer_entries (after_message plan s msg).answer) (after_message plan s msg).sends
    message_reads own msg out h id e =
        let told = answer_entries (after_message plan s msg).answer in
        let f = message_for own msg (is_of_view msg) refl out h id e in
        let r = kept.views n s there f.0 f.1 in
        subst (λ id. (is_view id ≡ true) × WasSubmitted (w.history ++ told) id × ((reply : List ℤ) → ¬ WasAnswered w.history id reply)) f.2
        (r.0, submitted_front w.history told f.0.id r.1, r.2)

    -- ---- a submission

    starts_none : (x : Transaction) (told : List Entry) → Reads told (starts_of plan x)
    starts_none x told out h id e =
        let q = from_has_map (start_for plan x) out (ready_groups plan x) h in
        absurd (no_read out.msg id (ap (λ (o : Outgoing). is_of_view o.msg) q.2) e)

    first_reads : (proc : ℕ) (args : List ℤ) → is_view (next_id s) ≡ true → Reads (Submitted (next_id s) proc args ∷ []) (reads_of plan (first_round (next_id s) proc args))
    first_reads proc args viewed out h id e =
        subst (λ id. (is_view id ≡ true) × WasSubmitted (w.history ++ Submitted (next_id s) proc args ∷ []) id × ((reply : List ℤ) → ¬ WasAnswered w.history id reply))
        (round_reads (first_round (next_id s) proc args) out h id e)
        (viewed, (proc, args, has_right (Submitted (next_id s) proc args) w.history (Submitted (next_id s) proc args ∷ []) (inl refl)), λ reply a. kept.next n s there (kept.told (next_id s) reply a))

    is_new : (proc : ℕ) (args : List ℤ) (t : TxnId) → WasSubmitted (Submitted (next_id s) proc args ∷ []) t → ¬ WasSubmitted w.history t
    is_new proc args t h = subst (λ t. ¬ WasSubmitted w.history t) (sym (only_submitted t (next_id s) proc args h)) (kept.next n s there)

    submits : (proc : ℕ) (args : List ℤ) (o : Outcome) → TellsViews plan is_view o.world.history → IsSubmissionOf w n proc args (refused_or_accepted plan s proc args (refusal_of plan s proc args)) o → AddsInTime is_view w o.world
    submits proc args o tells h = go (refusal_of plan s proc args) h
      where
        same : (x : Outcome) → x.world ≡ w → o ≡ x → AddsInTime is_view w o.world
        same x e f = subst (λ u. AddsInTime is_view w u) (sym (ap (λ (o : Outcome). o.world) f ∙ e)) (quiet w refl refl [] (sym (append-nil w.order)))

        taken : (b : Bool) → is_view_of plan proc ≡ b
            → IsSubmissionOf w n proc args (if b then accepted_view plan s (first_round (next_id s) proc args) else accepted plan s (new_transaction s proc args)) o → AddsInTime is_view w o.world
        taken true e f =
            let viewed = subst (λ (o : Outcome). TellsViews plan is_view o.world.history) f tells (next_id s) proc args
            (has_right (Submitted (next_id s) proc args) w.history (Submitted (next_id s) proc args ∷ []) (inl refl)) ∙ e in
            subst (λ (o : Outcome). AddsInTime is_view w o.world) (sym f)
            (coord_adds _ (Submitted (next_id s) proc args ∷ []) (reads_of plan (first_round (next_id s) proc args)) refl refl refl (omega arith) (is_new proc args) (first_reads proc args viewed))
        taken false e f =
            subst (λ (o : Outcome). AddsInTime is_view w o.world) (sym f)
            (coord_adds _ (Submitted (next_id s) proc args ∷ []) (starts_of plan (new_transaction s proc args)) refl refl refl (omega arith) (is_new proc args)
            (starts_none (new_transaction s proc args) (Submitted (next_id s) proc args ∷ [])))

        go : (x : Option SubmitFault) → IsSubmissionOf w n proc args (refused_or_accepted plan s proc args x) o → AddsInTime is_view w o.world
        go (Some Spent) f = same _ refl f
        go (Some Busy) f = same _ refl f
        go (Some NoProc) f = absurd f
        go (Some Args) f = absurd f
        go (Some NoMemory) f = absurd f
        go None f = taken (is_view_of plan proc) refl f

  -- ---- any step

  pub adds_in_time : ((n : ℕ) (s : CoordState) → slice_get w.coords n ≡ Some s → IsCoordSound is_view s) → (e : Option Event) (o : Outcome) → Transition plan w e o
      → TellsViews plan is_view o.world.history → AddsInTime is_view w o.world
  adds_in_time sounds None o h tells = subst (λ (o : Outcome). AddsInTime is_view w o.world) (sym h) (quiet w refl refl [] (sym (append-nil w.order)))
  adds_in_time sounds (Some (Submit n proc args)) o h tells = submits n h.0 h.1 proc args o tells h.2
  adds_in_time sounds (Some (Deliver k)) o h tells = go h.0.to h.3
    where
      go : (to : Node) → IsReceived plan (mark_delivered w k) h.0.msg to o → AddsInTime is_view w o.world
      go (Server shard) x =
          let g = noted_grows w.order x.step.decided in
          subst (λ (o : Outcome). AddsInTime is_view w o.world) (sym x.is) (quiet _ refl refl g.0 g.1)
      go (Coord n) x =
          subst (λ (o : Outcome). AddsInTime is_view w o.world) (sym x.2)
          (coord_adds _ (answer_entries (after_message plan x.0 h.0.msg).answer) (after_message plan x.0 h.0.msg).sends refl refl refl
          (few_told (after_message plan x.0 h.0.msg).answer)
          (λ t s. absurd (no_submission (after_message plan x.0 h.0.msg).answer t s)) (message_reads n x.0 x.1 (sounds n x.0 x.1) h.0.msg))
  adds_in_time sounds (Some (Tick (Server shard))) o h tells = subst (λ (o : Outcome). AddsInTime is_view w o.world) (sym h.4) (quiet _ refl refl [] (sym (append-nil w.order)))
  adds_in_time sounds (Some (Tick (Coord n))) o h tells = subst (λ (o : Outcome). AddsInTime is_view w o.world) (sym h.2) (quiet _ refl refl [] (sym (append-nil w.order)))
  adds_in_time sounds (Some (Stop shard during)) o x tells =
      let k = stop_keeps plan w shard.0 during o x in
      let g = by_losing plan w shard.0 during o x (λ v. (rest : List TxnId) × (v.order ≡ w.order ++ rest)) ([], sym (append-nil w.order)) (λ k m sent. ([], sym (append-nil w.order)))
      (λ k m s v r q sent there keeps handles answers servers ran. let g = noted_grows w.order r.decided in (g.0, g.1)) (λ u sent undelivered viewing l p. p) (λ v s z p there keeps. p) in
      quiet o.world k.0 k.2 g.0 g.1
