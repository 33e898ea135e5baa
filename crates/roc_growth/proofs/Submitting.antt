-- Which step submitted an id, and of which file its coordinator was then
use Rattle.std.proofs.Common.{◌≡◌, ◌∙◌, ◌⊎◌, inl, inr, ℕ, ℤ, ◌+◌, ◌<◌, ◌≤◌, Bool, true, false, cond, ◌&&◌, List, [], ◌∷◌, ◌++◌, Option, Some, None, refl, sym, ap, subst, arith, append-nil, append_assoc}
use Rattle.std.proofs.lemmas.Bool.{le-leb, lt-leb}
use Rattle.std.specs.Prelude.{slice_get, slice_set, Result, Ok, Err}
use Rattle.roc_sequence.specs.Lists.{Has}
use Rattle.roc_sequence.proofs.Appended.{empty_more, same_more}
use Rattle.roc_sequence.proofs.Members.{has_append, has_one, same_there}
use Rattle.roc_base.specs.declared.id.TxnId.{TxnId}
use Rattle.roc_base.specs.declared.node.Node.{Node}
use Rattle.roc_base.specs.declared.node.Node.TheVariants.{Server, Coord}
use Rattle.roc_msg.specs.declared.outbox.Outgoing.{Outgoing}
use Rattle.roc_plan.specs.Groups.{Plan, is_view_of}
use Rattle.roc_coord.specs.declared.handled.SubmitFault.{SubmitFault}
use Rattle.roc_coord.specs.declared.handled.SubmitFault.TheVariants as core_fault
use Rattle.roc_coord.specs.State.{CoordState}
use Rattle.roc_coord.specs.Submit.{Submission, accepted, accepted_view, new_transaction, next_id, refusal_of, refused_or_accepted, after_submit}
use Rattle.roc_readonly.specs.Round.{first_round}
use Rattle.roc_audit.specs.declared.entry.Entry.TheVariants.{Submitted}
use Rattle.roc_audit.specs.History.{WasSubmitted}
use Rattle.roc_law_protocol.specs.declared.event.Kept.{Kept}
use Rattle.roc_law_world.specs.World.{first_beginning}
use Rattle.roc_law_world.proofs.Numbered.{numbered}
use Rattle.roc_epoch.specs.declared.next.Next.{Next}
use Rattle.roc_epoch.specs.Files.{last_plan, own_plan}
use Rattle.roc_two_files.specs.Left.{left_behind}
use Rattle.roc_two_files.proofs.Late.{run_late}
use Rattle.roc_grown.specs.declared.handled.GrownAnswer.{GrownAnswer}
use Rattle.roc_grown.specs.declared.handled.GrownAnswer.TheVariants as coord_answer
use Rattle.roc_grown.specs.declared.handled.GrownFault.{GrownFault}
use Rattle.roc_grown.specs.declared.handled.GrownFault.TheVariants as fault
use Rattle.roc_grown.specs.Server.{GrownStep}
use Rattle.roc_grown.specs.Coord as coord
use Rattle.roc_grown.specs.Coord.{GrownCoordState, GrownSubmission, after_grown_submit, after_grown_message}
use Rattle.roc_growth.specs.declared.event.Event.{Event}
use Rattle.roc_growth.specs.declared.event.Event.TheVariants.{Submit, Deliver, Tick, Stop, Drain}
use Rattle.roc_growth.specs.declared.event.Seen.TheVariants as seen
use Rattle.roc_growth.specs.World.{GrownWorld, mark_delivered, is_from, is_from_switched, is_second}
use Rattle.roc_growth.specs.Happens.{Outcome, Submits, answer_entries, IsReceived, StopsIn, at_rest, unrecorded, recorded}
use Rattle.roc_growth.specs.Run.{Stepped, Transition, IsGrownRun, at_first, steps_on}
use Rattle.roc_growth.specs.Epochs.{AreEpochs}
use Rattle.roc_growth.specs.Witness.{IsSubmissionAt}
use Rattle.roc_growth.proofs.Cuts.{IsCut, cut}
use Rattle.roc_growth.proofs.Going.{GoesOn}
use Rattle.roc_growth.proofs.Halves.{next_left}
use Rattle.roc_law_protocol.proofs.Changed.{get-set_here}

-- ---- what is accepted

-- an accepted submission has the next id, and uses it
core_accepted : (plan : Plan) (s : CoordState) (proc : ℕ) (args : List ℤ) (t : TxnId) → (after_submit plan s proc args).answer ≡ Ok t
    → (t ≡ next_id s) × ((after_submit plan s proc args).state.next ≡ s.next + 1)
core_accepted plan s proc args t = go (refusal_of plan s proc args)
  where
    kinds : (b : Bool) → (cond b (accepted_view plan s (first_round (next_id s) proc args)) (accepted plan s (new_transaction s proc args))).answer ≡ Ok t
        → (t ≡ next_id s) × ((cond b (accepted_view plan s (first_round (next_id s) proc args)) (accepted plan s (new_transaction s proc args))).state.next ≡ s.next + 1)
    kinds true e = (cc, refl)
    kinds false e = (cc, refl)

    go : (o : Option SubmitFault) → (refused_or_accepted plan s proc args o).answer ≡ Ok t → (t ≡ next_id s) × ((refused_or_accepted plan s proc args o).state.next ≡ s.next + 1)
    go (Some why) e = absurd (cc)
    go None e = kinds (is_view_of plan proc) e

pub answered_ok : (r : Result TxnId SubmitFault) (t : TxnId) → coord.answered_so r ≡ Ok t → r ≡ Ok t
answered_ok (Ok id) t e = ap (λ id. Ok id) (cc)
answered_ok (Err why) t e = absurd (cc)

pub grown_accepted : (plan : Plan) (next : Option Next) (s : GrownCoordState) (proc : ℕ) (args : List ℤ) (t : TxnId) → (after_grown_submit plan next s proc args).answer ≡ Ok t
    → (t ≡ next_id s.core) × ((after_grown_submit plan next s proc args).state.core.next ≡ s.core.next + 1)
    × ((after_grown_submit plan next s proc args).state.switched ≡ s.switched) × ((after_grown_submit plan next s proc args).state.upto ≡ s.upto)
grown_accepted plan next s proc args t = go s.draining
  where
    core : Submission
    core = after_submit (own_plan plan next s.switched) s.core proc args

    refusal : GrownSubmission
    refusal = record { answer = Err fault.Draining; state = s; sends = [] }

    go : (b : Bool) → (cond b refusal (coord.submitted_to_core s core)).answer ≡ Ok t
        → (t ≡ next_id s.core) × ((cond b refusal (coord.submitted_to_core s core)).state.core.next ≡ s.core.next + 1)
        × ((cond b refusal (coord.submitted_to_core s core)).state.switched ≡ s.switched) × ((cond b refusal (coord.submitted_to_core s core)).state.upto ≡ s.upto)
    go true e = absurd (cc)
    go false e = let r = core_accepted (own_plan plan next s.switched) s.core proc args t (answered_ok core.answer t e) in (r.0, r.1, refl, refl)

-- what is seen as submitted was accepted
the_id : (a b : TxnId) → seen.Submitted a ≡ seen.Submitted b → a ≡ b
the_id a b e = cc

draining_taken : {X : Type 0} (t : TxnId) → seen.Draining ≡ seen.Submitted t → X
draining_taken t e = absurd (cc)

unknown_taken : {X : Type 0} (t : TxnId) → seen.NoProc ≡ seen.Submitted t → X
unknown_taken t e = absurd (cc)

spent_taken : {X : Type 0} (t : TxnId) → seen.Spent ≡ seen.Submitted t → X
spent_taken t e = absurd (cc)

busy_taken : {X : Type 0} (t : TxnId) → seen.Busy ≡ seen.Submitted t → X
busy_taken t e = absurd (cc)

submits_ok : (w : GrownWorld) (n proc : ℕ) (args : List ℤ) (after : GrownCoordState) (outs : List Outgoing) (r : Result TxnId GrownFault) (o : Outcome) (t : TxnId) → Submits w n proc args after outs r o
    → o.seen ≡ seen.Submitted t → (r ≡ Ok t) × (o.world.coords ≡ slice_set w.coords n after)
submits_ok w n proc args after outs (Ok id) o t h e =
    let same = the_id id t (sym (ap (λ (o : Outcome). o.seen) h) ∙ e) in
    (ap (λ id. Ok id) same, ap (λ (o : Outcome). o.world.coords) h)
submits_ok w n proc args after outs (Err fault.Draining) o t h e = draining_taken t (sym (ap (λ (o : Outcome). o.seen) h) ∙ e)
submits_ok w n proc args after outs (Err (fault.Plain core_fault.NoProc)) o t h e = unknown_taken t (sym (ap (λ (o : Outcome). o.seen) h) ∙ e)
submits_ok w n proc args after outs (Err (fault.Plain core_fault.Spent)) o t h e = spent_taken t (sym (ap (λ (o : Outcome). o.seen) h) ∙ e)
submits_ok w n proc args after outs (Err (fault.Plain core_fault.Busy)) o t h e = busy_taken t (sym (ap (λ (o : Outcome). o.seen) h) ∙ e)
submits_ok w n proc args after outs (Err (fault.Plain core_fault.Args)) o t h e = absurd h
submits_ok w n proc args after outs (Err (fault.Plain core_fault.NoMemory)) o t h e = absurd h

-- what is told is the submission that is accepted
submits_told : (w : GrownWorld) (n proc : ℕ) (args : List ℤ) (after : GrownCoordState) (outs : List Outgoing) (r : Result TxnId GrownFault) (o : Outcome) (t : TxnId) (p : ℕ) (a : List ℤ)
    → Submits w n proc args after outs r o → Has (Submitted t p a) o.world.history → Has (Submitted t p a) w.history ⊎ ((r ≡ Ok t) × (o.seen ≡ seen.Submitted t))
submits_told w n proc args after outs (Ok id) o t p a h has =
    elim (has_append (Submitted t p a) w.history (Submitted id proc args ∷ []) (subst (λ (o : Outcome). Has (Submitted t p a) o.world.history) h has)) [
      | inl old ↦ inl old
      | inr new ↦
          (let same = the_submitted id (has_one (Submitted t p a) (Submitted id proc args) new) in
          inr (ap (λ id. Ok id) same, ap (λ (o : Outcome). o.seen) h ∙ ap (λ id. seen.Submitted id) same))
    ]
  where
    the_submitted : (id : TxnId) → Submitted t p a ≡ Submitted id proc args → id ≡ t
    the_submitted id e = cc
submits_told w n proc args after outs (Err fault.Draining) o t p a h has = inl (subst (λ (o : Outcome). Has (Submitted t p a) o.world.history) h has)
submits_told w n proc args after outs (Err (fault.Plain core_fault.NoProc)) o t p a h has = inl (subst (λ (o : Outcome). Has (Submitted t p a) o.world.history) h has)
submits_told w n proc args after outs (Err (fault.Plain core_fault.Spent)) o t p a h has = inl (subst (λ (o : Outcome). Has (Submitted t p a) o.world.history) h has)
submits_told w n proc args after outs (Err (fault.Plain core_fault.Busy)) o t p a h has = inl (subst (λ (o : Outcome). Has (Submitted t p a) o.world.history) h has)
submits_told w n proc args after outs (Err (fault.Plain core_fault.Args)) o t p a h has = absurd h
submits_told w n proc args after outs (Err (fault.Plain core_fault.NoMemory)) o t p a h has = absurd h

-- ---- one run

-- the steps tell the world
one_world : (plan : Plan) (next : Option Next) (coords : ℕ) (steps others : List Stepped) (w v : GrownWorld) → IsGrownRun plan next coords steps w → IsGrownRun plan next coords others v
    → steps ≡ others → w ≡ v
one_world plan next coords steps others w v (at_first a) (at_first b) e = refl
one_world plan next coords steps others w v (at_first a) (steps_on {steps = old} event o run moves) e = absurd (empty_more old (record { event = event; outcome = o }) e)
one_world plan next coords steps others w v (steps_on {steps = old} event o run moves) (at_first b) e = absurd (empty_more old (record { event = event; outcome = o }) (sym e))
one_world plan next coords steps others w v (steps_on {steps = old} event o run moves) (steps_on {steps = before} other u first x) e =
    ap (λ (y : Stepped). y.outcome.world) (same_more old before (record { event = event; outcome = o }) (record { event = other; outcome = u }) e).1

module _ (plan : Plan) (next : Option Next) (coords : ℕ) (epochs : (steps : List Stepped) (w : GrownWorld) → IsGrownRun plan next coords steps w → AreEpochs plan next coords steps w) where
  -- ---- of which file it was

  -- a coordinator that has switched has used no fewer sequences than it told
  told_less : (steps : List Stepped) (w : GrownWorld) → IsGrownRun plan next coords steps w → (n : ℕ) (c : GrownCoordState) → slice_get w.coords n ≡ Some c → c.switched ≡ true
      → (upto : TxnId) × (c.upto ≡ Some upto) × (upto.seq ≤ c.core.next)
  told_less steps w run n c at is =
      let e = epochs steps w run in
      let u = e.upto n c at is in
      let late = (run_late (last_plan plan next) (left_behind plan (first_beginning plan) e.w) coords e.second_steps e.v e.second).nexts n c.core (e.two.second_coords n c at is) in
      let stood = next_left plan next coords steps w e n u.0 u.1 in
      (next_id u.0, u.2, omega (arith, late, stood))

  pub as_switched : (steps : List Stepped) (w : GrownWorld) → IsGrownRun plan next coords steps w → (t : TxnId) (c : GrownCoordState) → IsSubmissionAt plan next coords steps t c → is_second w t ≡ c.switched
  as_switched steps w run t c x = go c.switched refl
    where
      y : Stepped
      y = record { event = Some (Submit t.coord x.proc x.args); outcome = x.outcome }

      here : IsCut plan next coords x.front y w
      here = cut plan next coords (λ steps w run. (epochs steps w run).told) steps w run x.front y x.behind x.at

      moves : Transition plan next x.before (Some (Submit t.coord x.proc x.args)) x.outcome
      moves = subst (λ v. Transition plan next v (Some (Submit t.coord x.proc x.args)) x.outcome) (one_world plan next coords x.front x.front here.before x.before here.run x.run refl) here.moves

      same : moves.1 ≡ c
      same = same_there x.before.coords t.coord moves.1 c moves.2 x.there

      submission : GrownSubmission
      submission = after_grown_submit plan next c x.proc x.args

      ok : (submission.answer ≡ Ok t) × (x.outcome.world.coords ≡ slice_set x.before.coords t.coord submission.state)
      ok =
          submits_ok x.before t.coord x.proc x.args submission.state submission.sends submission.answer x.outcome t
          (subst
          (λ c. let r = after_grown_submit plan next c x.proc x.args in Submits x.before t.coord x.proc x.args r.state r.sends r.answer x.outcome)
          same moves.3) x.accepted

      took : (t ≡ next_id c.core) × (submission.state.core.next ≡ c.core.next + 1) × (submission.state.switched ≡ c.switched) × (submission.state.upto ≡ c.upto)
      took = grown_accepted plan next c x.proc x.args t ok.0

      seq : t.seq ≡ c.core.next
      seq = ap (λ (t : TxnId). t.seq) took.0

      now : (d : GrownCoordState) × (slice_get w.coords t.coord ≡ Some d) × GoesOn submission.state d
      now =
          here.behind.coords t.coord submission.state
          (subst (λ l. slice_get l t.coord ≡ Some submission.state) (sym ok.1) (get-set_here x.before.coords t.coord c submission.state x.there))

      told : (b : Bool) → now.0.switched ≡ b → (upto : Option TxnId) → now.0.upto ≡ upto → is_second w t ≡ (b && is_from upto t.seq)
      told b is upto e = ap (λ o. is_from_switched o t) now.1 ∙ (λ i. is i && is_from (e i) t.seq)

      since : c.switched ≡ false → (b : Bool) → now.0.switched ≡ b → is_second w t ≡ false
      since is false n = told false n now.0.upto refl
      since is true n =
          let over = now.2.over (took.2 ∙ is) n in
          let grown = took.1 in
          let l : t.seq < over.0.seq = (let reach = over.2 in omega (arith, seq, grown, reach)) in
          told true n (Some over.0) over.1 ∙ lt-leb over.0.seq t.seq l

      go : (b : Bool) → c.switched ≡ b → is_second w t ≡ c.switched
      go true is =
          let u = told_less x.front x.before x.run t.coord c x.there is in
          let on = now.2.still (took.2 ∙ is) in
          let l : u.0.seq ≤ t.seq = (let few = u.2 in omega (arith, seq)) in
          told true on.0 (Some u.0) (on.1 ∙ (took.3 ∙ u.1)) ∙ (le-leb u.0.seq t.seq l ∙ sym is)
      go false is = since is now.0.switched refl ∙ sym is

  -- ---- which step it was

  -- a coordinator's number is its place
  core_number : (steps : List Stepped) (w : GrownWorld) → IsGrownRun plan next coords steps w → (n : ℕ) (c : GrownCoordState) → slice_get w.coords n ≡ Some c → c.core.number ≡ n
  core_number steps w run n c at = go c.switched refl
    where
      e : AreEpochs plan next coords steps w
      e = epochs steps w run

      go : (b : Bool) → c.switched ≡ b → c.core.number ≡ n
      go false is = (numbered plan (first_beginning plan) coords e.first_steps e.w e.first).numbers n c.core (e.two.first_coords n c at is)
      go true is =
          (numbered (last_plan plan next) (left_behind plan (first_beginning plan) e.w) coords e.second_steps e.v e.second).numbers n c.core (e.two.second_coords n c at is)

  -- an event submitted t
  record IsNew (w : GrownWorld) (e : Option Event) (o : Outcome) (t : TxnId) : Type 0 where
    coord : GrownCoordState
    there : slice_get w.coords t.coord ≡ Some coord
    proc : ℕ
    args : List ℤ
    event : e ≡ Some (Submit t.coord proc args)
    accepted : o.seen ≡ seen.Submitted t

  no_submission : (answer : GrownAnswer) (t : TxnId) (p : ℕ) (a : List ℤ) → ¬ Has (Submitted t p a) (answer_entries answer)
  no_submission coord_answer.Done t p a h = absurd h
  no_submission coord_answer.Skipped t p a h = absurd h
  no_submission (coord_answer.Ignored why) t p a h = absurd h
  no_submission (coord_answer.Answered id reply) t p a (inl e) = absurd (cc)
  no_submission (coord_answer.Answered id reply) t p a (inr h) = absurd h

  -- what is told behind an event was told before it, or it is the submission
  old_or_new : (steps : List Stepped) (w : GrownWorld) → IsGrownRun plan next coords steps w → (e : Option Event) (o : Outcome) → Transition plan next w e o
      → (t : TxnId) (p : ℕ) (a : List ℤ) → Has (Submitted t p a) o.world.history → Has (Submitted t p a) w.history ⊎ IsNew w e o t
  old_or_new steps w run None o h t p a has = inl (subst (λ (o : Outcome). Has (Submitted t p a) o.world.history) h has)
  old_or_new steps w run (Some (Submit n proc args)) o (call, s, there, h) t p a has =
      let r = after_grown_submit plan next s proc args in
      elim (submits_told w n proc args r.state r.sends r.answer o t p a h has) [
        | inl old ↦ inl old
        | inr new ↦
            (let id = (grown_accepted plan next s proc args t new.0).0 in
            let at : n ≡ t.coord = sym (ap (λ (t : TxnId). t.coord) id ∙ core_number steps w run n s there) in
            inr (record {
              coord = s;
              there = subst (λ n. slice_get w.coords n ≡ Some s) at there;
              proc = proc;
              args = args;
              event = ap (λ n. Some (Submit n proc args)) at;
              accepted = new.1;
            }))
      ]
  old_or_new steps w run (Some (Deliver k)) o (m, some, there, h) t p a has = go m.message.to h
    where
      go : (to : Node) → IsReceived plan next (mark_delivered w k) m.file m.message.msg to o → Has (Submitted t p a) w.history ⊎ IsNew w (Some (Deliver k)) o t
      go (Server shard) x = inl (subst (λ (o : Outcome). Has (Submitted t p a) o.world.history) x.is has)
      go (Coord n) (s, at, is) =
          let answer = (after_grown_message plan next s m.file m.message.msg).answer in
          elim (has_append (Submitted t p a) w.history (answer_entries answer) (subst (λ (o : Outcome). Has (Submitted t p a) o.world.history) is has)) [
            | inl old ↦ inl old
            | inr new ↦ absurd (no_submission answer t p a new)
          ]
  old_or_new steps w run (Some (Tick (Server shard))) o (s, there, is) t p a has = inl (subst (λ (o : Outcome). Has (Submitted t p a) o.world.history) is has)
  old_or_new steps w run (Some (Tick (Coord n))) o (s, there, is) t p a has = inl (subst (λ (o : Outcome). Has (Submitted t p a) o.world.history) is has)
  old_or_new steps w run (Some (Drain n)) o (more, s, there, is) t p a has =
      inl (subst (Has (Submitted t p a)) (append-nil w.history) (subst (λ (o : Outcome). Has (Submitted t p a) o.world.history) is has))
  old_or_new steps w run (Some (Stop shard during)) o x t p a has =
      inl (go during x.before x.step x.stops (subst (λ (o : Outcome). Has (Submitted t p a) o.world.history) x.is has))
    where
      go : (during : Option (ℕ × Kept)) (before : GrownWorld) (step : GrownStep) → StopsIn plan next w shard.0 x.state during before step → Has (Submitted t p a) before.history → Has (Submitted t p a) w.history
      go during before step at_rest h = h
      go during before step (unrecorded k m sent) h = h
      go during before step (recorded k many m r sent handles) h = h

  -- each submitted id has its step
  pub submitted_by : (steps : List Stepped) (w : GrownWorld) → IsGrownRun plan next coords steps w → (t : TxnId) → WasSubmitted w.history t
      → (c : GrownCoordState) × IsSubmissionAt plan next coords steps t c
  submitted_by steps w (at_first counted) t s = absurd s.2
  submitted_by steps w (steps_on {steps = old} {w = v} event o run moves) t s = elim (old_or_new old v run event o moves t s.0 s.1 s.2) [
    | inl was ↦
        (let r = submitted_by old v run t (s.0, s.1, was) in
        let y : Stepped = record { event = Some (Submit t.coord r.1.proc r.1.args); outcome = r.1.outcome } in (
          r.0,
          record {
            front = r.1.front;
            behind = r.1.behind ++ record { event = event; outcome = o } ∷ [];
            before = r.1.before;
            run = r.1.run;
            there = r.1.there;
            proc = r.1.proc;
            args = r.1.args;
            outcome = r.1.outcome;
            at = ap (λ l. l ++ record { event = event; outcome = o } ∷ []) r.1.at ∙ append_assoc r.1.front (y ∷ r.1.behind) (record { event = event; outcome = o } ∷ []);
            accepted = r.1.accepted;
          },
        ))
    | inr new ↦ (
      new.coord,
      record {
        front = old;
        behind = [];
        before = v;
        run = run;
        there = new.there;
        proc = new.proc;
        args = new.args;
        outcome = o;
        at = ap (λ e. old ++ record { event = e; outcome = o } ∷ []) new.event;
        accepted = new.accepted;
      },
    )
  ]
