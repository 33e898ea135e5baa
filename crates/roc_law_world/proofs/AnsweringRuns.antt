-- In every world each id that was submitted is unanswered at its coordinator, or was answered, once
use Rattle.std.proofs.Common.{◌≡◌, ◌≢◌, ◌∙◌, ◌⊎◌, inl, inr, ℕ, ℤ, ◌<◌, Bool, true, false, not, List, [], ◌∷◌, ◌++◌, Option, Some, None, refl, sym, ap, subst, arith, append-nil}
use Rattle.std.proofs.lemmas.Bool.{false≢true}
use Rattle.std.specs.Prelude.{slice_get, if◌then◌else◌}
use Rattle.std.specs.List.{filter}
use Rattle.roc_sequence.specs.Lists.{Has}
use Rattle.roc_sequence.proofs.Members.{has_left, has_right, has_one, has_more, from_has_map, has_filter, from_has_filter, same_there}
use Rattle.roc_base.specs.declared.id.TxnId.{TxnId}
use Rattle.roc_base.specs.declared.node.Node.{Node}
use Rattle.roc_base.specs.declared.node.Node.TheVariants.{Server, Coord}
use Rattle.roc_base.specs.TxnId.{is_txn}
use Rattle.roc_base.specs.Equalities.{is_txn-true, is_txn-same}
use Rattle.roc_base.proofs.Ids.{is_txn-ne}
use Rattle.roc_msg.specs.declared.msg.Msg.{Msg}
use Rattle.roc_plan.specs.Groups.{Plan, is_view_of}
use Rattle.roc_readonly.specs.declared.view.View.{View}
use Rattle.roc_readonly.specs.Round.{first_round}
use Rattle.roc_coord.specs.declared.handled.Handled.TheVariants as coord_answer
use Rattle.roc_coord.specs.declared.handled.SubmitFault.{SubmitFault}
use Rattle.roc_coord.specs.declared.handled.SubmitFault.TheVariants as fault
use Rattle.roc_coord.specs.Ids.{ids_of, view_ids}
use Rattle.roc_coord.specs.State.{CoordState, CoordStep}
use Rattle.roc_coord.specs.Step.{after_message}
use Rattle.roc_coord.specs.Submit.{next_id, new_transaction, accepted, accepted_view, refusal_of, refused_or_accepted, after_submit}
use Rattle.roc_audit.specs.declared.entry.Entry.{Entry}
use Rattle.roc_audit.specs.declared.entry.Entry.TheVariants.{Submitted, Answered}
use Rattle.roc_audit.specs.History.{WasSubmitted, WasAnswered, IsToldOnce}
use Rattle.roc_audit.proofs.Once.{told_nothing, told_more}
use Rattle.roc_law_protocol.specs.Beginnings as protocol
use Rattle.roc_law_protocol.specs.declared.event.Event.{Event}
use Rattle.roc_law_protocol.specs.declared.event.Event.TheVariants.{Submit, Deliver, Tick, Stop}
use Rattle.roc_law_protocol.specs.Happens.{answer_entries}
use Rattle.roc_law_protocol.proofs.Firsts.{found_at}
use Rattle.roc_law_protocol.proofs.Submissions.{no_submission}
use Rattle.roc_law_world.specs.World.{World, Beginning, begun_world, mark_delivered, at_coord}
use Rattle.roc_law_world.specs.Happens.{Outcome, IsSubmissionOf, IsReceived}
use Rattle.roc_law_world.specs.Run.{Stepped, Transition, IsRunFrom, at_beginning, steps_on}
use Rattle.roc_law_world.specs.Beside.{TellsViews}
use Rattle.roc_law_world.proofs.Coordinators.{IsCoordSound}
use Rattle.roc_law_world.proofs.Numbered.{IsNumbered, numbered}
use Rattle.roc_law_world.proofs.Runs.{beside, grows}
use Rattle.roc_law_world.proofs.Steps.{tells_before}
use Rattle.roc_law_world.proofs.Answering.{Answers, none_answered, one_answered, message_answers, answered_submitted, AreTold, Telling, told_at}
use Rattle.roc_law_world.proofs.Stops.{stop_keeps}

-- ---- a message

module _ (plan : Plan) (is_view : TxnId → Bool) (w : World) (o : AreTold w) (n : ℕ) (s : CoordState) (there : slice_get w.coords n ≡ Some s) (own : IsCoordSound is_view s) where
  none_told : (r : CoordStep) → r.state.unanswered ≡ s.unanswered → answer_entries r.answer ≡ [] → ((v : View) → Has v r.state.views → (u : View) × Has u s.views × (v.id ≡ u.id))
      → Telling w n s r.state (answer_entries r.answer)
  none_told r same none views =
      record {
        old_or_new = λ t h. inl (subst (Has t) same h);
        still_unanswered = λ t h reply k. subst (Has (Answered t reply)) none k;
        own = λ t reply k. absurd (subst (Has (Answered t reply)) none k);
        views = λ v h. let u = views v h in subst (Has v.id) (sym same) (subst (λ t. Has t s.unanswered) (sym u.2) (o.views n s there u.0 u.1));
        left = λ t h. inl (subst (Has t) (sym same) h);
        submitted = λ t h. absurd (no_submission r.answer t h.0 h.1 h.2);
        once = subst IsToldOnce (sym (ap (λ l. w.history ++ l) none ∙ append-nil w.history)) o.once;
      }

  one_told : (r : CoordStep) (id : TxnId) (reply : List ℤ) → r.answer ≡ coord_answer.Answered id reply → Has id (ids_of s.pending) ⊎ Has id (view_ids s.views)
      → r.state.unanswered ≡ filter (λ u. not (is_txn u id)) s.unanswered → ((v : View) → Has v r.state.views → Has v s.views × (v.id ≢ id)) → Telling w n s r.state (answer_entries r.answer)
  one_told r id reply given whose less views =
      record {
        old_or_new = λ t h. inl (left_of t h).0;
        still_unanswered = λ t h gave k. (left_of t h).1 (the_id t gave k);
        own = λ t gave k. ap (λ (t : TxnId). t.coord) (the_id t gave k) ∙ (o.unanswered n s there id was_there).0;
        views = λ v h. let u = views v h in subst (Has v.id) (sym less) (has_filter (λ u. not (is_txn u id)) v.id s.unanswered (o.views n s there v u.0) (ap not (is_txn-ne v.id id u.1)));
        left = λ t h. go t h (is_txn t id) refl;
        submitted = λ t h. absurd (no_submission r.answer t h.0 h.1 h.2);
        once = subst (λ l. IsToldOnce (w.history ++ l)) (sym told)
            (told_more w.history (Answered id reply) o.once ((o.unanswered n s there id was_there).1, (o.unanswered n s there id was_there).2));
      }
    where
      told : answer_entries r.answer ≡ Answered id reply ∷ []
      told = ap answer_entries given

      was_there : Has id s.unanswered
      was_there = elim whose [
        | inl h ↦ (from_has_filter (λ (t : TxnId). not (is_view t)) id s.unanswered (subst (Has id) own.pending h)).0
        | inr h ↦ (let q = from_has_map (λ (v : View). v.id) id s.views h in subst (λ t. Has t s.unanswered) (sym q.2) (o.views n s there q.0 q.1))
      ]

      left_of : (t : TxnId) → Has t r.state.unanswered → Has t s.unanswered × (t ≢ id)
      left_of t h =
          let f = from_has_filter (λ (u : TxnId). not (is_txn u id)) t s.unanswered (subst (Has t) less h) in
          (f.0, λ e. false≢true (sym (ap not (ap (λ t. is_txn t id) e ∙ is_txn-same id)) ∙ f.1))

      the_id : (t : TxnId) (gave : List ℤ) → WasAnswered (answer_entries r.answer) t gave → t ≡ id
      the_id t gave k = same (has_one (Answered t gave) (Answered id reply) (subst (Has (Answered t gave)) told k))
        where
          same : Answered t gave ≡ Answered id reply → t ≡ id
          same e = cc

      go : (t : TxnId) → Has t s.unanswered → (b : Bool) → is_txn t id ≡ b → Has t r.state.unanswered ⊎ ((gave : List ℤ) × WasAnswered (answer_entries r.answer) t gave)
      go t h true e = inr (reply, subst (Has (Answered t reply)) (sym told) (inl (ap (λ t. Answered t reply) (is_txn-true t id e))))
      go t h false e = inl (subst (Has t) (sym less) (has_filter (λ (u : TxnId). not (is_txn u id)) t s.unanswered h (ap not e)))

  message_told : (msg : Msg) → Telling w n s (after_message plan s msg).state (answer_entries (after_message plan s msg).answer)
  message_told msg = go (after_message plan s msg) (message_answers plan is_view s own msg)
    where
      go : (r : CoordStep) → Answers s r → Telling w n s r.state (answer_entries r.answer)
      go r (none_answered same none views) = none_told r same none views
      go r (one_answered id reply given whose less views) = one_told r id reply given whose less views

-- ---- a submission

-- the next id is new
pub next_is_new : (w : World) → IsNumbered w → (n : ℕ) (s : CoordState) → slice_get w.coords n ≡ Some s → ¬ WasSubmitted w.history (next_id s)
next_is_new w numbers n s there h =
    let g = numbers.given (next_id s) h.0 h.1 h.2 in
    let same : g.0 ≡ s = same_there w.coords n g.0 s (subst (λ k. slice_get w.coords k ≡ Some g.0) (numbers.numbers n s there) g.1) there in
    let low : s.next < s.next = subst (λ (c : CoordState). s.next < c.next) same g.2 in
    omega arith

module _ (w : World) (o : AreTold w) (numbers : IsNumbered w) (n : ℕ) (s : CoordState) (there : slice_get w.coords n ≡ Some s) (proc : ℕ) (args : List ℤ) where
  abbrev told : List Entry
  told = Submitted (next_id s) proc args ∷ []

  submission_told : (after : CoordState) → after.unanswered ≡ s.unanswered ++ next_id s ∷ [] → ((v : View) → Has v after.views → Has v s.views ⊎ (v.id ≡ next_id s))
      → Telling w n s after (Submitted (next_id s) proc args ∷ [])
  submission_told after more views =
      record {
        old_or_new = λ t h. elim (has_more t (next_id s) s.unanswered (subst (Has t) more h)) [
          | inl k ↦ inl k
          | inr e ↦
              inr (
                ap (λ (t : TxnId). t.coord) e ∙ numbers.numbers n s there,
                subst (WasSubmitted told) (sym e) (proc, args, inl refl),
                λ reply a. next_is_new w numbers n s there (subst (WasSubmitted w.history) e (answered_submitted w.history o.once t reply a)),
              )
        ];
        still_unanswered = λ t h reply k. no_answer t reply k;
        own = λ t reply k. absurd (no_answer t reply k);
        views = λ v h. subst (Has v.id) (sym more) (elim (views v h) [
          | inl k ↦ has_left v.id s.unanswered (next_id s ∷ []) (o.views n s there v k)
          | inr e ↦ has_right v.id s.unanswered (next_id s ∷ []) (inl e)
        ]);
        left = λ t h. inl (subst (Has t) (sym more) (has_left t s.unanswered (next_id s ∷ []) h));
        submitted = λ t h. let e = the_id t h.0 h.1 (has_one (Submitted t h.0 h.1) (Submitted (next_id s) proc args) h.2) in
            (ap (λ (t : TxnId). t.coord) e ∙ numbers.numbers n s there, subst (Has t) (sym more) (has_right t s.unanswered (next_id s ∷ []) (inl e)));
        once = told_more w.history (Submitted (next_id s) proc args) o.once (next_is_new w numbers n s there);
      }
    where
      the_id : (t : TxnId) (p : ℕ) (a : List ℤ) → Submitted t p a ≡ Submitted (next_id s) proc args → t ≡ next_id s
      the_id t p a e = cc

      no_answer : (t : TxnId) (reply : List ℤ) → ¬ WasAnswered (Submitted (next_id s) proc args ∷ []) t reply
      no_answer t reply (inl e) = apart e
        where
          apart : Answered t reply ≢ Submitted (next_id s) proc args
          apart e = cc
      no_answer t reply (inr h) = h

  submits_told : (plan : Plan) (u : Outcome) → IsSubmissionOf w n proc args (after_submit plan s proc args) u → AreTold u.world
  submits_told plan u h = go (refusal_of plan s proc args) h
    where
      kinds : (b : Bool) → IsSubmissionOf w n proc args (if b then accepted_view plan s (first_round (next_id s) proc args) else accepted plan s (new_transaction s proc args)) u → AreTold u.world
      kinds true k =
          let after = (accepted_view plan s (first_round (next_id s) proc args)).state in
          subst (λ (u : Outcome). AreTold u.world) (sym k)
          (told_at w o n s after there told (submission_told after refl
          (λ v j. elim (has_more v (first_round (next_id s) proc args) s.views j) [ inl i ↦ inl i | inr e ↦ inr (ap (λ (v : View). v.id) e) ])) _ refl refl)
      kinds false k =
          let after = (accepted plan s (new_transaction s proc args)).state in
          subst (λ (u : Outcome). AreTold u.world) (sym k) (told_at w o n s after there told (submission_told after refl (λ v j. inl j)) _ refl refl)

      go : (r : Option SubmitFault) → IsSubmissionOf w n proc args (refused_or_accepted plan s proc args r) u → AreTold u.world
      go None k = kinds (is_view_of plan proc) k
      go (Some fault.Spent) k = subst (λ (u : Outcome). AreTold u.world) (sym k) o
      go (Some fault.Busy) k = subst (λ (u : Outcome). AreTold u.world) (sym k) o
      go (Some fault.NoProc) k = absurd k
      go (Some fault.Args) k = absurd k
      go (Some fault.NoMemory) k = absurd k

-- ---- any step

told_still : (w u : World) → AreTold w → u.coords ≡ w.coords → u.history ≡ w.history → AreTold u
told_still w u o coords history =
    record {
      unanswered = λ k c at t h.
          subst (λ l. (t.coord ≡ k) × WasSubmitted l t × ((reply : List ℤ) → ¬ WasAnswered l t reply)) (sym history) (o.unanswered k c (subst (λ l. slice_get l k ≡ Some c) coords at) t h);
      views = λ k c at v h. o.views k c (subst (λ l. slice_get l k ≡ Some c) coords at) v h;
      kept = λ t h.
          (let q = o.kept t (subst (λ l. WasSubmitted l t) history h) in
          (q.0, subst (λ l. slice_get l t.coord ≡ Some q.0) (sym coords) q.1, subst (λ l. Has t q.0.unanswered ⊎ ((reply : List ℤ) × WasAnswered l t reply)) (sym history) q.2));
      once = subst IsToldOnce (sym history) o.once;
    }

told_step : (plan : Plan) (is_view : TxnId → Bool) (w : World) → AreTold w → IsNumbered w → ((n : ℕ) (s : CoordState) → slice_get w.coords n ≡ Some s → IsCoordSound is_view s)
    → (e : Option Event) (u : Outcome) → Transition plan w e u → AreTold u.world
told_step plan is_view w o numbers sounds None u h = subst (λ (u : Outcome). AreTold u.world) (sym h) o
told_step plan is_view w o numbers sounds (Some (Submit n proc args)) u h = submits_told w o numbers n h.0 h.1 proc args plan u h.2
told_step plan is_view w o numbers sounds (Some (Deliver k)) u h = go h.0.to h.3
  where
    go : (to : Node) → IsReceived plan (mark_delivered w k) h.0.msg to u → AreTold u.world
    go (Server shard) x = subst (λ (u : Outcome). AreTold u.world) (sym x.is) (told_still w _ o refl refl)
    go (Coord n) x =
        let r = after_message plan x.0 h.0.msg in
        subst (λ (u : Outcome). AreTold u.world) (sym x.2)
        (told_at w o n x.0 r.state x.1 (answer_entries r.answer) (message_told plan is_view w o n x.0 x.1 (sounds n x.0 x.1) h.0.msg)
        (at_coord (mark_delivered w k) n r.state r.sends (answer_entries r.answer)) refl refl)
told_step plan is_view w o numbers sounds (Some (Tick (Server shard))) u h = subst (λ (u : Outcome). AreTold u.world) (sym h.4) (told_still w _ o refl refl)
told_step plan is_view w o numbers sounds (Some (Tick (Coord n))) u h = subst (λ (u : Outcome). AreTold u.world) (sym h.2) (told_still w _ o refl refl)
told_step plan is_view w o numbers sounds (Some (Stop shard during)) u x = let k = stop_keeps plan w shard.0 during u x in told_still w u.world o k.1 k.0

module _ (plan : Plan) (b : Beginning) (coords : ℕ) (is_view : TxnId → Bool) where
  begun_told : AreTold (begun_world plan b coords)
  begun_told =
      record {
        unanswered = λ n c at t h. absurd (subst (λ (c : CoordState). Has t c.unanswered) (found_at (protocol.begun_coord b.of_transactions) 0 coords n c at) h);
        views = λ n c at v h. absurd (subst (λ (c : CoordState). Has v c.views) (found_at (protocol.begun_coord b.of_transactions) 0 coords n c at) h);
        kept = λ t h. absurd h.2;
        once = told_nothing;
      }

  -- in every world of a run
  pub told_in_runs : (steps : List Stepped) (w : World) → IsRunFrom plan b coords steps w → TellsViews plan is_view w.history → AreTold w
  told_in_runs steps w at_beginning tells = begun_told
  told_in_runs steps w (steps_on {w = v} e o r h) tells =
      let g = grows plan v e o h in
      let before = tells_before plan is_view v.history g.more (subst (TellsViews plan is_view) g.is tells) in
      told_step plan is_view v (told_in_runs _ v r before) (numbered plan b coords _ v r) (beside plan b coords is_view _ v r before).holds.coords e o h
