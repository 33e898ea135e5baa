-- What a coordinator used and leaves unanswered, of transactions and of views, is what the history tells of it
use Rattle.std.proofs.Common.{◌≡◌, ◌↔◌, ◌∙◌, ◌⊎◌, inl, inr, ℕ, ℤ, ◌+◌, ◌<◌, ◌≤◌, Bool, true, false, not, List, [], ◌∷◌, ◌++◌, Option, Some, None, length, refl, sym, ap, subst, arith}
use Rattle.std.proofs.lemmas.Bool.{cases_lt}
use Rattle.std.specs.Prelude.{slice_get, if◌then◌else◌}
use Rattle.roc_sequence.specs.Lists.{Has}
use Rattle.roc_sequence.proofs.Members.{has_append, has_right, has_one, from_has_map, from_has_filter}
use Rattle.roc_base.specs.declared.id.TxnId.{TxnId}
use Rattle.roc_base.specs.TxnId.{is_txn}
use Rattle.roc_base.specs.declared.node.Node.{Node}
use Rattle.roc_base.specs.declared.node.Node.TheVariants.{Server, Coord}
use Rattle.roc_msg.specs.declared.msg.Msg.{Msg}
use Rattle.roc_msg.specs.declared.outbox.Outgoing.{Outgoing}
use Rattle.roc_plan.specs.Groups.{Plan, is_view_of}
use Rattle.roc_readonly.specs.declared.view.View.{View}
use Rattle.roc_readonly.specs.Round.{first_round}
use Rattle.roc_coord.specs.declared.handled.Handled.{Handled}
use Rattle.roc_coord.specs.declared.handled.Handled.TheVariants as answer
use Rattle.roc_coord.specs.Ids.{ids_of, view_ids}
use Rattle.roc_coord.specs.State.{CoordState, CoordStep}
use Rattle.roc_coord.specs.Step.{after_message}
use Rattle.roc_coord.specs.Submit.{Submission, next_id, new_transaction, accepted, accepted_view, after_submit, most_transactions, most_pending}
use Rattle.roc_audit.specs.declared.entry.Entry.{Entry}
use Rattle.roc_audit.specs.declared.entry.Entry.TheVariants.{Submitted}
use Rattle.roc_audit.specs.History.{WasSubmitted}
use Rattle.roc_audit.proofs.Histories.{submitted_front}
use Rattle.roc_law_protocol.specs.Beginnings as protocol
use Rattle.roc_law_protocol.specs.declared.event.Event.{Event}
use Rattle.roc_law_protocol.specs.declared.event.Event.TheVariants.{Submit, Deliver, Tick, Stop}
use Rattle.roc_law_protocol.specs.declared.event.Seen.TheVariants as seen
use Rattle.roc_law_protocol.specs.Happens.{answer_entries}
use Rattle.roc_law_protocol.specs.Unanswered.{submitted_at, unanswered_at}
use Rattle.roc_law_protocol.proofs.Counted.{AreTold, OfKept, same_told, one_told, none_told, told_by_answer, told_by_submission}
use Rattle.roc_law_protocol.proofs.Firsts.{found_at}
use Rattle.roc_law_protocol.proofs.SubmissionEnds.{IsAnySubmission, unknown, miscounted, spent, busy, taken, any_submission_is}
use Rattle.roc_law_protocol.proofs.Submissions.{keeps_number, no_submission}
use Rattle.roc_law_protocol.proofs.Tells.{fewer, left_by, unanswered_left}
use Rattle.roc_law_protocol.proofs.Changed.{get-set_cases}
use Rattle.roc_law_world.specs.World.{World, Beginning, begun_world, mark_delivered, at_coord}
use Rattle.roc_law_world.specs.Beginnings.{IsViewBeginning}
use Rattle.roc_law_world.specs.Happens.{Outcome, IsSubmissionOf, IsReceived, Happens}
use Rattle.roc_law_world.specs.Run.{Stepped, Transition, IsRunFrom, at_beginning, steps_on}
use Rattle.roc_law_world.specs.Beside.{TellsViews}
use Rattle.roc_law_world.proofs.Answering as answering
use Rattle.roc_law_world.proofs.Answering.{Answers, none_answered, one_answered, message_answers}
use Rattle.roc_law_world.proofs.AnsweringRuns.{next_is_new, told_in_runs}
use Rattle.roc_law_world.proofs.Coordinators.{IsCoordSound}
use Rattle.roc_law_world.proofs.Numbered.{IsNumbered, numbered}
use Rattle.roc_law_world.proofs.Runs.{beside, grows}
use Rattle.roc_law_world.proofs.Stops.{stop_keeps}
use Rattle.roc_law_world.proofs.Steps.{tells_before}

abbrev pub left_at : CoordState → List TxnId
left_at c = c.unanswered

abbrev HasRoom : CoordState → Type 0
HasRoom c = (c.next ≤ most_transactions) × (length c.unanswered ≤ most_pending)

pub record IsUsed (nexts : ℕ → ℕ) (w : World) : Type 0 where
  pub told : AreTold left_at w.coords w.history
  pub next : (n : ℕ) (c : CoordState) → slice_get w.coords n ≡ Some c → c.next ≡ nexts n + length (submitted_at n w.history)
  pub few : (n : ℕ) (c : CoordState) → slice_get w.coords n ≡ Some c → (c.next ≤ most_transactions) × (length c.unanswered ≤ most_pending)
  -- what was submitted has a sequence from the beginning's next one on, and each such one that was used is that of a submission
  pub late : (t : TxnId) → WasSubmitted w.history t → nexts t.coord ≤ t.seq
  pub submitted : (n : ℕ) (c : CoordState) → slice_get w.coords n ≡ Some c → (q : ℕ) → nexts n ≤ q → q < c.next → WasSubmitted w.history (record { coord = n; seq = q })

-- ---- a submission

-- what comes of it at its coordinator
pub data Comes (w : World) (n proc : ℕ) (args : List ℤ) (s : CoordState) (o : Outcome) : Type 0 where
  comes_spent : most_transactions ≤ s.next → o.seen ≡ seen.Spent → o.world ≡ w → Comes w n proc args s o
  comes_busy : s.next < most_transactions → most_pending ≤ length s.unanswered → o.seen ≡ seen.Busy → o.world ≡ w → Comes w n proc args s o
  comes_taken : s.next < most_transactions → length s.unanswered < most_pending → o.seen ≡ seen.Submitted (next_id s) → (after : CoordState) (outs : List Outgoing)
      → after.next ≡ s.next + 1 → after.unanswered ≡ s.unanswered ++ next_id s ∷ [] → o.world ≡ at_coord w n after outs (Submitted (next_id s) proc args ∷ []) → Comes w n proc args s o

pub comes : (plan : Plan) (w : World) (n proc : ℕ) (args : List ℤ) (s : CoordState) (o : Outcome) → IsSubmissionOf w n proc args (after_submit plan s proc args) o → Comes w n proc args s o
comes plan w n proc args s o h = go (after_submit plan s proc args) (any_submission_is plan s proc args) h
  where
    kinds : s.next < most_transactions → length s.unanswered < most_pending → (b : Bool)
        → IsSubmissionOf w n proc args (if b then accepted_view plan s (first_round (next_id s) proc args) else accepted plan s (new_transaction s proc args)) o → Comes w n proc args s o
    kinds l m true k =
        let r = accepted_view plan s (first_round (next_id s) proc args) in
        comes_taken l m (ap (λ (o : Outcome). o.seen) k) r.state r.sends refl refl (ap (λ (o : Outcome). o.world) k)
    kinds l m false k =
        let r = accepted plan s (new_transaction s proc args) in
        comes_taken l m (ap (λ (o : Outcome). o.seen) k) r.state r.sends refl refl (ap (λ (o : Outcome). o.world) k)

    go : (r : Submission) → IsAnySubmission plan s proc args r → IsSubmissionOf w n proc args r o → Comes w n proc args s o
    go r (unknown none) k = absurd k
    go r (miscounted e) k = absurd k
    go r (spent there counted l) k = comes_spent l (ap (λ (o : Outcome). o.seen) k) (ap (λ (o : Outcome). o.world) k)
    go r (busy there counted l m) k = comes_busy l m (ap (λ (o : Outcome). o.seen) k) (ap (λ (o : Outcome). o.world) k)
    go r (taken there counted l m) k = kinds l m (is_view_of plan proc) k

-- ---- a step of a coordinator

module _ (nexts : ℕ → ℕ) (w : World) (k : IsUsed nexts w) (n : ℕ) (s : CoordState) (there : slice_get w.coords n ≡ Some s) where
  -- nothing is submitted
  by_answer : (after : CoordState) (outs : List Outgoing) (a : Handled) → after.next ≡ s.next → after.unanswered ≡ left_by a s.unanswered → OfKept s.unanswered a
      → IsUsed nexts (at_coord w n after outs (answer_entries a))
  by_answer after outs a next left of =
      record {
        told = told_by_answer left_at w.coords w.history k.told n s there after a left of;
        next = λ m c e. elim (get-set_cases w.coords n m s after c there e) [
          | inl x ↦ ap (λ (c : CoordState). c.next) x.1 ∙ (next ∙ (k.next n s there ∙ (ap (λ n. nexts n + length (submitted_at n w.history)) x.0 ∙ still m)))
          | inr x ↦ k.next m c x.1 ∙ still m
        ];
        few = λ m c e. elim (get-set_cases w.coords n m s after c there e) [
          | inl x ↦
              subst HasRoom (sym x.1) (
                subst (λ n. n ≤ most_transactions) (sym next) (k.few n s there).0,
                subst (λ l. length l ≤ most_pending) (sym left) (less (length (left_by a s.unanswered)) (length s.unanswered) (fewer_left a s.unanswered) (k.few n s there).1),
              )
          | inr x ↦ k.few m c x.1
        ];
        late = λ t h. elim (has_append (Submitted t h.0 h.1) w.history (answer_entries a) h.2) [ inl x ↦ k.late t (h.0, h.1, x) | inr x ↦ absurd (no_submission a t h.0 h.1 x) ];
        submitted = λ m c e q l z. submitted_front w.history (answer_entries a) (record { coord = m; seq = q }) (elim (get-set_cases w.coords n m s after c there e) [
          | inl x ↦
              (let z = subst (λ n. q < n) (ap (λ (c : CoordState). c.next) x.1 ∙ next) z in
              subst (λ m. WasSubmitted w.history (record { coord = m; seq = q })) x.0 (k.submitted n s there q (subst (λ m. nexts m ≤ q) (sym x.0) l) z))
          | inr x ↦ k.submitted m c x.1 q l z
        ]);
      }
    where
      still : (m : ℕ) → nexts m + length (submitted_at m w.history) ≡ nexts m + length (submitted_at m (w.history ++ answer_entries a))
      still m = ap (λ l. nexts m + length l) (sym (same_told w.history a m))

      less : (x y : ℕ) → x ≤ y → y ≤ most_pending → x ≤ most_pending
      less x y h l = omega (arith, h, l)

      fewer_left : (a : Handled) (ids : List TxnId) → length (left_by a ids) ≤ length ids
      fewer_left (answer.Answered id reply) ids = fewer (λ t. not (is_txn t id)) ids
      fewer_left answer.Done ids = omega arith
      fewer_left (answer.Ignored why) ids = omega arith

  -- one is accepted
  by_submission : (proc : ℕ) (args : List ℤ) (after : CoordState) (outs : List Outgoing) → s.number ≡ n → ¬ WasSubmitted w.history (next_id s)
      → s.next < most_transactions → length s.unanswered < most_pending → after.next ≡ s.next + 1 → after.unanswered ≡ s.unanswered ++ next_id s ∷ []
      → IsUsed nexts (at_coord w n after outs (Submitted (next_id s) proc args ∷ []))
  by_submission proc args after outs number new some free next more =
      record {
        told = told_by_submission left_at w.coords w.history k.told n s there after proc args more number new;
        next = λ m c e. elim (get-set_cases w.coords n m s after c there e) [
          | inl x ↦
              ap (λ (c : CoordState). c.next) x.1
              ∙ (next
              ∙ (one_more (nexts n) (submitted_at n w.history) s.next (k.next n s there)
              ∙ (ap (λ m. nexts m + length (submitted_at m w.history ++ next_id s ∷ [])) x.0 ∙ ap (λ l. nexts m + length l) (sym (one_told w.history (next_id s) proc args m (number ∙ x.0))))))
          | inr x ↦ k.next m c x.1 ∙ ap (λ l. nexts m + length l) (sym (none_told w.history (next_id s) proc args m (λ e. x.0 (sym number ∙ e))))
        ];
        few = λ m c e. elim (get-set_cases w.coords n m s after c there e) [
          | inl x ↦
              subst HasRoom (sym x.1)
              (subst (λ n. n ≤ most_transactions) (sym next) (below s.next some), subst (λ l. length l ≤ most_pending) (sym more) (room s.unanswered free))
          | inr x ↦ k.few m c x.1
        ];
        late = λ t h. elim (has_append (Submitted t h.0 h.1) w.history (Submitted (next_id s) proc args ∷ []) h.2) [
          | inl x ↦ k.late t (h.0, h.1, x)
          | inr x ↦
              (let same = the_id t h.0 h.1 (has_one (Submitted t h.0 h.1) (Submitted (next_id s) proc args) x) in
              subst (λ (t : TxnId). nexts t.coord ≤ t.seq) (sym same) (subst (λ m. nexts m ≤ s.next) (sym number) (from_next (nexts n) (length (submitted_at n w.history)) s.next (k.next n s there))))
        ];
        submitted = λ m c e q l z. elim (get-set_cases w.coords n m s after c there e) [
          | inl x ↦
              (let z = subst (λ n. q < n) (ap (λ (c : CoordState). c.next) x.1 ∙ next) z in
              subst (λ m. WasSubmitted more_told (record { coord = m; seq = q })) x.0 (here q (subst (λ m. nexts m ≤ q) (sym x.0) l) z))
          | inr x ↦ submitted_front w.history (Submitted (next_id s) proc args ∷ []) (record { coord = m; seq = q }) (k.submitted m c x.1 q l z)
        ];
      }
    where
      more_told : List Entry
      more_told = w.history ++ Submitted (next_id s) proc args ∷ []

      the_id : (t : TxnId) (p : ℕ) (a : List ℤ) → Submitted t p a ≡ Submitted (next_id s) proc args → t ≡ next_id s
      the_id t p a e = cc

      from_next : (a n b : ℕ) → b ≡ a + n → a ≤ b
      from_next a n b e = omega (arith, e)

      here : (q : ℕ) → nexts n ≤ q → q < s.next + 1 → WasSubmitted more_told (record { coord = n; seq = q })
      here q l z = elim (cases_lt q s.next) [
        | inl low ↦ submitted_front w.history (Submitted (next_id s) proc args ∷ []) (record { coord = n; seq = q }) (k.submitted n s there q l low)
        | inr last ↦
            (let e : s.next ≡ q = omega (arith, last, z) in
            let id : next_id s ≡ record { coord = n; seq = q } = λ i. record { coord = number i; seq = e i } in
            subst (WasSubmitted more_told) id (proc, args, has_right (Submitted (next_id s) proc args) w.history (Submitted (next_id s) proc args ∷ []) (inl refl)))
      ]

      below : (x : ℕ) → x < most_transactions → x + 1 ≤ most_transactions
      below x h = omega (arith, h)

      longer : (xs : List TxnId) → length (xs ++ next_id s ∷ []) ≡ length xs + 1
      longer [] = refl
      longer (x ∷ xs) = let ih = longer xs in omega (arith, ih)

      room : (xs : List TxnId) → length xs < most_pending → length (xs ++ next_id s ∷ []) ≤ most_pending
      room xs l = let m = longer xs in omega (arith, l, m)

      one_more : (a : ℕ) (xs : List TxnId) (b : ℕ) → b ≡ a + length xs → b + 1 ≡ a + length (xs ++ next_id s ∷ [])
      one_more a xs b h = let l = longer xs in omega (arith, h, l)

-- only what is unanswered is answered
of_unanswered : (plan : Plan) (is_view : TxnId → Bool) (s : CoordState) (own : IsCoordSound is_view s) → ((v : View) → Has v s.views → Has v.id s.unanswered)
    → (msg : Msg) → OfKept s.unanswered (after_message plan s msg).answer
of_unanswered plan is_view s own views msg = go (after_message plan s msg) (message_answers plan is_view s own msg)
  where
    silent : (a : Handled) → answer_entries a ≡ [] → OfKept s.unanswered a
    silent (answer.Answered id reply) e = absurd (cc)
    silent answer.Done e = tt
    silent (answer.Ignored why) e = tt

    whose_it_is : (id : TxnId) → Has id (ids_of s.pending) ⊎ Has id (view_ids s.views) → Has id s.unanswered
    whose_it_is id whose = elim whose [
      | inl h ↦ (from_has_filter (λ (t : TxnId). not (is_view t)) id s.unanswered (subst (Has id) own.pending h)).0
      | inr h ↦ (let q = from_has_map (λ (v : View). v.id) id s.views h in subst (λ t. Has t s.unanswered) (sym q.2) (views q.0 q.1))
    ]

    go : (r : CoordStep) → Answers s r → OfKept s.unanswered r.answer
    go r (none_answered same none views) = silent r.answer none
    go r (one_answered id reply given whose less views) = subst (OfKept s.unanswered) (sym given) (whose_it_is id whose)

-- ---- any step

-- only coordinators and the history count
same_used : (nexts : ℕ → ℕ) (w v : World) → v.coords ≡ w.coords → v.history ≡ w.history → IsUsed nexts w → IsUsed nexts v
same_used nexts w v coords history k =
    record {
      told = subst (λ c. AreTold left_at c v.history) (sym coords) (subst (AreTold left_at w.coords) (sym history) k.told);
      next = λ n c e. k.next n c (subst (λ l. slice_get l n ≡ Some c) coords e) ∙ ap (λ h. nexts n + length (submitted_at n h)) (sym history);
      few = λ n c e. k.few n c (subst (λ l. slice_get l n ≡ Some c) coords e);
      late = λ t h. k.late t (subst (λ l. WasSubmitted l t) history h);
      submitted = λ n c e q l z. subst (λ h. WasSubmitted h (record { coord = n; seq = q })) (sym history) (k.submitted n c (subst (λ l. slice_get l n ≡ Some c) coords e) q l z);
    }

module _ (nexts : ℕ → ℕ) (plan : Plan) (is_view : TxnId → Bool) (w : World) (numbers : IsNumbered w) (sounds : (n : ℕ) (s : CoordState) → slice_get w.coords n ≡ Some s → IsCoordSound is_view s) (o : answering.AreTold w)
    (k : IsUsed nexts w) where
  step_used : (e : Option Event) (u : Outcome) → Transition plan w e u → IsUsed nexts u.world
  step_used None u h = subst (λ (u : Outcome). IsUsed nexts u.world) (sym h) k
  step_used (Some (Submit n proc args)) u (s, there, h) = go (comes plan w n proc args s u h)
    where
      go : Comes w n proc args s u → IsUsed nexts u.world
      go (comes_spent l e same) = subst (IsUsed nexts) (sym same) k
      go (comes_busy l m e same) = subst (IsUsed nexts) (sym same) k
      go (comes_taken l m e after outs next more is) =
          subst (IsUsed nexts) (sym is) (by_submission nexts w k n s there proc args after outs (numbers.numbers n s there) (next_is_new w numbers n s there) l m next more)
  step_used (Some (Deliver j)) u (m, some, there, h) = go m.to h
    where
      go : (to : Node) → IsReceived plan (mark_delivered w j) m.msg to u → IsUsed nexts u.world
      go (Server shard) x = same_used nexts w u.world (ap (λ (u : Outcome). u.world.coords) x.is) (ap (λ (u : Outcome). u.world.history) x.is) k
      go (Coord n) (s, at, e) =
          let r = after_message plan s m.msg in
          subst (λ (u : Outcome). IsUsed nexts u.world) (sym e)
          (by_answer nexts (mark_delivered w j) (same_used nexts w (mark_delivered w j) refl refl k) n s at r.state r.sends r.answer (keeps_number plan s m.msg).next (unanswered_left plan s m.msg)
          (of_unanswered plan is_view s (sounds n s at) (o.views n s at) m.msg))
  step_used (Some (Tick (Server shard))) u (s, z, there, keeps, e) = same_used nexts w u.world (ap (λ (u : Outcome). u.world.coords) e) (ap (λ (u : Outcome). u.world.history) e) k
  step_used (Some (Tick (Coord n))) u (s, there, e) = same_used nexts w u.world (ap (λ (u : Outcome). u.world.coords) e) (ap (λ (u : Outcome). u.world.history) e) k
  step_used (Some (Stop shard during)) u x = let z = stop_keeps plan w shard.0 during u x in same_used nexts w u.world z.1 z.0 k

-- ---- runs

module _ (plan : Plan) (b : Beginning) (begins : IsViewBeginning plan b) (coords : ℕ) (is_view : TxnId → Bool) where
  abbrev nexts : ℕ → ℕ
  nexts = b.of_transactions.nexts

  pub run_used : (steps : List Stepped) (w : World) → IsRunFrom plan b coords steps w → TellsViews plan is_view w.history → IsUsed b.of_transactions.nexts w
  run_used steps w at_beginning tells =
      record {
        told = record { each = λ n c h. ap (λ (c : CoordState). c.unanswered) (first n c h); answered = λ t reply h. absurd h };
        next = λ n c h. (let e = ap (λ (c : CoordState). c.next) (first n c h) in no_more (nexts n) c.next e);
        few = λ n c h. subst HasRoom (sym (first n c h)) (begins.of_transactions.few n, omega arith);
        late = λ t h. absurd h.2;
        submitted = λ n c h q l z. absurd (let e = ap (λ (c : CoordState). c.next) (first n c h) in never (nexts n) q c.next e l z);
      }
    where
      never : (a q b : ℕ) → b ≡ a → a ≤ q → q < b → ⊥
      never a q b e l m = omega (arith, e, l, m)

      no_more : (a b : ℕ) → b ≡ a → b ≡ a + 0
      no_more a b e = omega (arith, e)

      first : (n : ℕ) (c : CoordState) → slice_get (begun_world plan b coords).coords n ≡ Some c → c ≡ protocol.begun_coord b.of_transactions n
      first n c h = let same : 0 + n ≡ n = omega arith in found_at (protocol.begun_coord b.of_transactions) 0 coords n c h ∙ ap (protocol.begun_coord b.of_transactions) same
  run_used steps w (steps_on {w = v} e o r h) tells =
      let g = grows plan v e o h in
      let before = tells_before plan is_view v.history g.more (subst (TellsViews plan is_view) g.is tells) in
      step_used nexts plan is_view v (numbered plan b coords _ v r) (beside plan b coords is_view _ v r before).holds.coords (told_in_runs plan b coords is_view _ v r before)
      (run_used _ v r before) e o h

-- ---- how a submission ends

module _ (nexts : ℕ → ℕ) (plan : Plan) (w : World) (k : IsUsed nexts w) (n proc : ℕ) (args : List ℤ) (o : Outcome) (s : CoordState) (there : slice_get w.coords n ≡ Some s) where
  abbrev Used : ℕ
  Used = nexts n + length (submitted_at n w.history)

  abbrev Left : ℕ
  Left = length (unanswered_at n w.history)

  same_when : (a b k : ℕ) → a ≡ k → a ≤ b → b ≤ a → k ≡ b
  same_when a b k e f g = omega (arith, e, f, g)

  apart : (a b k : ℕ) → a ≡ k → k ≡ b → a < b → ⊥
  apart a b k e f g = omega (arith, e, f, g)

  below : (a b k : ℕ) → a ≡ k → a < b → k < b
  below a b k e f = omega (arith, e, f)

  not_below : (a b k : ℕ) → a ≡ k → b ≤ a → k < b → ⊥
  not_below a b k e f g = omega (arith, e, f, g)

  next : s.next ≡ Used
  next = k.next n s there

  left : length s.unanswered ≡ Left
  left = ap length (k.told.each n s there)

  spent_when : Comes w n proc args s o → (o.seen ≡ seen.Spent) ↔ (nexts n + length (submitted_at n w.history) ≡ most_transactions)
  spent_when (comes_spent l e same) = (λ z. same_when s.next most_transactions Used next (k.few n s there).0 l, λ z. e)
  spent_when (comes_busy l m e same) = (λ z. absurd (cc), λ z. absurd (apart s.next most_transactions Used next z l))
  spent_when (comes_taken l m e after outs f g is) = (λ z. absurd (cc), λ z. absurd (apart s.next most_transactions Used next z l))

  busy_when : Comes w n proc args s o → (o.seen ≡ seen.Busy) ↔ ((nexts n + length (submitted_at n w.history) < most_transactions) × (length (unanswered_at n w.history) ≡ most_pending))
  busy_when (comes_spent l e same) = (λ z. absurd (cc), λ z. absurd (not_below s.next most_transactions Used next l z.0))
  busy_when (comes_busy l m e same) = (λ z. (below s.next most_transactions Used next l, same_when (length s.unanswered) most_pending Left left (k.few n s there).1 m), λ z. e)
  busy_when (comes_taken l m e after outs f g is) = (λ z. absurd (cc), λ z. absurd (apart (length s.unanswered) most_pending Left left z.1 m))

module _ (nexts : ℕ → ℕ) (plan : Plan) (w : World) (k : IsUsed nexts w) (n proc : ℕ) (args : List ℤ) (o : Outcome) where
  pub spent_told : Happens plan w (Submit n proc args) o → (o.seen ≡ seen.Spent) ↔ (nexts n + length (submitted_at n w.history) ≡ most_transactions)
  spent_told (s, there, h) = spent_when nexts plan w k n proc args o s there (comes plan w n proc args s o h)

  pub busy_told : Happens plan w (Submit n proc args) o → (o.seen ≡ seen.Busy) ↔ ((nexts n + length (submitted_at n w.history) < most_transactions) × (length (unanswered_at n w.history) ≡ most_pending))
  busy_told (s, there, h) = busy_when nexts plan w k n proc args o s there (comes plan w n proc args s o h)
