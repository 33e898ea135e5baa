-- What each submission of a run has, also of views: a sequence from that on which its coordinator began, and a procedure that is there
use Rattle.std.proofs.Common.{◌≡◌, ◌∙◌, inl, inr, ℕ, ℤ, ◌+◌, ◌<◌, ◌≤◌, Bool, true, false, List, [], ◌∷◌, ◌++◌, Option, Some, None, length, refl, sym, ap, subst, arith}
use Rattle.std.specs.Prelude.{slice_get, slice_set, if◌then◌else◌}
use Rattle.roc_sequence.specs.Lists.{Has}
use Rattle.roc_sequence.proofs.Members.{has_append, has_one}
use Rattle.roc_base.specs.declared.id.TxnId.{TxnId}
use Rattle.roc_base.specs.declared.node.Node.{Node}
use Rattle.roc_base.specs.declared.node.Node.TheVariants.{Server, Coord}
use Rattle.roc_msg.specs.declared.outbox.Outgoing.{Outgoing}
use Rattle.roc_plan.specs.Groups.{Plan, is_view_of, procedure_of}
use Rattle.roc_coord.specs.State.{CoordState}
use Rattle.roc_coord.specs.Step.{after_message}
use Rattle.roc_coord.specs.Submit.{next_id, new_transaction, accepted, accepted_view, after_submit, Submission}
use Rattle.roc_readonly.specs.Round.{first_round}
use Rattle.roc_audit.specs.declared.entry.Entry.{Entry}
use Rattle.roc_audit.specs.declared.entry.Entry.TheVariants.{Submitted}
use Rattle.roc_law_protocol.specs.Beginnings as protocol
use Rattle.roc_law_protocol.specs.declared.event.Event.{Event}
use Rattle.roc_law_protocol.specs.declared.event.Event.TheVariants.{Submit, Deliver, Tick, Stop}
use Rattle.roc_law_protocol.specs.Happens.{answer_entries}
use Rattle.roc_law_protocol.proofs.Firsts.{found_at}
use Rattle.roc_law_protocol.proofs.Submissions.{keeps_number, no_submission}
use Rattle.roc_law_protocol.proofs.SubmissionEnds.{IsAnySubmission, any_submission_is, unknown, miscounted, spent, busy, taken}
use Rattle.roc_law_world.specs.World.{World, Beginning, begun_world, mark_delivered, at_coord}
use Rattle.roc_law_world.specs.Happens.{Outcome, IsReceived, IsSubmissionOf}
use Rattle.roc_law_world.specs.Run.{Stepped, Transition, IsRunFrom, at_beginning, steps_on}
use Rattle.roc_law_world.proofs.Numbered.{IsNumbered, numbered}
use Rattle.roc_law_world.proofs.Stops.{stop_keeps}
use Rattle.roc_law_protocol.proofs.Changed.{get-set_cases}

module _ (plan : Plan) (b : Beginning) (coords : ℕ) where
  pub record IsLate (w : World) : Type 0 where
    pub nexts : (n : ℕ) (c : CoordState) → slice_get w.coords n ≡ Some c → b.of_transactions.nexts n ≤ c.next
    pub late : (t : TxnId) (p : ℕ) (a : List ℤ) → Has (Submitted t p a) w.history → b.of_transactions.nexts t.coord ≤ t.seq
    pub known : (t : TxnId) (p : ℕ) (a : List ℤ) → Has (Submitted t p a) w.history → (p < length plan.program.procedures) × (length a ≡ (procedure_of plan p).arguments)

  -- a coordinator takes a step
  stepped : (w : World) → IsLate w → (n : ℕ) (s after : CoordState) → slice_get w.coords n ≡ Some s → s.next ≤ after.next → (u : World) → u.coords ≡ slice_set w.coords n after
      → (told : List Entry) → u.history ≡ w.history ++ told
      → ((t : TxnId) (p : ℕ) (a : List ℤ) → Has (Submitted t p a) told
      → (b.of_transactions.nexts t.coord ≤ t.seq) × (p < length plan.program.procedures) × (length a ≡ (procedure_of plan p).arguments))
      → IsLate u
  stepped w o n s after there next u coords_are told history new =
      record {
        nexts = λ k c at. elim (get-set_cases w.coords n k s after c there (subst (λ l. slice_get l k ≡ Some c) coords_are at)) [
          | inl e ↦
              (let low = o.nexts n s there in
              let up : b.of_transactions.nexts n ≤ after.next = omega arith in
              subst (λ (c : CoordState). b.of_transactions.nexts k ≤ c.next) (sym e.1) (subst (λ k. b.of_transactions.nexts k ≤ after.next) e.0 up))
          | inr e ↦ o.nexts k c e.1
        ];
        late = λ t p a h. elim (has_append (Submitted t p a) w.history told (subst (Has (Submitted t p a)) history h)) [ inl k ↦ o.late t p a k | inr k ↦ (new t p a k).0 ];
        known = λ t p a h. elim (has_append (Submitted t p a) w.history told (subst (Has (Submitted t p a)) history h)) [
          | inl k ↦ o.known t p a k
          | inr k ↦ (let r = new t p a k in (r.1, r.2))
        ];
      }

  step : (w : World) → IsNumbered w → IsLate w → (e : Option Event) (u : Outcome) → Transition plan w e u → IsLate u.world
  step w numbers o None u h = subst (λ (u : Outcome). IsLate u.world) (sym h) o
  step w numbers o (Some (Submit n proc args)) u (s, there, h) = go (after_submit plan s proc args) (any_submission_is plan s proc args) h
    where
      more : proc < length plan.program.procedures → length args ≡ (procedure_of plan proc).arguments → (after : CoordState) → after.next ≡ s.next + 1 → (outs : List Outgoing)
          → IsLate (at_coord w n after outs (Submitted (next_id s) proc args ∷ []))
      more there_is counted after next outs =
          stepped w o n s after there (omega (arith, next)) (at_coord w n after outs (Submitted (next_id s) proc args ∷ [])) refl (Submitted (next_id s) proc args ∷ []) refl new
        where
          the_parts : (t : TxnId) (p : ℕ) (a : List ℤ) → Submitted t p a ≡ Submitted (next_id s) proc args → (t ≡ next_id s) × ((p ≡ proc) × (a ≡ args))
          the_parts t p a e = (cc, (cc, cc))

          new : (t : TxnId) (p : ℕ) (a : List ℤ) → Has (Submitted t p a) (Submitted (next_id s) proc args ∷ [])
              → (b.of_transactions.nexts t.coord ≤ t.seq) × (p < length plan.program.procedures) × (length a ≡ (procedure_of plan p).arguments)
          new t p a h =
              let e = the_parts t p a (has_one (Submitted t p a) (Submitted (next_id s) proc args) h) in
              let low = subst (λ k. b.of_transactions.nexts k ≤ s.next) (sym (numbers.numbers n s there)) (o.nexts n s there) in (
                subst (λ (t : TxnId). b.of_transactions.nexts t.coord ≤ t.seq) (sym e.0) low,
                subst (λ p. p < length plan.program.procedures) (sym e.1.0) there_is,
                (λ i. length (e.1.1 i)) ∙ (counted ∙ ap (λ p. (procedure_of plan p).arguments) (sym e.1.0)),
              )

      kinds : proc < length plan.program.procedures → length args ≡ (procedure_of plan proc).arguments → (c : Bool)
          → IsSubmissionOf w n proc args (if c then accepted_view plan s (first_round (next_id s) proc args) else accepted plan s (new_transaction s proc args)) u → IsLate u.world
      kinds there_is counted true k = subst (λ (u : Outcome). IsLate u.world) (sym k) (more there_is counted (accepted_view plan s (first_round (next_id s) proc args)).state refl _)
      kinds there_is counted false k = subst (λ (u : Outcome). IsLate u.world) (sym k) (more there_is counted (accepted plan s (new_transaction s proc args)).state refl _)

      go : (r : Submission) → IsAnySubmission plan s proc args r → IsSubmissionOf w n proc args r u → IsLate u.world
      go r (unknown none) k = absurd k
      go r (miscounted e) k = absurd k
      go r (spent there_is counted l) k = subst (λ (u : Outcome). IsLate u.world) (sym k) o
      go r (busy there_is counted l m) k = subst (λ (u : Outcome). IsLate u.world) (sym k) o
      go r (taken there_is counted l m) k = kinds there_is counted (is_view_of plan proc) k
  step w numbers o (Some (Deliver k)) u (m, some, there, h) = go m.to h
    where
      go : (to : Node) → IsReceived plan (mark_delivered w k) m.msg to u → IsLate u.world
      go (Server shard) g = subst (λ (u : Outcome). IsLate u.world) (sym g.is) (record { nexts = o.nexts; late = o.late; known = o.known })
      go (Coord n) (s, at, e) =
          let r = after_message plan s m.msg in
          let next = (keeps_number plan s m.msg).next in
          subst (λ (u : Outcome). IsLate u.world) (sym e)
          (stepped w o n s r.state at (omega (arith, next)) (at_coord (mark_delivered w k) n r.state r.sends (answer_entries r.answer)) refl (answer_entries r.answer) refl
          (λ t p a i. absurd (no_submission r.answer t p a i)))
  step w numbers o (Some (Tick (Server shard))) u (s, v, there, keeps, e) = subst (λ (u : Outcome). IsLate u.world) (sym e) (record { nexts = o.nexts; late = o.late; known = o.known })
  step w numbers o (Some (Tick (Coord n))) u (s, there, e) = subst (λ (u : Outcome). IsLate u.world) (sym e) (record { nexts = o.nexts; late = o.late; known = o.known })
  step w numbers o (Some (Stop shard during)) u x =
      let k = stop_keeps plan w shard.0 during u x in
      record {
        nexts = λ n c at. o.nexts n c (subst (λ l. slice_get l n ≡ Some c) k.1 at);
        late = λ t p a h. o.late t p a (subst (Has (Submitted t p a)) k.0 h);
        known = λ t p a h. o.known t p a (subst (Has (Submitted t p a)) k.0 h);
      }

  begun : IsLate (begun_world plan b coords)
  begun =
      record {
        nexts = λ n c at.
            (let same : 0 + n ≡ n = omega arith in
            subst (λ (c : CoordState). b.of_transactions.nexts n ≤ c.next) (sym (found_at (protocol.begun_coord b.of_transactions) 0 coords n c at))
            (subst (λ k. b.of_transactions.nexts n ≤ b.of_transactions.nexts k) (sym same) (omega arith)));
        late = λ t p a h. absurd h;
        known = λ t p a h. absurd h;
      }

  pub run_late : (steps : List Stepped) (w : World) → IsRunFrom plan b coords steps w → IsLate w
  run_late steps w at_beginning = begun
  run_late steps w (steps_on {w = v} e o r h) = step v (numbered plan b coords _ v r) (run_late _ v r) e o h
