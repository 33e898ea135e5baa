-- Each submission of a history has an id of its own
use Rattle.std.proofs.Common.{◌≡◌, ◌≢◌, ◌∙◌, ◌⊎◌, inl, inr, ℕ, ℤ, ◌+◌, ◌<◌, ◌≤◌, Bool, true, false, List, [], ◌∷◌, ◌++◌, Option, Some, None, refl, sym, ap, subst, arith}
use Rattle.std.proofs.lemmas.Bool.{cases_eq}
use Rattle.std.specs.Prelude.{slice_get, slice_set, if◌then◌else◌}
use Rattle.roc_sequence.specs.Lists.{Has}
use Rattle.roc_sequence.proofs.Members.{has_append, has_one}
use Rattle.roc_base.specs.declared.id.TxnId.{TxnId}
use Rattle.roc_base.specs.declared.node.Node.{Node}
use Rattle.roc_base.specs.declared.node.Node.TheVariants.{Server, Coord}
use Rattle.roc_msg.specs.declared.outbox.Outgoing.{Outgoing}
use Rattle.roc_plan.specs.Groups.{Plan, is_view_of}
use Rattle.roc_coord.specs.declared.handled.SubmitFault.{SubmitFault}
use Rattle.roc_coord.specs.declared.handled.SubmitFault.TheVariants as fault
use Rattle.roc_coord.specs.State.{CoordState}
use Rattle.roc_coord.specs.Step.{after_message}
use Rattle.roc_coord.specs.Submit.{next_id, new_transaction, accepted, accepted_view, refusal_of, refused_or_accepted}
use Rattle.roc_readonly.specs.Round.{first_round}
use Rattle.roc_audit.specs.declared.entry.Entry.{Entry}
use Rattle.roc_audit.specs.declared.entry.Entry.TheVariants.{Submitted}
use Rattle.roc_law_protocol.specs.Beginnings as protocol
use Rattle.roc_law_protocol.specs.declared.event.Event.{Event}
use Rattle.roc_law_protocol.specs.declared.event.Event.TheVariants.{Submit, Deliver, Tick, Stop}
use Rattle.roc_law_protocol.specs.Happens.{answer_entries}
use Rattle.roc_law_protocol.proofs.Firsts.{found_at}
use Rattle.roc_law_world.specs.World.{World, Beginning, mark_delivered, at_coord}
use Rattle.roc_law_world.specs.Happens.{Outcome, IsReceived, IsSubmissionOf}
use Rattle.roc_law_world.specs.Run.{Stepped, Transition, IsRunFrom, at_beginning, steps_on}
use Rattle.roc_law_protocol.proofs.Submissions.{keeps_number, no_submission}
use Rattle.roc_law_world.proofs.Stops.{by_losing}
use Rattle.roc_law_protocol.proofs.Changed.{get-set_here, get-set_other, get-set_cases}

-- what was submitted has a sequence that its coordinator used, and was submitted once
pub record IsNumbered (w : World) : Type 0 where
  pub numbers : (n : ℕ) (c : CoordState) → slice_get w.coords n ≡ Some c → c.number ≡ n
  pub given : (t : TxnId) (p : ℕ) (a : List ℤ) → Has (Submitted t p a) w.history → (c : CoordState) × (slice_get w.coords t.coord ≡ Some c) × (t.seq < c.next)
  pub one : (t : TxnId) (p q : ℕ) (a b : List ℤ) → Has (Submitted t p a) w.history → Has (Submitted t q b) w.history → (p ≡ q) × (a ≡ b)

found_one : (a b : CoordState) → Some a ≡ Some b → a ≡ b
found_one a b e = cc

-- a coordinator takes a step by which nothing is submitted
still : (w : World) (o : IsNumbered w) (n : ℕ) (s after : CoordState) → slice_get w.coords n ≡ Some s → after.number ≡ s.number → s.next ≤ after.next → (u : World) → u.coords ≡ slice_set w.coords n after
    → (told : List Entry) → u.history ≡ w.history ++ told → ((t : TxnId) (p : ℕ) (a : List ℤ) → ¬ Has (Submitted t p a) told) → IsNumbered u
still w o n s after there number next u coords told history none =
    record {
      numbers = λ k c at. elim (get-set_cases w.coords n k s after c there (subst (λ l. slice_get l k ≡ Some c) coords at)) [
        | inl e ↦ ap (λ (c : CoordState). c.number) e.1 ∙ (number ∙ (o.numbers n s there ∙ e.0))
        | inr e ↦ o.numbers k c e.1
      ];
      given = λ t p a h. go t (o.given t p a (was t p a h)) (cases_eq n t.coord);
      one = λ t p q a b h i. o.one t p q a b (was t p a h) (was t q b i);
    }
  where
    was : (t : TxnId) (p : ℕ) (a : List ℤ) → Has (Submitted t p a) u.history → Has (Submitted t p a) w.history
    was t p a h = elim (has_append (Submitted t p a) w.history told (subst (λ l. Has (Submitted t p a) l) history h)) [ inl k ↦ k | inr k ↦ absurd (none t p a k) ]

    go : (t : TxnId) → (c : CoordState) × (slice_get w.coords t.coord ≡ Some c) × (t.seq < c.next) → (n ≡ t.coord) ⊎ (n ≢ t.coord) → (c : CoordState) × (slice_get u.coords t.coord ≡ Some c) × (t.seq < c.next)
    go t g (inl e) =
        let same : g.0 ≡ s = found_one g.0 s (sym (subst (λ k. slice_get w.coords k ≡ Some g.0) (sym e) g.1) ∙ there) in
        let low = subst (λ (c : CoordState). t.seq < c.next) same g.2 in
        (after, subst (λ l. slice_get l t.coord ≡ Some after) (sym coords) (subst (λ k. slice_get (slice_set w.coords n after) k ≡ Some after) e (get-set_here w.coords n s after there)), omega arith)
    go t g (inr other) = (g.0, subst (λ l. slice_get l t.coord ≡ Some g.0) (sym coords) (get-set_other w.coords n t.coord after other ∙ g.1), g.2)

-- and where something is
more : (w : World) (o : IsNumbered w) (n : ℕ) (s after : CoordState) → slice_get w.coords n ≡ Some s → after.number ≡ s.number → after.next ≡ s.next + 1 → (proc : ℕ) (args : List ℤ) (outs : List Outgoing)
    → IsNumbered (at_coord w n after outs (Submitted (next_id s) proc args ∷ []))
more w o n s after there number next proc args outs =
    record {
      numbers = λ k c at. elim (get-set_cases w.coords n k s after c there at) [
        | inl e ↦ ap (λ (c : CoordState). c.number) e.1 ∙ (number ∙ (o.numbers n s there ∙ e.0))
        | inr e ↦ o.numbers k c e.1
      ];
      given = λ t p a h. elim (has_append (Submitted t p a) w.history (Submitted (next_id s) proc args ∷ []) h) [
        | inl k ↦ go t (o.given t p a k) (cases_eq n t.coord)
        | inr k ↦
            (let same = (the_parts t (next_id s) p proc a args (has_one (Submitted t p a) (Submitted (next_id s) proc args) k)).0 in
            subst (λ (t : TxnId). (c : CoordState) × (slice_get (slice_set w.coords n after) t.coord ≡ Some c) × (t.seq < c.next)) (sym same)
            (after, subst (λ k. slice_get (slice_set w.coords n after) k ≡ Some after) (sym (o.numbers n s there)) (get-set_here w.coords n s after there), omega (arith, next)))
      ];
      one = λ t p q a b h i. both t p q a b (has_append (Submitted t p a) w.history (Submitted (next_id s) proc args ∷ []) h) (has_append (Submitted t q b) w.history (Submitted (next_id s) proc args ∷ []) i);
    }
  where
    the_parts : (a b : TxnId) (p q : ℕ) (x y : List ℤ) → Submitted a p x ≡ Submitted b q y → (a ≡ b) × ((p ≡ q) × (x ≡ y))
    the_parts a b p q x y e = (cc, (cc, cc))

    go : (t : TxnId) → (c : CoordState) × (slice_get w.coords t.coord ≡ Some c) × (t.seq < c.next) → (n ≡ t.coord) ⊎ (n ≢ t.coord) → (c : CoordState) × (slice_get (slice_set w.coords n after) t.coord ≡ Some c) × (t.seq < c.next)
    go t g (inl e) =
        let same : g.0 ≡ s = found_one g.0 s (sym (subst (λ k. slice_get w.coords k ≡ Some g.0) (sym e) g.1) ∙ there) in
        let low = subst (λ (c : CoordState). t.seq < c.next) same g.2 in
        (after, subst (λ k. slice_get (slice_set w.coords n after) k ≡ Some after) e (get-set_here w.coords n s after there), omega (arith, low, next))
    go t g (inr other) = (g.0, get-set_other w.coords n t.coord after other ∙ g.1, g.2)

    -- the new id was not submitted
    fresh : (p : ℕ) (a : List ℤ) → ¬ Has (Submitted (next_id s) p a) w.history
    fresh p a h =
        let g = o.given (next_id s) p a h in
        let same : g.0 ≡ s = found_one g.0 s (sym (subst (λ k. slice_get w.coords k ≡ Some g.0) (o.numbers n s there) g.1) ∙ there) in
        let low : s.next < s.next = subst (λ (c : CoordState). s.next < c.next) same g.2 in
        omega arith

    both : (t : TxnId) (p q : ℕ) (a b : List ℤ) → Has (Submitted t p a) w.history ⊎ Has (Submitted t p a) (Submitted (next_id s) proc args ∷ []) → Has (Submitted t q b) w.history ⊎ Has (Submitted t q b) (Submitted (next_id s) proc args ∷ [])
        → (p ≡ q) × (a ≡ b)
    both t p q a b (inl h) (inl i) = o.one t p q a b h i
    both t p q a b (inl h) (inr i) = absurd (fresh p a (subst (λ t. Has (Submitted t p a) w.history) (the_parts t (next_id s) q proc b args (has_one (Submitted t q b) (Submitted (next_id s) proc args) i)).0 h))
    both t p q a b (inr h) (inl i) = absurd (fresh q b (subst (λ t. Has (Submitted t q b) w.history) (the_parts t (next_id s) p proc a args (has_one (Submitted t p a) (Submitted (next_id s) proc args) h)).0 i))
    both t p q a b (inr h) (inr i) =
        let x = the_parts t (next_id s) p proc a args (has_one (Submitted t p a) (Submitted (next_id s) proc args) h) in
        let y = the_parts t (next_id s) q proc b args (has_one (Submitted t q b) (Submitted (next_id s) proc args) i) in
        (x.1.0 ∙ sym y.1.0, x.1.1 ∙ sym y.1.1)

pub numbered_step : (plan : Plan) (w : World) → IsNumbered w → (e : Option Event) (o : Outcome) → Transition plan w e o → IsNumbered o.world
numbered_step plan w o None u h = subst (λ (u : Outcome). IsNumbered u.world) (sym h) o
numbered_step plan w o (Some (Submit n proc args)) u (s, there, h) = go (refusal_of plan s proc args) h
  where
    kinds : (b : Bool) → IsSubmissionOf w n proc args (if b then accepted_view plan s (first_round (next_id s) proc args) else accepted plan s (new_transaction s proc args)) u → IsNumbered u.world
    kinds true k = subst (λ (u : Outcome). IsNumbered u.world) (sym k) (more w o n s (accepted_view plan s (first_round (next_id s) proc args)).state there refl refl proc args _)
    kinds false k = subst (λ (u : Outcome). IsNumbered u.world) (sym k) (more w o n s (accepted plan s (new_transaction s proc args)).state there refl refl proc args _)

    go : (r : Option SubmitFault) → IsSubmissionOf w n proc args (refused_or_accepted plan s proc args r) u → IsNumbered u.world
    go None k = kinds (is_view_of plan proc) k
    go (Some fault.Spent) k = subst (λ (u : Outcome). IsNumbered u.world) (sym k) o
    go (Some fault.Busy) k = subst (λ (u : Outcome). IsNumbered u.world) (sym k) o
    go (Some fault.NoProc) k = absurd k
    go (Some fault.Args) k = absurd k
    go (Some fault.NoMemory) k = absurd k
numbered_step plan w o (Some (Deliver k)) u (m, some, there, h) = go m.to h
  where
    go : (to : Node) → IsReceived plan (mark_delivered w k) m.msg to u → IsNumbered u.world
    go (Server shard) g = subst (λ (u : Outcome). IsNumbered u.world) (sym g.is) (record { numbers = o.numbers; given = o.given; one = o.one })
    go (Coord n) (s, at, e) =
        let r = after_message plan s m.msg in
        let kept = keeps_number plan s m.msg in
        let next = kept.next in
        subst (λ (u : Outcome). IsNumbered u.world) (sym e)
        (still (mark_delivered w k) (record { numbers = o.numbers; given = o.given; one = o.one }) n s r.state at kept.number (omega (arith, next)) (at_coord (mark_delivered w k) n r.state r.sends (answer_entries r.answer)) refl
        (answer_entries r.answer) refl (no_submission r.answer))
numbered_step plan w o (Some (Tick (Server shard))) u (s, v, there, keeps, e) = subst (λ (u : Outcome). IsNumbered u.world) (sym e) (record { numbers = o.numbers; given = o.given; one = o.one })
numbered_step plan w o (Some (Tick (Coord n))) u (s, there, e) = subst (λ (u : Outcome). IsNumbered u.world) (sym e) (record { numbers = o.numbers; given = o.given; one = o.one })
numbered_step plan w o (Some (Stop shard during)) u x =
    by_losing plan w shard.0 during u x IsNumbered o (λ k m sent. record { numbers = o.numbers; given = o.given; one = o.one })
    (λ k m s v r q sent there keeps handles answers servers ran. record { numbers = o.numbers; given = o.given; one = o.one }) (λ u sent undelivered viewing l o. record { numbers = o.numbers; given = o.given; one = o.one })
    (λ v s z o there keeps. record { numbers = o.numbers; given = o.given; one = o.one })

pub numbered : (plan : Plan) (b : Beginning) (coords : ℕ) (steps : List Stepped) (w : World) → IsRunFrom plan b coords steps w → IsNumbered w
numbered plan b coords steps w at_beginning =
    record {
      numbers = λ n c at. let e = found_at (protocol.begun_coord b.of_transactions) 0 coords n c at in ap (λ (c : CoordState). c.number) e ∙ zero_more n;
      given = λ t p a h. absurd h;
      one = λ t p q a b h i. absurd h;
    }
  where
    zero_more : (n : ℕ) → 0 + n ≡ n
    zero_more n = omega arith
numbered plan b coords steps w (steps_on {w = v} e o r h) = numbered_step plan v (numbered plan b coords _ v r) e o h
