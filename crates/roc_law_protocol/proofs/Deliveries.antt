-- What was delivered is among the undelivered no more
use Rattle.std.proofs.Common.{◌≡◌, ℕ, zero, suc, ◌+◌, ◌-◌, ◌<◌, ◌≤◌, ◌==◌, true, not, List, [], ◌∷◌, ◌++◌, Option, Some, None, length, map, refl, sym, ap, subst, ◌∙◌, ◌⊎◌, inl, inr, arith}
use Rattle.std.proofs.lemmas.Bool.{false≢true, eq-eqb}
use Rattle.std.proofs.lemmas.List.{length-append, map-append}
use Rattle.std.proofs.lemmas.Option.{slice_get_within}
use Rattle.std.specs.List.{range_with_len}
use Rattle.roc_sequence.specs.Lists.{Has}
use Rattle.roc_sequence.proofs.Members.{has_append, has_right, has_one, from_has_filter}
use Rattle.roc_base.specs.declared.node.Node.{Node}
use Rattle.roc_base.specs.declared.node.Node.TheVariants.{Server, Coord}
use Rattle.roc_msg.specs.declared.msg.Msg.{Msg}
use Rattle.roc_msg.specs.declared.outbox.Outgoing.{Outgoing}
use Rattle.roc_plan.specs.Groups.{Plan}
use Rattle.roc_coord.specs.Step.{after_message}
use Rattle.roc_law_protocol.specs.declared.event.Event.{Event}
use Rattle.roc_law_protocol.specs.declared.event.Event.TheVariants.{Submit, Deliver, Tick, Stop}
use Rattle.roc_law_protocol.specs.Beginnings.{Beginning}
use Rattle.roc_law_protocol.specs.World.{World, sent_by, mark_delivered}
use Rattle.roc_law_protocol.specs.Happens.{Outcome, IsReceived}
use Rattle.roc_law_protocol.specs.Run.{Stepped}
use Rattle.roc_law_protocol.specs.Beside.{Moves, IsRunBeside, beside_begins, beside_goes_on}
use Rattle.roc_law_protocol.specs.Quiet.{WasDelivered, Counts}
use Rattle.roc_law_protocol.proofs.Stops.{by_stop}
use Rattle.roc_law_protocol.proofs.AcceptedSubmissions.{Submitting, is_refused, is_accepted, submitting}

-- ---- what a network is later

-- it has more messages, and what was not delivered then was not before, or is new
pub record Grown (w v : World) : Type 0 where
  pub longer : length w.sent ≤ length v.sent
  pub were : (k : ℕ) → Has k v.undelivered → Has k w.undelivered ⊎ (length w.sent < k)

grown_same : (w : World) → Grown w w
grown_same w = record { longer = omega arith; were = λ k h. inl h }

grown_on : (u v w : World) → Grown u v → Grown v w → Grown u w
grown_on u v w a b =
    record {
      longer = (let x = a.longer in let y = b.longer in omega arith);
      were = λ k h. elim (b.were k h) [ inl j ↦ a.were k j | inr l ↦ inr (let x = a.longer in omega arith) ];
    }

pub range_from : (a n k : ℕ) → Has k (range_with_len a n) → a ≤ k
range_from a zero k h = elim h [ ]
range_from a (suc n) k (inl e) = omega (arith, e)
range_from a (suc n) k (inr h) = let l = range_from (a + 1) n k h in omega arith

grown_sends : (w v : World) (from : Node) (outs : List Outgoing) → v.sent ≡ w.sent ++ map (sent_by from) outs → v.undelivered ≡ w.undelivered ++ range_with_len (length w.sent + 1) (length outs) → Grown w v
grown_sends w v from outs sent undelivered =
    record {
      longer = (let e = ap length sent ∙ length-append w.sent (map (sent_by from) outs) in omega arith);
      were = λ k h. elim (has_append k w.undelivered (range_with_len (length w.sent + 1) (length outs)) (subst (Has k) undelivered h)) [
        | inl j ↦ inl j
        | inr j ↦ inr (let l = range_from (length w.sent + 1) (length outs) k j in omega arith)
      ];
    }

grown_comes : (w : World) (k : ℕ) → Grown w (mark_delivered w k)
grown_comes w k = record { longer = omega arith; were = λ j h. inl (from_has_filter (λ n. not (n == k)) j w.undelivered h).0 }

grown_received : (plan : Plan) (w : World) (msg : Msg) (to : Node) (o : Outcome) → IsReceived plan w msg to o → Grown w o.world
grown_received plan w msg (Server shard) o (s, r, there, step, e) = subst (λ (o : Outcome). Grown w o.world) (sym e) (grown_sends w _ (Server shard) r.sends refl refl)
grown_received plan w msg (Coord n) o (s, there, e) = subst (λ (o : Outcome). Grown w o.world) (sym e) (grown_sends w _ (Coord n) (after_message plan s msg).sends refl refl)

grown_step : (plan : Plan) (w : World) (e : Option Event) (o : Outcome) → Moves plan w e o → Grown w o.world
grown_step plan w None o (inl h) = subst (λ (o : Outcome). Grown w o.world) (sym h) (grown_same w)
grown_step plan w None o (inr x) = subst (λ (o : Outcome). Grown w o.world) (sym x.is) (grown_sends w _ (Coord x.number) x.sends refl refl)
grown_step plan w (Some (Submit n proc args)) o (s, there, h) = go (submitting plan w n proc args s o h)
  where
    go : Submitting plan w n proc args s o → Grown w o.world
    go (is_refused e) = subst (Grown w) (sym e) (grown_same w)
    go (is_accepted known counted e) = subst (Grown w) (sym e) (grown_sends w _ (Coord n) _ refl refl)
grown_step plan w (Some (Deliver k)) o (m, some, there, h) = grown_on w (mark_delivered w k) o.world (grown_comes w k) (grown_received plan (mark_delivered w k) m.msg m.to o h)
grown_step plan w (Some (Tick (Server shard))) o (s, there, e) = subst (λ (o : Outcome). Grown w o.world) (sym e) (grown_sends w _ (Server shard) _ refl refl)
grown_step plan w (Some (Tick (Coord n))) o (s, there, e) = subst (λ (o : Outcome). Grown w o.world) (sym e) (grown_sends w _ (Coord n) _ refl refl)
grown_step plan w (Some (Stop shard during)) o x =
    by_stop plan w shard.0 (Grown w) (grown_same w) (λ k m sent. grown_comes w k) (λ k many m s r sent there step. grown_on w (mark_delivered w k) _ (grown_comes w k) (grown_sends (mark_delivered w k) _ (Server shard) _ refl refl))
    (λ v s g there. grown_on w v _ g (grown_sends v _ (Server shard) _ refl refl)) during o x

-- ---- deliveries

-- a message that comes was sent, and is delivered then
delivered_now : (plan : Plan) (w : World) (k : ℕ) (o : Outcome) → Moves plan w (Some (Deliver k)) o → (k ≤ length o.world.sent) × WasDelivered o.world k
delivered_now plan w k o (m, some, there, h) =
    let g = grown_received plan (mark_delivered w k) m.msg m.to o h in
    let l = slice_get_within w.sent (k - 1) m there in
    let longer = g.longer in (
      omega arith,
      λ u. elim (g.were k u) [
        | inl j ↦ absurd (here k (from_has_filter (λ n. not (n == k)) k w.undelivered j).1)
        | inr late ↦ absurd (omega arith)
      ],
    )
  where
    here : (k : ℕ) → not (k == k) ≡ true → ⊥
    here k e = false≢true (sym (ap not (eq-eqb k k refl)) ∙ e)

abbrev events : List Stepped → List (Option Event)
events steps = map (λ s. s.event) steps

delivered_in : (plan : Plan) (start : Beginning) (coords : ℕ) (steps : List Stepped) (w : World) → IsRunBeside plan start coords steps w → (k : ℕ) → Has (Some (Deliver k)) (events steps) → (k ≤ length w.sent) × WasDelivered w k
delivered_in plan start coords steps w beside_begins k h = elim h [ ]
delivered_in plan start coords steps w (beside_goes_on {steps = front} {w = v} e o r h) k d =
    elim (has_append (Some (Deliver k)) (events front) (e ∷ []) (subst (Has (Some (Deliver k))) (map-append (λ (s : Stepped). s.event) front (record { event = e; outcome = o } ∷ [])) d)) [
      | inl was ↦
          (let q = delivered_in plan start coords front v r k was in
          let g = grown_step plan v e o h in
          let l = q.0 in
          let longer = g.longer in
          (omega arith, λ u. elim (g.were k u) [ inl j ↦ q.1 j | inr late ↦ absurd (omega arith) ]))
      | inr now ↦ delivered_now plan v k o (subst (λ e. Moves plan v e o) (sym (has_one (Some (Deliver k)) e now)) h)
    ]

-- what counts was delivered
pub counts_delivered : (plan : Plan) (start : Beginning) (coords : ℕ) (steps : List Stepped) (w : World) → IsRunBeside plan start coords steps w → (k : ℕ) → Counts (events steps) w.sent k → WasDelivered w k
counts_delivered plan start coords steps w run k c = (delivered_in plan start coords steps w run k (subst (Has (Some (Deliver k))) (sym c.at) (has_right (Some (Deliver k)) c.front (Some (Deliver k) ∷ c.behind) (inl refl)))).1
