-- What is seen of a message that comes to a server or to a coordinator
use Rattle.std.proofs.Common.{◌⊎◌, sym, ◌≡◌, ℕ, ◌-◌, List, Some, refl, ap, subst, ◌∙◌, inl, inr}
use Rattle.std.specs.Prelude.{slice_get}
use Rattle.roc_sequence.proofs.Members.{has_at}
use Rattle.roc_base.specs.declared.node.Shard.{Shard}
use Rattle.roc_base.specs.declared.node.Node.{Node}
use Rattle.roc_base.specs.declared.node.Node.TheVariants.{Server, Coord}
use Rattle.roc_msg.specs.declared.msg.Envelope.{Envelope}
use Rattle.roc_plan.specs.Groups.{Plan}
use Rattle.roc_law_log.specs.Scheme.{Scheme, IsSoundScheme}
use Rattle.roc_law_protocol.specs.declared.event.Event.TheVariants.{Deliver}
use Rattle.roc_law_protocol.specs.declared.event.Seen.TheVariants as seen
use Rattle.roc_law_protocol.specs.PlanAssumptions.{HasSchemesFrom}
use Rattle.roc_law_protocol.specs.Beginnings.{Beginning, IsBeginning}
use Rattle.roc_law_protocol.specs.World.{World, mark_delivered}
use Rattle.roc_law_protocol.specs.Happens.{Outcome, IsReceived, Happens, server_seen, coord_seen}
use Rattle.roc_law_protocol.specs.Run.{Stepped}
use Rattle.roc_law_protocol.specs.Beside.{IsRunBeside}
use Rattle.roc_law_protocol.specs.Inner.Given.{LogLaws, StoreLaws}
use Rattle.roc_law_protocol.proofs.AskedFor.{run_asked}
use Rattle.roc_msg.specs.declared.reason.Reason.{Reason}
use Rattle.roc_msg.specs.declared.reason.Reason.TheVariants.{Stale}
use Rattle.roc_coord.specs.declared.handled.Handled.{Handled as CoordHandled}
use Rattle.roc_coord.specs.declared.handled.Handled.TheVariants as coord_answer
use Rattle.roc_coord.specs.Step.{after_message}
use Rattle.roc_law_protocol.proofs.PendingRuns.{run_pending}
use Rattle.roc_law_protocol.proofs.OngoingRuns.{run_ongoing}
use Rattle.roc_law_protocol.proofs.Staleness.{message_stale}
use Rattle.roc_law_protocol.proofs.Refusals.{message_taken}
use Rattle.roc_law_protocol.proofs.Idle.{run_idle, idle_takes}
use Rattle.roc_law_protocol.proofs.Finals.{networked}
use Rattle.roc_law_protocol.proofs.Serial as serial
use Rattle.roc_law_protocol.proofs.Transactions.{transaction_or_none, HasTransaction}

-- it was taken, or came too late
abbrev IsSeenAs : Outcome → Type 0
IsSeenAs o = (o.seen ≡ seen.Done) ⊎ (o.seen ≡ seen.Gone)

module _ (plan : Plan) (start : Beginning) (begins : IsBeginning plan start) (schemes : HasSchemesFrom plan start.store) (laws : (S : Scheme) → IsSoundScheme S → LogLaws S start.store) (stores : StoreLaws) (coords : ℕ) (steps : List Stepped) (w : World) (run : IsRunBeside plan start coords steps w) where
  pub server_takes : (k : ℕ) (m : Envelope) (shard : Shard) (o : Outcome) → slice_get w.sent (k - 1) ≡ Some m → m.to ≡ Server shard → Happens plan w (Deliver k) o → IsSeenAs o
  server_takes k m shard o there to (b, first, at, h) = elim (transaction_or_none plan) [
    | inl some ↦ taken_by some b at (let same : b ≡ m = cc in ap (λ (m : Envelope). m.to) same ∙ to) h
    | inr none ↦ inl (idle_takes plan none start w (run_idle plan none start begins coords steps w run) (mark_delivered w k) b (has_at w.sent (k - 1) b at) o h)
  ]
    where
      taken_by : HasTransaction plan → (b : Envelope) → slice_get w.sent (k - 1) ≡ Some b → b.to ≡ Server shard → IsReceived plan (mark_delivered w k) b.msg b.to o → IsSeenAs o
      taken_by some b at to h = go b.to refl to h
        where
          go : (t : Node) → b.to ≡ t → t ≡ Server shard → IsReceived plan (mark_delivered w k) b.msg t o → IsSeenAs o
          go (Coord c) is e x = absurd (cc)
          go (Server s) is e (v, r, found, step, is_o) =
              let x = serial.logged plan start begins schemes laws stores coords steps w run some in
              let subs = serial.submissions plan start begins schemes laws stores coords steps w run some in
              let S = serial.S plan start begins schemes laws stores coords steps w run some in
              let done = message_taken plan (serial.asked plan start begins schemes laws stores coords steps w run some) S start (serial.is plan start begins schemes laws stores coords steps w run some) (laws S (serial.sound plan start begins schemes laws stores coords steps w run some))
              w x.0 x.1 (networked plan start begins schemes laws stores coords steps w run some) (run_asked plan start coords steps w run) subs (serial.agrees plan some.0 w subs) (serial.known plan start begins schemes laws stores coords steps w run some)
              s.0 v found b (has_at w.sent (k - 1) b at) is r step in
              elim done [ inl e ↦ inl (ap (λ (x : Outcome). x.seen) is_o ∙ ap server_seen e) | inr e ↦ inr (ap (λ (x : Outcome). x.seen) is_o ∙ ap server_seen e) ]

  -- ---- a delivery to a coordinator

  pub coordinator_ignores : (k : ℕ) (o : Outcome) (why : Reason) → Happens plan w (Deliver k) o → o.seen ≡ seen.Ignored why → why ≡ Stale
  coordinator_ignores k o why (b, first, at, h) ignored = elim (transaction_or_none plan) [
    | inl some ↦ by_node some b.to refl h
    | inr none ↦ (let done = idle_takes plan none start w (run_idle plan none start begins coords steps w run) (mark_delivered w k) b (has_at w.sent (k - 1) b at) o h in absurd (cc))
  ]
    where
      was_ignored : (a : CoordHandled) → coord_seen a ≡ seen.Ignored why → a ≡ coord_answer.Ignored why
      was_ignored coord_answer.Done e = absurd (cc)
      was_ignored (coord_answer.Answered id reply) e = absurd (cc)
      was_ignored (coord_answer.Ignored reason) e = let same : reason ≡ why = cc in ap coord_answer.Ignored same

      by_node : HasTransaction plan → (t : Node) → b.to ≡ t → IsReceived plan (mark_delivered w k) b.msg t o → why ≡ Stale
      by_node some (Server s) to x = elim (server_takes k b s o at to (b, first, at, subst (λ t. IsReceived plan (mark_delivered w k) b.msg t o) (sym to) x)) [ inl done ↦ absurd (cc) | inr done ↦ absurd (cc) ]
      by_node some (Coord n) to (s, found, e) =
          let x = serial.logged plan start begins schemes laws stores coords steps w run some in
          let subs = serial.submissions plan start begins schemes laws stores coords steps w run some in
          let S = serial.S plan start begins schemes laws stores coords steps w run some in
          let asked = serial.asked plan start begins schemes laws stores coords steps w run some in
          let is = serial.is plan start begins schemes laws stores coords steps w run some in
          let l = laws S (serial.sound plan start begins schemes laws stores coords steps w run some) in
          message_stale plan asked S start is l w x.0 x.1 (networked plan start begins schemes laws stores coords steps w run some) (run_pending plan asked S start is l stores begins coords steps w run (serial.agrees plan some.0 w subs)) (run_ongoing plan asked S start is l stores begins coords steps w run (serial.agrees plan some.0 w subs)).0.gone n s found b (has_at w.sent (k - 1) b at) to why
          (was_ignored (after_message plan s b.msg).answer (sym (ap (λ (o : Outcome). o.seen) e) ∙ ignored))
