-- The lines of a run name only stale messages as ignored, each behind its delivery
use Rattle.std.proofs.Common.{◌≡◌, ℕ, ℤ, ◌+◌, List, [], ◌∷◌, ◌++◌, Option, Some, None, length, drop, map, refl, sym, ap, subst, ◌∙◌, inl, inr, append_assoc}
use Rattle.std.specs.List.{flat_map}
use Rattle.roc_sequence.specs.Lists.{Has}
use Rattle.roc_sequence.proofs.Members.{has_right, has_flat_map}
use Rattle.roc_msg.specs.declared.msg.Envelope.{Envelope}
use Rattle.roc_msg.specs.declared.reason.Reason.{Reason}
use Rattle.roc_msg.specs.declared.reason.Reason.TheVariants.{Stale}
use Rattle.roc_plan.specs.Groups.{Plan}
use Rattle.roc_epoch.specs.declared.next.Next.{Next}
use Rattle.roc_audit.proofs.Splits.{not_empty, split_append}
use Rattle.roc_growth.specs.declared.event.Event.{Event}
use Rattle.roc_growth.specs.declared.event.Event.TheVariants as event
use Rattle.roc_growth.specs.declared.event.Seen.{Seen}
use Rattle.roc_growth.specs.declared.event.Seen.TheVariants as seen
use Rattle.roc_growth.specs.World.{GrownWorld}
use Rattle.roc_growth.specs.Happens.{Outcome, Happens}
use Rattle.roc_growth.specs.Run.{Stepped, Transition, IsGrownRun, at_first, steps_on}
use Rattle.roc_growth.specs.Quiet.{messages_of}
use Rattle.roc_world.specs.Reads.{cells_of, unanswered_of}
use Rattle.roc_report.specs.Line.{Line, Deliver, Ignored, Row, Pending}
use Rattle.roc_replay.specs.Cells.{by_cell}
use Rattle.roc_replay.specs.Report.{untaken_lines, submission_lines, first_lines, send_lines, answer_lines, step_lines, steps_lines, end_line, closing_lines, report}
use Rattle.roc_replay.specs.Readback.{EndInDelivery, IgnoreOnlyStale}
use Rattle.roc_replay.proofs.Growing.{run_lines}
use Rattle.roc_replay.proofs.Shows.{none_in_map, none_in_both}

-- why a line says that a message was ignored
abbrev reasons_of : Line → List Reason
reasons_of (Ignored why) = why ∷ []
reasons_of _ = []

abbrev NoneIgnored : List Line → Type 0
NoneIgnored lines = flat_map reasons_of lines ≡ []

quiet : (lines : List Line) → NoneIgnored lines → IgnoreOnlyStale lines
quiet lines none =
    record {
      each = λ front behind why is.
          (let has = subst (Has (Ignored why)) (sym is) (has_right (Ignored why) front (Ignored why ∷ behind) (inl refl)) in
          absurd (subst (Has why) none (has_flat_map reasons_of why (Ignored why) lines has (inl refl))));
    }

ended_later : (xs ys : List Line) → EndInDelivery ys → EndInDelivery (xs ++ ys)
ended_later xs ys e = record { before = xs ++ e.before; number = e.number; is = ap (λ l. xs ++ l) e.is ∙ sym (append_assoc xs e.before (Deliver e.number ∷ [])) }

both : (xs ys : List Line) → IgnoreOnlyStale xs → IgnoreOnlyStale ys → IgnoreOnlyStale (xs ++ ys)
both xs ys a b =
    record {
      each = λ front behind why is. elim (split_append xs ys front (Ignored why) behind is) [
        | inl k ↦ a.each front k.0 why k.1
        | inr k ↦ (let r = b.each k.0 behind why k.2 in (r.0, subst EndInDelivery (sym k.1) (ended_later xs k.0 r.1)))
      ];
    }

-- ---- a step

ignored_stale : (k : ℕ) (reason : Reason) → reason ≡ Stale → (front behind : List Line) (why : Reason) → Deliver k ∷ Ignored reason ∷ [] ≡ front ++ Ignored why ∷ behind
    → (why ≡ Stale) × EndInDelivery front
ignored_stale k reason stale [] behind why e = absurd (cc)
ignored_stale k reason stale (f ∷ []) behind why e =
    let head : f ≡ Deliver k = cc in
    let same : why ≡ reason = cc in
    (same ∙ stale, record { before = []; number = k; is = λ i. head i ∷ [] })
ignored_stale k reason stale (f ∷ g ∷ front) behind why e = absurd (let tail : [] ≡ front ++ Ignored why ∷ behind = cc in not_empty front (Ignored why) behind tail)

delivery_stale : (k : ℕ) (s : Seen) → ((why : Reason) → s ≡ seen.Ignored why → why ≡ Stale) → IgnoreOnlyStale (Deliver k ∷ untaken_lines s)
delivery_stale k (seen.Ignored reason) f = record { each = ignored_stale k reason (f reason refl) }
delivery_stale k s f = quiet (Deliver k ∷ untaken_lines s) refl

submission_quiet : (coord proc : ℕ) (args : List ℤ) (s : Seen) → NoneIgnored (submission_lines coord proc args s)
submission_quiet coord proc args (seen.Submitted id) = refl
submission_quiet coord proc args s = refl

answer_quiet : (s : Seen) → NoneIgnored (answer_lines s)
answer_quiet (seen.Answered id reply) = refl
answer_quiet s = refl

sends_quiet : (number : ℕ) (sent : List Envelope) → NoneIgnored (send_lines number sent)
sends_quiet number [] = refl
sends_quiet number (s ∷ rest) = sends_quiet (number + 1) rest

first_stale : (plan : Plan) (next : Option Next) (w : GrownWorld) (e : Option Event) (o : Outcome) → ((k : ℕ) (why : Reason) → Happens plan next w (event.Deliver k) o → o.seen ≡ seen.Ignored why → why ≡ Stale)
    → Transition plan next w e o → IgnoreOnlyStale (first_lines e o.seen)
first_stale plan next w None o stale h = quiet (first_lines None o.seen) refl
first_stale plan next w (Some (event.Submit coord proc args)) o stale h = quiet (submission_lines coord proc args o.seen) (submission_quiet coord proc args o.seen)
first_stale plan next w (Some (event.Deliver k)) o stale h = delivery_stale k o.seen (λ why. stale k why h)
first_stale plan next w (Some (event.Tick node)) o stale h = quiet (first_lines (Some (event.Tick node)) o.seen) refl
first_stale plan next w (Some (event.Stop shard during)) o stale h = quiet (first_lines (Some (event.Stop shard during)) o.seen) refl
first_stale plan next w (Some (event.Drain coord)) o stale h = quiet (first_lines (Some (event.Drain coord)) o.seen) refl

-- ---- a report

module _ (plan : Plan) (next : Option Next) (coords : ℕ)
    (stale : (steps : List Stepped) (w : GrownWorld) → IsGrownRun plan next coords steps w
    → (k : ℕ) (o : Outcome) (why : Reason) → Happens plan next w (event.Deliver k) o → o.seen ≡ seen.Ignored why → why ≡ Stale) where
  run_stale : (steps : List Stepped) (w : GrownWorld) → IsGrownRun plan next coords steps w → IgnoreOnlyStale (steps_lines [] steps)
  run_stale steps w (at_first counted) = quiet [] refl
  run_stale steps w (steps_on {steps = before} {w = old} e o r h) =
      let step : Stepped = record { event = e; outcome = o } in
      let first = first_lines e o.seen in
      let sends = send_lines (length (messages_of old.sent) + 1) (drop (length (messages_of old.sent)) (messages_of o.world.sent)) in
      let rest = none_in_both reasons_of sends (answer_lines o.seen) (sends_quiet (length (messages_of old.sent) + 1) (drop (length (messages_of old.sent)) (messages_of o.world.sent))) (answer_quiet o.seen) in
      subst IgnoreOnlyStale (sym (run_lines plan next coords before old r step))
      (both (steps_lines [] before) (step_lines (messages_of old.sent) step) (run_stale before old r)
      (both first (sends ++ answer_lines o.seen) (first_stale plan next old e o (λ k. stale before old r k o) h) (quiet (sends ++ answer_lines o.seen) rest)))

  closing_quiet : (w : GrownWorld) → NoneIgnored (closing_lines w)
  closing_quiet w =
      none_in_both reasons_of (map (λ e. Row e.0 e.1) (by_cell (cells_of w))) _ (none_in_map reasons_of (λ e. Row e.0 e.1) (λ e. refl) (by_cell (cells_of w)))
      (none_in_both reasons_of (map Pending (unanswered_of w)) (end_line w ∷ []) (none_in_map reasons_of Pending (λ id. refl) (unanswered_of w)) refl)

  pub report_stale : (steps : List Stepped) (w : GrownWorld) → IsGrownRun plan next coords steps w → IgnoreOnlyStale (report steps w)
  report_stale steps w r = both (steps_lines [] steps) (closing_lines w) (run_stale steps w r) (quiet (closing_lines w) (closing_quiet w))
