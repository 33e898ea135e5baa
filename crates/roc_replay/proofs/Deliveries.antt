-- Which deliveries the lines of a run show, and that they count; so what looks quiet is
use Rattle.std.proofs.Common.{◌≡◌, ◌≢◌, ℕ, ℤ, suc, ◌+◌, ◌-◌, true, false, List, [], ◌∷◌, ◌++◌, Option, Some, None, length, drop, refl, sym, ap, subst, ◌∙◌, ◌⊎◌, inl, inr, arith, append_assoc}
use Rattle.std.proofs.lemmas.Bool.{false≢true}
use Rattle.std.specs.Prelude.{slice_get}
use Rattle.roc_sequence.specs.Lists.{Has}
use Rattle.roc_sequence.proofs.Members.{has_append, has_left, has_right, has_flat_map, same_there}
use Rattle.roc_base.specs.declared.id.TxnId.{TxnId}
use Rattle.roc_base.specs.declared.node.Shard.{Shard}
use Rattle.roc_depgraph.specs.Reach.{ReachesOrIs}
use Rattle.roc_depgraph.proofs.Chains.{weaker_chain}
use Rattle.roc_msg.specs.declared.msg.Envelope.{Envelope}
use Rattle.roc_msg.specs.Msg.{id_of}
use Rattle.roc_plan.specs.Groups.{Plan}
use Rattle.roc_audit.specs.declared.entry.Entry.TheVariants as entry
use Rattle.roc_law_protocol.specs.declared.event.Kept.{Kept}
use Rattle.roc_law_protocol.specs.Quiet.{PrecedesIn}
use Rattle.roc_epoch.specs.declared.next.Next.{Next}
use Rattle.roc_two_files.specs.Sealed.{Sealed}
use Rattle.roc_growth.specs.declared.event.Event.{Event}
use Rattle.roc_growth.specs.declared.event.Event.TheVariants as event
use Rattle.roc_growth.specs.declared.event.Seen.{Seen}
use Rattle.roc_growth.specs.declared.event.Seen.TheVariants as seen
use Rattle.roc_growth.specs.World.{GrownWorld}
use Rattle.roc_growth.specs.Run.{Stepped, IsGrownRun}
use Rattle.roc_growth.specs.Quiet.{StopsReceiver, Counts, was_taken, was_passed, messages_of, AreDelivered}
use Rattle.roc_report.specs.Shown.{shown_message}
use Rattle.roc_report.specs.Line.{Line, Deliver, Stopped, Skipped, Answer}
use Rattle.roc_report.proofs.Named.{id_is_shown}
use Rattle.roc_replay.specs.Report.{during_shown, submission_lines, untaken_lines, first_lines, send_lines, answer_lines, step_lines, steps_lines, closing_lines, report}
use Rattle.roc_replay.specs.Readback.{entries_in, history_in, IsShownBefore, is_skipped_first, ShowsDelivery, shows_taken, shows_passed, LooksQuiet}
use Rattle.roc_replay.proofs.Messages.{message_there}
use Rattle.roc_replay.proofs.QuietLines.{new_lines, step_says, untaken_says, sends_say, answer_says, closing_says, sent_is_shown, precedes_is_shown}

-- ---- lists

-- what stands at a place of two lists stands in the one or in the other, and what is behind it there
split_at : {A : Type 0} (xs ys front : List A) (x : A) (behind : List A) → xs ++ ys ≡ front ++ x ∷ behind
    → ((back : List A) × (xs ≡ front ++ x ∷ back) × (behind ≡ back ++ ys)) ⊎ ((rest : List A) × (front ≡ xs ++ rest) × (ys ≡ rest ++ x ∷ behind))
split_at [] ys front x behind e = inr (front, refl, e)
split_at (a ∷ xs) ys [] x behind e = let head : a ≡ x = cc in let tail : xs ++ ys ≡ behind = cc in inl (xs, (λ i. head i ∷ xs), sym tail)
split_at (a ∷ xs) ys (f ∷ front) x behind e =
    let head : a ≡ f = cc in
    let tail : xs ++ ys ≡ front ++ x ∷ behind = cc in
    elim (split_at xs ys front x behind tail) [
      | inl k ↦ inl (k.0, (λ i. head i ∷ k.1 i), k.2)
      | inr k ↦ inr (k.0, (λ i. sym head i ∷ k.1 i), k.2)
    ]

-- ---- which line comes first

-- the first line says nothing of a message that was skipped
abbrev pub NoSkip : List Line → Type 0
NoSkip lines = is_skipped_first lines ≡ false

no_skip : (xs ys : List Line) → NoSkip xs → NoSkip ys → NoSkip (xs ++ ys)
no_skip [] ys a b = b
no_skip (x ∷ xs) ys a b = a

submission_no_skip : (coord proc : ℕ) (args : List ℤ) (s : Seen) → NoSkip (submission_lines coord proc args s)
submission_no_skip coord proc args (seen.Submitted id) = refl
submission_no_skip coord proc args seen.Spent = refl
submission_no_skip coord proc args seen.Busy = refl
submission_no_skip coord proc args seen.Draining = refl
submission_no_skip coord proc args seen.NoProc = refl
submission_no_skip coord proc args s = refl

first_no_skip : (e : Option Event) (s : Seen) → NoSkip (first_lines e s)
first_no_skip None s = refl
first_no_skip (Some (event.Submit coord proc args)) s = submission_no_skip coord proc args s
first_no_skip (Some (event.Deliver k)) s = refl
first_no_skip (Some (event.Tick node)) s = refl
first_no_skip (Some (event.Stop shard during)) s = refl
first_no_skip (Some (event.Drain coord)) s = refl

sends_no_skip : (number : ℕ) (sent : List Envelope) → NoSkip (send_lines number sent)
sends_no_skip number [] = refl
sends_no_skip number (m ∷ rest) = refl

answer_no_skip : (s : Seen) → NoSkip (answer_lines s)
answer_no_skip (seen.Answered id reply) = refl
answer_no_skip s = refl

-- what stands behind the first lines of a step
abbrev behind_first : List Envelope → Stepped → List Line
behind_first before step = new_lines before step ++ answer_lines step.outcome.seen

behind_no_skip : (before : List Envelope) (step : Stepped) → NoSkip (behind_first before step)
behind_no_skip before step =
    no_skip (new_lines before step) (answer_lines step.outcome.seen) (sends_no_skip (length before + 1) (drop (length before) (messages_of step.outcome.world.sent))) (answer_no_skip step.outcome.seen)

all_no_skip : (before : List Envelope) (steps : List Stepped) → NoSkip (steps_lines before steps)
all_no_skip before [] = refl
all_no_skip before (step ∷ rest) =
    no_skip (step_lines before step) (steps_lines (messages_of step.outcome.world.sent) rest)
    (no_skip (first_lines step.event step.outcome.seen) (behind_first before step) (first_no_skip step.event step.outcome.seen) (behind_no_skip before step))
    (all_no_skip (messages_of step.outcome.world.sent) rest)

steps_no_skip : (before : List Envelope) (steps : List Stepped) (tail : List Line) → NoSkip tail → NoSkip (steps_lines before steps ++ tail)
steps_no_skip before steps tail h = no_skip (steps_lines before steps) tail (all_no_skip before steps) h

-- where the line behind says so the message was skipped
skipped_if : (s : Seen) (others : List Line) → NoSkip others → is_skipped_first (untaken_lines s ++ others) ≡ true → s ≡ seen.Skipped
skipped_if seen.Skipped others none e = refl
skipped_if (seen.Ignored reason) others none e = absurd (false≢true e)
skipped_if seen.Gone others none e = absurd (false≢true e)
skipped_if (seen.Submitted id) others none e = absurd (false≢true (sym none ∙ e))
skipped_if seen.Spent others none e = absurd (false≢true (sym none ∙ e))
skipped_if seen.Busy others none e = absurd (false≢true (sym none ∙ e))
skipped_if seen.Draining others none e = absurd (false≢true (sym none ∙ e))
skipped_if seen.NoProc others none e = absurd (false≢true (sym none ∙ e))
skipped_if seen.Done others none e = absurd (false≢true (sym none ∙ e))
skipped_if (seen.Answered id reply) others none e = absurd (false≢true (sym none ∙ e))

taken_if : (s : Seen) (others : List Line) → is_skipped_first (untaken_lines s ++ others) ≡ false → s ≢ seen.Skipped
taken_if s others e is = false≢true (sym e ∙ ap (λ (s : Seen). is_skipped_first (untaken_lines s ++ others)) is)

-- ---- which deliveries are shown

-- each stop has its line
stop_shown : (before : List Envelope) (steps : List Stepped) (shard : Shard) (during : Option (ℕ × Kept)) (x : Stepped) → Has x steps → x.event ≡ Some (event.Stop shard during)
    → Has (Stopped shard (during_shown during)) (steps_lines before steps)
stop_shown before [] shard during x h e = absurd h
stop_shown before (step ∷ rest) shard during x (inl same) e =
    has_left (Stopped shard (during_shown during)) (step_lines before step) (steps_lines (messages_of step.outcome.world.sent) rest)
    (has_left (Stopped shard (during_shown during)) (first_lines step.event step.outcome.seen) (behind_first before step)
    (subst (λ (e : Option Event). Has (Stopped shard (during_shown during)) (first_lines e step.outcome.seen)) (sym e ∙ ap (λ (s : Stepped). s.event) same) (inl refl)))
stop_shown before (step ∷ rest) shard during x (inr h) e =
    has_right (Stopped shard (during_shown during)) (step_lines before step) (steps_lines (messages_of step.outcome.world.sent) rest) (stop_shown (messages_of step.outcome.world.sent) rest shard during x h e)

-- the line of a delivery is the first of its step's
delivery_first : (before : List Envelope) (k : ℕ) (step : Stepped) (front back : List Line) → step.event ≡ Some (event.Deliver k) → step_lines before step ≡ front ++ Deliver k ∷ back
    → back ≡ untaken_lines step.outcome.seen ++ behind_first before step
delivery_first before k step front back is e = go front (sym whole ∙ e)
  where
    untaken : List Line
    untaken = untaken_lines step.outcome.seen

    whole : step_lines before step ≡ Deliver k ∷ (untaken ++ behind_first before step)
    whole = ap (λ (e : Option Event). first_lines e step.outcome.seen ++ behind_first before step) is

    none : Has (Deliver k) (untaken ++ behind_first before step) → ⊥
    none h = elim (has_append (Deliver k) untaken (behind_first before step) h) [
      | inl a ↦ untaken_says (λ k. ⊥) (λ n m. Unit {0}) step.outcome.seen (Deliver k) a
      | inr b ↦ elim (has_append (Deliver k) (new_lines before step) (answer_lines step.outcome.seen) b) [
        | inl a ↦ sends_say (λ k. ⊥) (λ n m. Unit {0}) (length before + 1) (drop (length before) (messages_of step.outcome.world.sent)) (λ n message h. tt) (Deliver k) a
        | inr a ↦ answer_says (λ k. ⊥) (λ n m. Unit {0}) step.outcome.seen (Deliver k) a
      ]
    ]

    go : (front : List Line) → Deliver k ∷ (untaken ++ behind_first before step) ≡ front ++ Deliver k ∷ back → back ≡ untaken ++ behind_first before step
    go [] e = cc
    go (f ∷ front) e =
        let tail : untaken ++ behind_first before step ≡ front ++ Deliver k ∷ back = cc in
        absurd (none (subst (Has (Deliver k)) (sym tail) (has_right (Deliver k) front (Deliver k ∷ back) (inl refl))))

-- a line of a delivery is that of a step, the line behind it says whether the message was skipped, and the stops behind that have lines behind it
record IsDeliveredAt (steps : List Stepped) (k : ℕ) (behind : List Line) : Type 0 where
  pub front : List Stepped
  pub step : Stepped
  pub rest : List Stepped
  pub at : steps ≡ front ++ step ∷ rest
  pub delivers : step.event ≡ Some (event.Deliver k)
  pub skips : is_skipped_first behind ≡ true → step.outcome.seen ≡ seen.Skipped
  pub takes : is_skipped_first behind ≡ false → step.outcome.seen ≢ seen.Skipped
  pub stops : (shard : Shard) (during : Option (ℕ × Kept)) (x : Stepped) → Has x rest → x.event ≡ Some (event.Stop shard during) → Has (Stopped shard (during_shown during)) behind

delivered_at : (before : List Envelope) (steps : List Stepped) (tail front behind : List Line) (k : ℕ) → NoSkip tail → ¬ Has (Deliver k) tail
    → steps_lines before steps ++ tail ≡ front ++ Deliver k ∷ behind → IsDeliveredAt steps k behind
delivered_at before [] tail front behind k plain none e = absurd (none (subst (Has (Deliver k)) (sym e) (has_right (Deliver k) front (Deliver k ∷ behind) (inl refl))))
delivered_at before (step ∷ rest) tail front behind k plain none e =
    elim (split_at (step_lines before step) (steps_lines sent rest ++ tail) front (Deliver k) behind
    (sym (append_assoc (step_lines before step) (steps_lines sent rest) tail) ∙ e)) [
      | inl c ↦ here c.0 c.1 c.2
      | inr c ↦
          (let r = delivered_at sent rest tail c.0 behind k plain none c.2 in
          record {
            front = step ∷ r.front;
            step = r.step;
            rest = r.rest;
            at = ap (λ (l : List Stepped). step ∷ l) r.at;
            delivers = r.delivers;
            skips = r.skips;
            takes = r.takes;
            stops = r.stops;
          })
    ]
  where
    sent : List Envelope
    sent = messages_of step.outcome.world.sent

    here : (back : List Line) → step_lines before step ≡ front ++ Deliver k ∷ back → behind ≡ back ++ (steps_lines sent rest ++ tail) → IsDeliveredAt (step ∷ rest) k behind
    here back own is =
        let delivers = step_says before step (Deliver k) (subst (Has (Deliver k)) (sym own) (has_right (Deliver k) front (Deliver k ∷ back) (inl refl))) in
        let others = behind_first before step ++ (steps_lines sent rest ++ tail) in
        let all : behind ≡ untaken_lines step.outcome.seen ++ others =
        is
        ∙ ap (λ (l : List Line). l ++ (steps_lines sent rest ++ tail)) (delivery_first before k step front back delivers own)
        ∙ append_assoc (untaken_lines step.outcome.seen) (behind_first before step) (steps_lines sent rest ++ tail) in
        let others_plain = no_skip (behind_first before step) (steps_lines sent rest ++ tail) (behind_no_skip before step) (steps_no_skip sent rest tail plain) in
        record {
          front = [];
          step = step;
          rest = rest;
          at = refl;
          delivers = delivers;
          skips = λ e. skipped_if step.outcome.seen others others_plain (sym (ap is_skipped_first all) ∙ e);
          takes = λ e. taken_if step.outcome.seen others (sym (ap is_skipped_first all) ∙ e);
          stops = λ shard during x h e. subst (Has (Stopped shard (during_shown during))) (sym is)
              (has_right (Stopped shard (during_shown during)) back (steps_lines sent rest ++ tail)
              (has_left (Stopped shard (during_shown during)) (steps_lines sent rest) tail (stop_shown sent rest shard during x h e)));
        }

-- ---- which count

module _ (plan : Plan) (next : Option Next) (coords : ℕ) (steps : List Stepped) (w : GrownWorld) (r : IsGrownRun plan next coords steps w) (history : history_in (report steps w) ≡ w.history) where
  abbrev lines : List Line
  lines = report steps w

  cut : (front behind : List Line) (k : ℕ) → lines ≡ front ++ Deliver k ∷ behind → IsDeliveredAt steps k behind
  cut front behind k is = delivered_at [] steps (closing_lines w) front behind k refl (λ h. closing_says (λ k. ⊥) (λ n m. Unit {0}) w (Deliver k) h) is

  index : (k : ℕ) (m : Sealed) → slice_get w.sent k ≡ Some m → slice_get w.sent (suc k - 1) ≡ Some m
  index k m there = let same : k ≡ suc k - 1 = omega arith in subst (λ (i : ℕ). slice_get w.sent i ≡ Some m) same there

  -- of what the lines show as delivered a delivery counts
  pub shown_counts : (k : ℕ) (m : Sealed) (u : TxnId) → slice_get w.sent k ≡ Some m → id_of m.message.msg ≡ Some u → ShowsDelivery lines (suc k) m.message.to u → Counts steps w (suc k)
  shown_counts k m u there of (shows_taken shows) =
      let at = cut shows.front shows.behind (suc k) shows.is in
      was_taken (record {
        front = at.front;
        step = at.step;
        behind = at.rest;
        at = at.at;
        delivers = at.delivers;
        taken = at.takes shows.taken;
        since = λ x n has here stops. still at x n has here x.event refl stops;
      })
    where
      still : (at : IsDeliveredAt steps (suc k) shows.behind) (x : Stepped) (n : Sealed) → Has x at.rest → slice_get w.sent (suc k - 1) ≡ Some n → (e : Option Event) → x.event ≡ e
          → StopsReceiver e n.message.to → ⊥
      still at x n has here None is stops = stops
      still at x n has here (Some (event.Submit coord proc args)) is stops = stops
      still at x n has here (Some (event.Deliver j)) is stops = stops
      still at x n has here (Some (event.Tick node)) is stops = stops
      still at x n has here (Some (event.Drain coord)) is stops = stops
      still at x n has here (Some (event.Stop shard during)) is stops =
          let same : m ≡ n = same_there w.sent (suc k - 1) m n (index k m there) here in
          shows.since shard (during_shown during) (at.stops shard during x has is) (ap (λ (m : Sealed). m.message.to) same ∙ stops)
  shown_counts k m u there of (shows_passed shows) =
      let at = cut shows.front (Skipped ∷ shows.behind) (suc k) shows.is in
      was_passed (record {
        step = at.step;
        has = subst (Has at.step) (sym at.at) (has_right at.step at.front (at.step ∷ at.rest) (inl refl));
        delivers = at.delivers;
        skipped = at.skips refl;
        message = m;
        there = index k m there;
        id = u;
        of = of;
        reply = shows.reply;
        answered = subst (Has (entry.Answered u shows.reply)) history (has_flat_map entries_in (entry.Answered u shows.reply) (Answer u shows.reply) lines shows.answered (inl refl));
      })

  -- so what looks quiet is
  pub looks_is_quiet : (t : TxnId) → LooksQuiet lines t → AreDelivered (PrecedesIn (messages_of w.sent)) steps w t
  looks_is_quiet t looks =
      record {
        each = λ k m u there is chain.
            (let own = sent_is_shown plan next coords steps w r (suc k) (shown_message m.message) (m.message, omega arith, message_there w.sent (suc k - 1) m (index k m there), refl) in
            let precedes = precedes_is_shown plan next coords steps w r in
            let led : ReachesOrIs (IsShownBefore lines) u t = elim chain [ inl e ↦ inl e | inr c ↦ inr (weaker_chain (PrecedesIn (messages_of w.sent)) (IsShownBefore lines) precedes u t c) ] in
            shown_counts k m u there is (looks.each (suc k) (shown_message m.message) u own (id_is_shown m.message ∙ is) led));
      }
