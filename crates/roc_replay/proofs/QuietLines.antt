-- What the lines of a run show of its messages: each that was sent, and as delivered only what was; so what looks quiet is answered
use Rattle.std.proofs.Common.{◌≡◌, ℕ, ℤ, zero, suc, ◌+◌, ◌-◌, ◌<◌, ◌≤◌, List, [], ◌∷◌, ◌++◌, Option, Some, None, Result, Ok, Err, length, map, drop, refl, sym, ap, subst, ◌∙◌, inl, inr, arith}
use Rattle.std.proofs.Common.{append-nil, append_assoc, length-append}
use Rattle.std.proofs.lemmas.List.Prefix.{front_rest}
use Rattle.std.specs.Prelude.{slice_get}
use Rattle.roc_sequence.specs.Lists.{Has}
use Rattle.roc_sequence.proofs.Members.{has_append, has_left, has_right, from_has_map}
use Rattle.roc_base.specs.declared.id.TxnId.{TxnId}
use Rattle.roc_base.specs.declared.node.Node.{Node}
use Rattle.roc_base.specs.declared.node.Node.TheVariants.{Server, Coord}
use Rattle.roc_base.specs.declared.node.Shard.{Shard}
use Rattle.roc_msg.specs.declared.msg.Msg.{Msg}
use Rattle.roc_msg.specs.declared.msg.Envelope.{Envelope}
use Rattle.roc_msg.specs.declared.outbox.Outgoing.{Outgoing}
use Rattle.roc_msg.specs.Msg.{id_of}
use Rattle.roc_plan.specs.Groups.{Plan}
use Rattle.roc_coord.specs.declared.handled.SubmitFault.TheVariants as fault
use Rattle.roc_law_protocol.specs.declared.event.Kept.{Kept}
use Rattle.roc_law_protocol.specs.Quiet.{PrecedesIn}
use Rattle.roc_epoch.specs.declared.file.File.{File}
use Rattle.roc_epoch.specs.declared.next.Next.{Next}
use Rattle.roc_two_files.specs.Sealed.{Sealed, sealed_by}
use Rattle.roc_grown.specs.declared.handled.GrownFault.{GrownFault}
use Rattle.roc_grown.specs.declared.handled.GrownFault.TheVariants.{Draining, Plain}
use Rattle.roc_grown.specs.Server.{GrownServerState, GrownStep, grown_server_tick}
use Rattle.roc_grown.specs.Coord.{GrownCoordState, after_drain, after_grown_submit, after_grown_message, grown_tick_sends}
use Rattle.roc_growth.specs.declared.event.Event.{Event}
use Rattle.roc_growth.specs.declared.event.Event.TheVariants as event
use Rattle.roc_growth.specs.declared.event.Seen.{Seen}
use Rattle.roc_growth.specs.declared.event.Seen.TheVariants as seen
use Rattle.roc_growth.specs.World.{GrownWorld, mark_delivered}
use Rattle.roc_growth.specs.Happens.{Outcome, Submits, IsReceived, Ticks, StopsIn, at_rest, unrecorded, recorded, started_again, Happens}
use Rattle.roc_growth.specs.Run.{Stepped, Transition, IsGrownRun, at_first, steps_on}
use Rattle.roc_growth.specs.Quiet.{messages_of}
use Rattle.roc_world.specs.Reads.{cells_of, unanswered_of}
use Rattle.roc_report.specs.Shown.{message_kind, edges_of, shown_message}
use Rattle.roc_report.specs.Line.{Line, ShownMessage, Deliver, Send, Row, Pending}
use Rattle.roc_report.proofs.Named.{id_is_shown}
use Rattle.roc_replay.specs.Cells.{by_cell}
use Rattle.roc_replay.specs.Report.{submission_lines, untaken_lines, first_lines, send_lines, answer_lines, step_lines, steps_lines, end_line, closing_lines, report}
use Rattle.roc_replay.specs.Readback.{IsShownBefore}
use Rattle.roc_replay.proofs.Growing.{run_lines}
use Rattle.roc_replay.proofs.Messages.{messages_behind, many_messages}

-- ---- which lines show messages

-- a line that shows a delivery shows one of these, and a line that shows a message one of these
module _ (Came : ℕ → Type 0) (Went : ℕ → ShownMessage → Type 0) where
  abbrev pub Says : Line → Type 0
  Says (Deliver k) = Came k
  Says (Send number message) = Went number message
  Says _ = Unit {0}

  submission_says : (coord proc : ℕ) (args : List ℤ) (what : Seen) (line : Line) → Has line (submission_lines coord proc args what) → Says line
  submission_says coord proc args (seen.Submitted id) line (inl e) = subst Says (sym e) tt
  submission_says coord proc args seen.Spent line (inl e) = subst Says (sym e) tt
  submission_says coord proc args seen.Busy line (inl e) = subst Says (sym e) tt
  submission_says coord proc args seen.Draining line (inl e) = subst Says (sym e) tt
  submission_says coord proc args seen.NoProc line (inl e) = subst Says (sym e) tt
  submission_says coord proc args (seen.Submitted id) line (inr h) = absurd h
  submission_says coord proc args seen.Spent line (inr h) = absurd h
  submission_says coord proc args seen.Busy line (inr h) = absurd h
  submission_says coord proc args seen.Draining line (inr h) = absurd h
  submission_says coord proc args seen.NoProc line (inr h) = absurd h
  submission_says coord proc args seen.Done line h = absurd h
  submission_says coord proc args (seen.Answered id reply) line h = absurd h
  submission_says coord proc args seen.Gone line h = absurd h
  submission_says coord proc args seen.Skipped line h = absurd h
  submission_says coord proc args (seen.Ignored reason) line h = absurd h

  pub untaken_says : (what : Seen) (line : Line) → Has line (untaken_lines what) → Says line
  untaken_says (seen.Ignored reason) line (inl e) = subst Says (sym e) tt
  untaken_says (seen.Ignored reason) line (inr h) = absurd h
  untaken_says seen.Gone line (inl e) = subst Says (sym e) tt
  untaken_says seen.Gone line (inr h) = absurd h
  untaken_says seen.Skipped line (inl e) = subst Says (sym e) tt
  untaken_says seen.Skipped line (inr h) = absurd h
  untaken_says (seen.Submitted id) line h = absurd h
  untaken_says seen.Spent line h = absurd h
  untaken_says seen.Busy line h = absurd h
  untaken_says seen.Draining line h = absurd h
  untaken_says seen.NoProc line h = absurd h
  untaken_says seen.Done line h = absurd h
  untaken_says (seen.Answered id reply) line h = absurd h

  pub answer_says : (what : Seen) (line : Line) → Has line (answer_lines what) → Says line
  answer_says (seen.Answered id reply) line (inl e) = subst Says (sym e) tt
  answer_says (seen.Answered id reply) line (inr h) = absurd h
  answer_says (seen.Submitted id) line h = absurd h
  answer_says seen.Spent line h = absurd h
  answer_says seen.Busy line h = absurd h
  answer_says seen.Draining line h = absurd h
  answer_says seen.NoProc line h = absurd h
  answer_says seen.Done line h = absurd h
  answer_says seen.Gone line h = absurd h
  answer_says seen.Skipped line h = absurd h
  answer_says (seen.Ignored reason) line h = absurd h

  first_says : (e : Option Event) (what : Seen) → ((k : ℕ) → e ≡ Some (event.Deliver k) → Came k) → (line : Line) → Has line (first_lines e what) → Says line
  first_says None what f line (inl i) = subst Says (sym i) tt
  first_says None what f line (inr h) = absurd h
  first_says (Some (event.Submit coord proc args)) what f line h = submission_says coord proc args what line h
  first_says (Some (event.Deliver k)) what f line (inl i) = subst Says (sym i) (f k refl)
  first_says (Some (event.Deliver k)) what f line (inr h) = untaken_says what line h
  first_says (Some (event.Tick node)) what f line (inl i) = subst Says (sym i) tt
  first_says (Some (event.Tick node)) what f line (inr h) = absurd h
  first_says (Some (event.Stop shard during)) what f line (inl i) = subst Says (sym i) tt
  first_says (Some (event.Stop shard during)) what f line (inr h) = absurd h
  first_says (Some (event.Drain coord)) what f line (inl i) = subst Says (sym i) tt
  first_says (Some (event.Drain coord)) what f line (inr h) = absurd h

  pub sends_say : (number : ℕ) (sent : List Envelope) → ((n : ℕ) (message : ShownMessage) → Has (Send n message) (send_lines number sent) → Went n message) → (line : Line) → Has line (send_lines number sent) → Says line
  sends_say number [] f line h = absurd h
  sends_say number (m ∷ rest) f line (inl e) = subst Says (sym e) (f number (shown_message m) (inl refl))
  sends_say number (m ∷ rest) f line (inr h) = sends_say (number + 1) rest (λ n message k. f n message (inr k)) line h

  pub closing_says : (w : GrownWorld) (line : Line) → Has line (closing_lines w) → Says line
  closing_says w line (inl e) = subst Says (sym e) tt
  closing_says w line (inr h) = elim (has_append line (map (λ e. Row e.0 e.1) (by_cell (cells_of w))) _ h) [
    | inl k ↦ (let r = from_has_map (λ e. Row e.0 e.1) line (by_cell (cells_of w)) k in subst Says (sym r.2) tt)
    | inr k ↦ elim (has_append line (map Pending (unanswered_of w)) (end_line w ∷ []) k) [
      | inl j ↦ (let r = from_has_map Pending line (unanswered_of w) j in subst Says (sym r.2) tt)
      | inr j ↦ elim j [ inl e ↦ subst Says (sym e) tt | inr i ↦ elim i [ ] ]
    ]
  ]

-- the messages that a step sends, as lines
abbrev pub new_lines : List Envelope → Stepped → List Line
new_lines before step = send_lines (length before + 1) (drop (length before) (messages_of step.outcome.world.sent))

-- the lines of a step show what it sends, and as delivered what it delivers
pub step_says : (before : List Envelope) (step : Stepped) (line : Line) → Has line (step_lines before step)
    → Says (λ k. step.event ≡ Some (event.Deliver k)) (λ n message. Has (Send n message) (new_lines before step)) line
step_says before step line h =
    let Came : ℕ → Type 0 = λ k. step.event ≡ Some (event.Deliver k) in
    let Went : ℕ → ShownMessage → Type 0 = λ n message. Has (Send n message) (new_lines before step) in
    elim (has_append line (first_lines step.event step.outcome.seen) (new_lines before step ++ answer_lines step.outcome.seen) h) [
      | inl k ↦ first_says Came Went step.event step.outcome.seen (λ k e. e) line k
      | inr k ↦ elim (has_append line (new_lines before step) (answer_lines step.outcome.seen) k) [
        | inl j ↦ sends_say Came Went (length before + 1) (drop (length before) (messages_of step.outcome.world.sent)) (λ n message i. i) line j
        | inr j ↦ answer_says Came Went step.outcome.seen line j
      ]
    ]

-- ---- lines of messages, by number

sends-append : (number : ℕ) (sent more : List Envelope) → send_lines number (sent ++ more) ≡ send_lines number sent ++ send_lines (length sent + number) more
sends-append number [] more = let e : number ≡ 0 + number = omega arith in ap (λ (n : ℕ). send_lines n more) e
sends-append number (m ∷ rest) more =
    ap (λ (ls : List Line). Send number (shown_message m) ∷ ls)
    (sends-append (number + 1) rest more
    ∙ (let e : length rest + (number + 1) ≡ suc (length rest) + number = omega arith in ap (λ (n : ℕ). send_lines (number + 1) rest ++ send_lines n more) e))

-- a message has a line with its number
send_at : (number : ℕ) (sent : List Envelope) (k : ℕ) (m : Envelope) → slice_get sent k ≡ Some m → Has (Send (k + number) (shown_message m)) (send_lines number sent)
send_at number [] k m e = absurd (cc)
send_at number (x ∷ rest) zero m e = let same : m ≡ x = cc in let place : 0 + number ≡ number = omega arith in inl (λ i. Send (place i) (shown_message (same i)))
send_at number (x ∷ rest) (suc k) m e =
    let place : k + (number + 1) ≡ suc k + number = omega arith in
    inr (subst (λ (n : ℕ). Has (Send n (shown_message m)) (send_lines (number + 1) rest)) place (send_at (number + 1) rest k m e))

-- and any that is sent has one
send_of : (number : ℕ) (sent : List Envelope) (m : Envelope) → Has m sent → (n : ℕ) × Has (Send n (shown_message m)) (send_lines number sent)
send_of number [] m h = absurd h
send_of number (x ∷ rest) m (inl e) = (number, inl (ap (λ (m : Envelope). Send number (shown_message m)) e))
send_of number (x ∷ rest) m (inr h) = let r = send_of (number + 1) rest m h in (r.0, inr r.1)

-- a line of a message shows the message with its number
at_send : (number : ℕ) (sent : List Envelope) (n : ℕ) (message : ShownMessage) → Has (Send n message) (send_lines number sent)
    → (k : ℕ) × (m : Envelope) × (n ≡ k + number) × (slice_get sent k ≡ Some m) × (message ≡ shown_message m)
at_send number [] n message h = absurd h
at_send number (x ∷ rest) n message (inl e) = let same : n ≡ number = cc in (0, x, omega arith, refl, cc)
at_send number (x ∷ rest) n message (inr h) =
    let r = at_send (number + 1) rest n message h in
    let place = r.2 in
    (suc r.0, r.1, omega arith, r.3, r.4)

-- ---- what an event sends

-- messages were sent after those of w
abbrev pub SendsMore : GrownWorld → GrownWorld → Type 0
SendsMore w v = (more : List Sealed) × (v.sent ≡ w.sent ++ more)

sends_nothing : (w : GrownWorld) → SendsMore w w
sends_nothing w = ([], sym (append-nil w.sent))

submit_sends : (w : GrownWorld) (coord proc : ℕ) (args : List ℤ) (after : GrownCoordState) (outs : List Outgoing) (r : Result TxnId GrownFault) (o : Outcome)
    → Submits w coord proc args after outs r o → SendsMore w o.world
submit_sends w coord proc args after outs (Ok id) o e = (map (sealed_by after.switched (Coord coord)) outs, ap (λ (x : Outcome). x.world.sent) e)
submit_sends w coord proc args after outs (Err Draining) o e = subst (λ (x : Outcome). SendsMore w x.world) (sym e) (sends_nothing w)
submit_sends w coord proc args after outs (Err (Plain fault.NoProc)) o e = subst (λ (x : Outcome). SendsMore w x.world) (sym e) (sends_nothing w)
submit_sends w coord proc args after outs (Err (Plain fault.Spent)) o e = subst (λ (x : Outcome). SendsMore w x.world) (sym e) (sends_nothing w)
submit_sends w coord proc args after outs (Err (Plain fault.Busy)) o e = subst (λ (x : Outcome). SendsMore w x.world) (sym e) (sends_nothing w)
submit_sends w coord proc args after outs (Err (Plain fault.Args)) o e = absurd e
submit_sends w coord proc args after outs (Err (Plain fault.NoMemory)) o e = absurd e

received_sends : (plan : Plan) (next : Option Next) (w : GrownWorld) (file : File) (msg : Msg) (to : Node) (o : Outcome) → IsReceived plan next w file msg to o → SendsMore w o.world
received_sends plan next w file msg (Server shard) o h = (map (sealed_by h.step.state.switched (Server shard)) h.step.sends, ap (λ (x : Outcome). x.world.sent) h.is)
received_sends plan next w file msg (Coord number) o (s, there, e) =
    let r = after_grown_message plan next s file msg in
    (map (sealed_by r.state.switched (Coord number)) r.sends, ap (λ (x : Outcome). x.world.sent) e)

tick_sends : (plan : Plan) (next : Option Next) (w : GrownWorld) (node : Node) (o : Outcome) → Ticks plan next w node o → SendsMore w o.world
tick_sends plan next w (Server shard) o (s, there, e) = (map (sealed_by s.switched (Server shard)) (grown_server_tick s), ap (λ (x : Outcome). x.world.sent) e)
tick_sends plan next w (Coord number) o (s, there, e) = (map (sealed_by s.switched (Coord number)) (grown_tick_sends plan next s), ap (λ (x : Outcome). x.world.sent) e)

stop_sends : (plan : Plan) (next : Option Next) (w : GrownWorld) (shard : Shard) (s : GrownServerState) (during : Option (ℕ × Kept)) (before : GrownWorld) (r : GrownStep)
    → StopsIn plan next w shard.0 s during before r → SendsMore w (started_again before shard.0 r).world
stop_sends plan next w shard s during before r stops =
    let sends = map (sealed_by r.state.switched (Server shard)) r.sends in
    let again = map (sealed_by r.state.switched (Server shard)) (grown_server_tick r.state) in
    (sends ++ again, ap (λ (l : List Sealed). (l ++ sends) ++ again) (same stops) ∙ append_assoc w.sent sends again)
  where
    same : {d : Option (ℕ × Kept)} {u : GrownWorld} {x : GrownStep} → StopsIn plan next w shard.0 s d u x → u.sent ≡ w.sent
    same at_rest = refl
    same (unrecorded k m sent) = refl
    same (recorded k many m whole sent handles) = refl

pub comes_sends : (plan : Plan) (next : Option Next) (w : GrownWorld) (e : Option Event) (o : Outcome) → Transition plan next w e o → SendsMore w o.world
comes_sends plan next w None o h = subst (λ (x : Outcome). SendsMore w x.world) (sym h) (sends_nothing w)
comes_sends plan next w (Some (event.Submit coord proc args)) o (call, s, there, h) =
    let r = after_grown_submit plan next s proc args in submit_sends w coord proc args r.state r.sends r.answer o h
comes_sends plan next w (Some (event.Deliver k)) o (m, some, there, h) = received_sends plan next (mark_delivered w k) m.file m.message.msg m.message.to o h
comes_sends plan next w (Some (event.Tick node)) o h = tick_sends plan next w node o h
comes_sends plan next w (Some (event.Stop shard during)) o x =
    subst (λ (o : Outcome). SendsMore w o.world) (sym x.is) (stop_sends plan next w shard x.state during x.before x.step x.stops)
comes_sends plan next w (Some (event.Drain number)) o (grows, s, there, e) =
    let r = after_drain plan s in (map (sealed_by r.state.switched (Coord number)) r.sends, ap (λ (x : Outcome). x.world.sent) e)

-- so no fewer are sent behind an event
pub sends_no_fewer : (plan : Plan) (next : Option Next) (w : GrownWorld) (e : Event) (o : Outcome) → Happens plan next w e o → length (messages_of w.sent) ≤ length (messages_of o.world.sent)
sends_no_fewer plan next w e o h =
    let s = comes_sends plan next w (Some e) o h in
    let long = ap length s.1 ∙ length-append w.sent s.0 in
    let one = many_messages w.sent in
    let other = many_messages o.world.sent in
    omega arith

-- ---- what the lines of a run show

record AreShown (messages : List Envelope) (lines : List Line) : Type 0 where
  pub sends : (line : Line) → Has line (send_lines 1 messages) → Has line lines
  pub sent : (number : ℕ) (message : ShownMessage) → Has (Send number message) lines → Has (Send number message) (send_lines 1 messages)

-- one step more
shown_more : (plan : Plan) (next : Option Next) (w : GrownWorld) (lines : List Line) (step : Stepped) → Transition plan next w step.event step.outcome → AreShown (messages_of w.sent) lines
    → AreShown (messages_of step.outcome.world.sent) (lines ++ step_lines (messages_of w.sent) step)
shown_more plan next w lines step h shown =
    let old = messages_of w.sent in
    let new = messages_of step.outcome.world.sent in
    let grown = comes_sends plan next w step.event step.outcome h in
    let longer : new ≡ old ++ messages_of grown.0 = ap messages_of grown.1 ∙ messages_behind w.sent grown.0 in
    let all : send_lines 1 new ≡ send_lines 1 old ++ new_lines old step =
    ap (send_lines 1) longer
    ∙ sends-append 1 old (messages_of grown.0)
    ∙ ap (λ (more : List Envelope). send_lines 1 old ++ send_lines (length old + 1) more) (sym (front_rest new old (messages_of grown.0) longer)) in
    record {
      sends = λ line k. elim (has_append line (send_lines 1 old) (new_lines old step) (subst (Has line) all k)) [
        | inl j ↦ has_left line lines (step_lines old step) (shown.sends line j)
        | inr j ↦ has_right line lines (step_lines old step) (has_right line (first_lines step.event step.outcome.seen) _ (has_left line (new_lines old step) (answer_lines step.outcome.seen) j))
      ];
      sent = λ number message k. subst (Has (Send number message)) (sym all) (elim (has_append (Send number message) lines (step_lines old step) k) [
        | inl j ↦ has_left (Send number message) (send_lines 1 old) (new_lines old step) (shown.sent number message j)
        | inr j ↦ has_right (Send number message) (send_lines 1 old) (new_lines old step) (step_says old step (Send number message) j)
      ]);
    }

run_shown : (plan : Plan) (next : Option Next) (coords : ℕ) (steps : List Stepped) (w : GrownWorld) → IsGrownRun plan next coords steps w → AreShown (messages_of w.sent) (steps_lines [] steps)
run_shown plan next coords steps w (at_first counted) = record { sends = λ line h. elim h [ ]; sent = λ number message h. elim h [ ] }
run_shown plan next coords steps w (steps_on {steps = before} {w = old} e o r h) =
    let step : Stepped = record { event = e; outcome = o } in
    subst (AreShown (messages_of o.world.sent)) (sym (run_lines plan next coords before old r step))
    (shown_more plan next old (steps_lines [] before) step h (run_shown plan next coords before old r))

-- ---- what a report shows

-- this is shown of the message with this number
abbrev pub IsSentAs : GrownWorld → ℕ → ShownMessage → Type 0
IsSentAs w number message = (m : Envelope) × (0 < number) × (slice_get (messages_of w.sent) (number - 1) ≡ Some m) × (message ≡ shown_message m)

module _ (plan : Plan) (next : Option Next) (coords : ℕ) (steps : List Stepped) (w : GrownWorld) (r : IsGrownRun plan next coords steps w) where
  abbrev lines : List Line
  lines = report steps w

  abbrev sent : List Envelope
  sent = messages_of w.sent

  shown : AreShown sent (steps_lines [] steps)
  shown = run_shown plan next coords steps w r

  -- each message that was sent
  pub sent_is_shown : (number : ℕ) (message : ShownMessage) → IsSentAs w number message → Has (Send number message) lines
  sent_is_shown number message (m, some, there, is) =
      let place : number - 1 + 1 ≡ number = omega arith in
      let own = subst (λ (n : ℕ). Has (Send n (shown_message m)) (send_lines 1 sent)) place (send_at 1 sent (number - 1) m there) in
      has_left (Send number message) (steps_lines [] steps) (closing_lines w) (subst (λ (x : ShownMessage). Has (Send number x) (steps_lines [] steps)) (sym is) (shown.sends (Send number (shown_message m)) own))

  -- and no other
  pub shown_is_sent : (number : ℕ) (message : ShownMessage) → Has (Send number message) lines → IsSentAs w number message
  shown_is_sent number message h = elim (has_append (Send number message) (steps_lines [] steps) (closing_lines w) h) [
    | inl k ↦
        (let q = at_send 1 sent number message (shown.sent number message k) in
        let place = q.2 in
        let index : q.0 ≡ number - 1 = omega arith in
        (q.1, omega arith, subst (λ (n : ℕ). slice_get sent n ≡ Some q.1) index q.3, q.4))
    | inr k ↦ elim (closing_says (λ k. ⊥) (λ n m. ⊥) w (Send number message) k) [ ]
  ]

  -- a message that was sent has a line
  pub message_is_shown : (m : Envelope) → Has m sent → (number : ℕ) × Has (Send number (shown_message m)) lines
  message_is_shown m h =
      let own = send_of 1 sent m h in
      (own.0, has_left (Send own.0 (shown_message m)) (steps_lines [] steps) (closing_lines w) (shown.sends (Send own.0 (shown_message m)) own.1))

  -- and each startok with its entries
  pub precedes_is_shown : (u t : TxnId) → PrecedesIn sent u t → IsShownBefore lines u t
  precedes_is_shown u t p =
      let m = p.told.message in
      let own = message_is_shown m p.told.has in
      record {
        number = own.0;
        message = shown_message m;
        shown = own.1;
        startok = ap message_kind p.told.is;
        of = id_is_shown m ∙ ap id_of p.told.is;
        entry = p.entry;
        listed = subst (Has p.entry) (sym (ap edges_of p.told.is)) p.listed;
        from = p.from;
      }
