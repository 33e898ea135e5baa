-- What the lines of a run show is the history and the order of its world, and so they explain themselves
use Rattle.std.proofs.Common.{◌≡◌, ◌≢◌, ◌↔◌, ℕ, ℤ, pos, ◌+◌, Bool, true, false, List, [], ◌∷◌, ◌++◌, Option, Some, None, Result, Ok, Err, map, refl, sym, ap, subst, ◌∙◌, inl, inr}
use Rattle.std.proofs.lemmas.Grind.{flat_map-append}
use Rattle.std.proofs.lemmas.List.{append-nil}
use Rattle.std.specs.List.{flat_map}
use Rattle.std.specs.Prelude.{length, drop}
use Rattle.roc_sequence.specs.Lists.{Has}
use Rattle.roc_base.specs.declared.id.TxnId.{TxnId}
use Rattle.roc_base.specs.declared.node.Node.{Node}
use Rattle.roc_base.specs.declared.node.Node.TheVariants.{Server, Coord}
use Rattle.roc_msg.specs.declared.msg.Msg.{Msg}
use Rattle.roc_msg.specs.declared.msg.Envelope.{Envelope}
use Rattle.roc_msg.specs.declared.outbox.Outgoing.{Outgoing}
use Rattle.roc_rows.specs.declared.cell.Cell.{Cell}
use Rattle.roc_rows.specs.Store.{read}
use Rattle.roc_depgraph.proofs.Chains.{weaker_chain}
use Rattle.roc_plan.specs.Groups.{Plan, is_view_of}
use Rattle.roc_program.specs.Program.{Workload}
use Rattle.roc_whole.specs.Serial.{serial_store, start_store}
use Rattle.roc_base.specs.declared.node.Shard.{Shard}
use Rattle.roc_law_protocol.specs.declared.event.Kept.{Kept}
use Rattle.roc_coord.specs.declared.handled.SubmitFault.TheVariants as fault
use Rattle.roc_audit.specs.declared.entry.Entry.{Entry}
use Rattle.roc_audit.specs.declared.entry.Entry.TheVariants as entry
use Rattle.roc_audit.specs.History.{IsToldOnce}
use Rattle.roc_audit.specs.Witness.{submitted_calls, IsSerialWitness}
use Rattle.roc_law_protocol.specs.Quiet as transactions
use Rattle.roc_epoch.specs.declared.file.File.{File}
use Rattle.roc_epoch.specs.declared.next.Next.{Next}
use Rattle.roc_epoch.specs.Files.{last_plan}
use Rattle.roc_grown.specs.declared.handled.GrownFault.{GrownFault}
use Rattle.roc_grown.specs.declared.handled.GrownFault.TheVariants.{Draining, Plain}
use Rattle.roc_grown.specs.declared.handled.GrownHandled.{GrownHandled}
use Rattle.roc_grown.specs.declared.handled.GrownHandled.TheVariants as server_answer
use Rattle.roc_grown.specs.declared.handled.GrownAnswer.{GrownAnswer}
use Rattle.roc_grown.specs.declared.handled.GrownAnswer.TheVariants as coord_answer
use Rattle.roc_grown.specs.Server.{GrownServerState, GrownStep}
use Rattle.roc_grown.specs.Coord.{GrownCoordState, after_grown_submit, after_grown_message}
use Rattle.roc_growth.specs.declared.event.Event.{Event}
use Rattle.roc_growth.specs.declared.event.Event.TheVariants as event
use Rattle.roc_growth.specs.declared.event.Seen.{Seen}
use Rattle.roc_growth.specs.declared.event.Seen.TheVariants as seen
use Rattle.roc_growth.specs.World.{GrownWorld, mark_delivered}
use Rattle.roc_growth.specs.Happens.{Outcome, Submits, server_seen, coord_seen, answer_entries, IsReceived, Ticks, StopsIn, at_rest, unrecorded, recorded, started_again, Happens}
use Rattle.roc_growth.specs.Quiet.{messages_of, PrecedesIn, is_told, AreDelivered, IsQuiet, IsInLastRound}
use Rattle.roc_growth.specs.Run.{Stepped, Transition, IsGrownRun, at_first, steps_on}
use Rattle.roc_growth.specs.Witness.{witness_of}
use Rattle.roc_world.specs.Reads.{cells_of, unanswered_of}
use Rattle.roc_report.specs.Line.{Submit, Deliver, Answer, Row, Pending}
use Rattle.roc_replay.specs.BoundLine.{last_program}
use Rattle.roc_replay.specs.Cells.{by_cell}
use Rattle.roc_replay.specs.Ended.{AnswersWhatIsQuiet}
use Rattle.roc_replay.specs.Report.{untaken_lines, first_lines, send_lines, answer_lines, step_lines, steps_lines, end_line, closing_lines, report}
use Rattle.roc_replay.specs.Readback.{entries_in, history_in, orders_of, orders_in, pending_in, cells_in, IgnoreOnlyStale, IsExplained}
use Rattle.roc_replay.proofs.Growing.{run_lines}
use Rattle.roc_replay.proofs.Deliveries.{looks_is_quiet}
use Rattle.roc_replay.proofs.ShownHistory.{submission_shown, answer_shown}

-- what shows nothing in each place shows nothing
pub none_in_map : {A B C : Type 0} (f : B → List C) (g : A → B) → ((a : A) → f (g a) ≡ []) → (xs : List A) → flat_map f (map g xs) ≡ []
none_in_map f g none [] = refl
none_in_map f g none (x ∷ xs) = ap (λ (l : List _). l ++ flat_map f (map g xs)) (none x) ∙ none_in_map f g none xs

pub none_in_both : {B C : Type 0} (f : B → List C) (xs ys : List B) → flat_map f xs ≡ [] → flat_map f ys ≡ [] → flat_map f (xs ++ ys) ≡ []
none_in_both {B} {C} f xs ys e d = flat_map-append f xs ys ∙ ap (λ (l : List C). l ++ flat_map f ys) e ∙ d

history_in-sends : (number : ℕ) (sent : List Envelope) → history_in (send_lines number sent) ≡ []
history_in-sends number [] = refl
history_in-sends number (s ∷ rest) = history_in-sends (number + 1) rest

orders_in-sends : (number : ℕ) (sent : List Envelope) → orders_in (send_lines number sent) ≡ []
orders_in-sends number [] = refl
orders_in-sends number (s ∷ rest) = orders_in-sends (number + 1) rest

-- ---- a step shows what it adds to the history

history_in-step : (before : List Envelope) (step : Stepped)
    → history_in (step_lines before step) ≡ history_in (first_lines step.event step.outcome.seen) ++ history_in (answer_lines step.outcome.seen)
history_in-step before step =
    let sends = send_lines (length before + 1) (drop (length before) (messages_of step.outcome.world.sent)) in
    flat_map-append entries_in (first_lines step.event step.outcome.seen) (sends ++ answer_lines step.outcome.seen)
    ∙ ap (λ (l : List Entry). history_in (first_lines step.event step.outcome.seen) ++ l)
    (flat_map-append entries_in sends (answer_lines step.outcome.seen)
    ∙ ap (λ (l : List Entry). l ++ history_in (answer_lines step.outcome.seen)) (history_in-sends (length before + 1) (drop (length before) (messages_of step.outcome.world.sent))))

-- o adds to the history of w what these lines show
Gains : GrownWorld → Option Event → Outcome → Type 0
Gains w e o = o.world.history ≡ w.history ++ (history_in (first_lines e o.seen) ++ history_in (answer_lines o.seen))

submit_gains : (w : GrownWorld) (coord proc : ℕ) (args : List ℤ) (after : GrownCoordState) (outs : List Outgoing) (r : Result TxnId GrownFault) (o : Outcome)
    → Submits w coord proc args after outs r o → Gains w (Some (event.Submit coord proc args)) o
unfolding Gains
submit_gains w coord proc args after outs (Ok id) o e = subst (λ (x : Outcome). Gains w (Some (event.Submit coord proc args)) x) (sym e) refl
submit_gains w coord proc args after outs (Err Draining) o e = subst (λ (x : Outcome). Gains w (Some (event.Submit coord proc args)) x) (sym e) (sym (append-nil w.history))
submit_gains w coord proc args after outs (Err (Plain fault.NoProc)) o e = subst (λ (x : Outcome). Gains w (Some (event.Submit coord proc args)) x) (sym e) (sym (append-nil w.history))
submit_gains w coord proc args after outs (Err (Plain fault.Spent)) o e = subst (λ (x : Outcome). Gains w (Some (event.Submit coord proc args)) x) (sym e) (sym (append-nil w.history))
submit_gains w coord proc args after outs (Err (Plain fault.Busy)) o e = subst (λ (x : Outcome). Gains w (Some (event.Submit coord proc args)) x) (sym e) (sym (append-nil w.history))
submit_gains w coord proc args after outs (Err (Plain fault.Args)) o e = absurd e
submit_gains w coord proc args after outs (Err (Plain fault.NoMemory)) o e = absurd e

server_shows : (k : ℕ) (a : GrownHandled) → history_in (Deliver k ∷ untaken_lines (server_seen a)) ++ history_in (answer_lines (server_seen a)) ≡ []
server_shows k server_answer.Done = refl
server_shows k server_answer.Gone = refl
server_shows k server_answer.Skipped = refl
server_shows k (server_answer.Ignored reason) = refl

coord_shows : (k : ℕ) (a : GrownAnswer) → history_in (Deliver k ∷ untaken_lines (coord_seen a)) ++ history_in (answer_lines (coord_seen a)) ≡ answer_entries a
coord_shows k coord_answer.Done = refl
coord_shows k (coord_answer.Answered id reply) = refl
coord_shows k coord_answer.Skipped = refl
coord_shows k (coord_answer.Ignored reason) = refl

received_gains : (plan : Plan) (next : Option Next) (w : GrownWorld) (k : ℕ) (file : File) (msg : Msg) (to : Node) (o : Outcome) → IsReceived plan next w file msg to o
    → Gains w (Some (event.Deliver k)) o
unfolding Gains
received_gains plan next w k file msg (Server shard) o h =
    subst (λ (x : Outcome). Gains w (Some (event.Deliver k)) x) (sym h.is)
    (sym (append-nil w.history) ∙ ap (λ (l : List Entry). w.history ++ l) (sym (server_shows k h.step.answer)))
received_gains plan next w k file msg (Coord number) o (s, there, e) =
    subst (λ (x : Outcome). Gains w (Some (event.Deliver k)) x) (sym e)
    (ap (λ (l : List Entry). w.history ++ l) (sym (coord_shows k (after_grown_message plan next s file msg).answer)))

tick_gains : (plan : Plan) (next : Option Next) (w : GrownWorld) (node : Node) (o : Outcome) → Ticks plan next w node o → Gains w (Some (event.Tick node)) o
unfolding Gains
tick_gains plan next w (Server shard) o (s, there, e) = subst (λ (x : Outcome). Gains w (Some (event.Tick (Server shard))) x) (sym e) (sym (append-nil w.history))
tick_gains plan next w (Coord number) o (s, there, e) = subst (λ (x : Outcome). Gains w (Some (event.Tick (Coord number))) x) (sym e) (sym (append-nil w.history))

stop_gains : (plan : Plan) (next : Option Next) (w : GrownWorld) (shard : Shard) (own : Option (ℕ × Kept)) (s : GrownServerState) (during : Option (ℕ × Kept)) (before : GrownWorld) (r : GrownStep)
    → StopsIn plan next w shard.0 s during before r → Gains w (Some (event.Stop shard own)) (started_again before shard.0 r)
unfolding Gains
stop_gains plan next w shard own s during before r at_rest = sym (append-nil w.history)
stop_gains plan next w shard own s during before r (unrecorded k m sent) = sym (append-nil w.history)
stop_gains plan next w shard own s during before r (recorded k many m whole sent handles) = sym (append-nil w.history)

happens_gains : (plan : Plan) (next : Option Next) (w : GrownWorld) (e : Event) (o : Outcome) → Happens plan next w e o → Gains w (Some e) o
unfolding Gains
happens_gains plan next w (event.Submit coord proc args) o (call, s, there, h) =
    let r = after_grown_submit plan next s proc args in submit_gains w coord proc args r.state r.sends r.answer o h
happens_gains plan next w (event.Deliver k) o (m, some, there, h) = received_gains plan next (mark_delivered w k) k m.file m.message.msg m.message.to o h
happens_gains plan next w (event.Tick node) o h = tick_gains plan next w node o h
happens_gains plan next w (event.Stop shard during) o x =
    subst (λ (o : Outcome). Gains w (Some (event.Stop shard during)) o) (sym x.is) (stop_gains plan next w shard during x.state during x.before x.step x.stops)
happens_gains plan next w (event.Drain number) o (grows, s, there, e) = subst (λ (o : Outcome). Gains w (Some (event.Drain number)) o) (sym e) refl

comes_gains : (plan : Plan) (next : Option Next) (w : GrownWorld) (e : Option Event) (o : Outcome) → Transition plan next w e o → Gains w e o
unfolding Gains
comes_gains plan next w (Some e) o h = happens_gains plan next w e o h
comes_gains plan next w None o h = subst (λ (x : Outcome). Gains w None x) (sym h) (sym (append-nil w.history))

-- the lines of a run show its history
pub run_history : (plan : Plan) (next : Option Next) (coords : ℕ) (steps : List Stepped) (w : GrownWorld) → IsGrownRun plan next coords steps w → history_in (steps_lines [] steps) ≡ w.history
unfolding Gains
run_history plan next coords steps w (at_first counted) = refl
run_history plan next coords steps w (steps_on {steps = before} {w = old} e o r h) =
    let step : Stepped = record { event = e; outcome = o } in
    ap history_in (run_lines plan next coords before old r step)
    ∙ flat_map-append entries_in (steps_lines [] before) (step_lines (messages_of old.sent) step)
    ∙ ap (λ (l : List Entry). l ++ history_in (step_lines (messages_of old.sent) step)) (run_history plan next coords before old r)
    ∙ ap (λ (l : List Entry). old.history ++ l) (history_in-step (messages_of old.sent) step)
    ∙ sym (comes_gains plan next old e o h)

-- ---- and no order

orders_in-first : (e : Option Event) (s : Seen) → orders_in (first_lines e s) ≡ []
orders_in-first None s = refl
orders_in-first (Some (event.Tick node)) s = refl
orders_in-first (Some (event.Stop shard during)) s = refl
orders_in-first (Some (event.Drain coord)) s = refl
orders_in-first (Some (event.Submit coord proc args)) (seen.Submitted id) = refl
orders_in-first (Some (event.Submit coord proc args)) seen.Spent = refl
orders_in-first (Some (event.Submit coord proc args)) seen.Busy = refl
orders_in-first (Some (event.Submit coord proc args)) seen.Draining = refl
orders_in-first (Some (event.Submit coord proc args)) seen.NoProc = refl
orders_in-first (Some (event.Submit coord proc args)) seen.Done = refl
orders_in-first (Some (event.Submit coord proc args)) (seen.Answered id reply) = refl
orders_in-first (Some (event.Submit coord proc args)) seen.Gone = refl
orders_in-first (Some (event.Submit coord proc args)) seen.Skipped = refl
orders_in-first (Some (event.Submit coord proc args)) (seen.Ignored reason) = refl
orders_in-first (Some (event.Deliver k)) (seen.Submitted id) = refl
orders_in-first (Some (event.Deliver k)) seen.Spent = refl
orders_in-first (Some (event.Deliver k)) seen.Busy = refl
orders_in-first (Some (event.Deliver k)) seen.Draining = refl
orders_in-first (Some (event.Deliver k)) seen.NoProc = refl
orders_in-first (Some (event.Deliver k)) seen.Done = refl
orders_in-first (Some (event.Deliver k)) (seen.Answered id reply) = refl
orders_in-first (Some (event.Deliver k)) seen.Gone = refl
orders_in-first (Some (event.Deliver k)) seen.Skipped = refl
orders_in-first (Some (event.Deliver k)) (seen.Ignored reason) = refl

orders_in-answer : (s : Seen) → orders_in (answer_lines s) ≡ []
orders_in-answer (seen.Answered id reply) = refl
orders_in-answer (seen.Submitted id) = refl
orders_in-answer seen.Spent = refl
orders_in-answer seen.Busy = refl
orders_in-answer seen.Draining = refl
orders_in-answer seen.NoProc = refl
orders_in-answer seen.Done = refl
orders_in-answer seen.Gone = refl
orders_in-answer seen.Skipped = refl
orders_in-answer (seen.Ignored reason) = refl

orders_in-steps : (before : List Envelope) (steps : List Stepped) → orders_in (steps_lines before steps) ≡ []
orders_in-steps before [] = refl
orders_in-steps before (step ∷ rest) =
    none_in_both orders_of (step_lines before step) (steps_lines (messages_of step.outcome.world.sent) rest)
    (none_in_both orders_of (first_lines step.event step.outcome.seen) _ (orders_in-first step.event step.outcome.seen)
    (none_in_both orders_of (send_lines (length before + 1) (drop (length before) (messages_of step.outcome.world.sent))) _ (orders_in-sends (length before + 1) (drop (length before) (messages_of step.outcome.world.sent))) (orders_in-answer step.outcome.seen)))
    (orders_in-steps (messages_of step.outcome.world.sent) rest)

-- ---- the closing lines show the order, and nothing of the history

closing_history : (w : GrownWorld) → history_in (closing_lines w) ≡ []
closing_history w =
    none_in_both entries_in (map (λ e. Row e.0 e.1) (by_cell (cells_of w))) _ (none_in_map entries_in (λ e. Row e.0 e.1) (λ e. refl) (by_cell (cells_of w)))
    (none_in_both entries_in (map Pending (unanswered_of w)) (end_line w ∷ []) (none_in_map entries_in Pending (λ id. refl) (unanswered_of w)) refl)

closing_orders : (w : GrownWorld) → orders_in (closing_lines w) ≡ witness_of w ∷ []
closing_orders w =
    ap (λ (l : List (List TxnId)). witness_of w ∷ l)
    (none_in_both orders_of (map (λ e. Row e.0 e.1) (by_cell (cells_of w))) _ (none_in_map orders_of (λ e. Row e.0 e.1) (λ e. refl) (by_cell (cells_of w)))
    (none_in_both orders_of (map Pending (unanswered_of w)) (end_line w ∷ []) (none_in_map orders_of Pending (λ id. refl) (unanswered_of w)) refl))

-- ---- a report

pub report_history : (plan : Plan) (next : Option Next) (coords : ℕ) (steps : List Stepped) (w : GrownWorld) → IsGrownRun plan next coords steps w → history_in (report steps w) ≡ w.history
report_history plan next coords steps w r =
    flat_map-append entries_in (steps_lines [] steps) (closing_lines w)
    ∙ ap (λ (l : List Entry). history_in (steps_lines [] steps) ++ l) (closing_history w)
    ∙ append-nil (history_in (steps_lines [] steps))
    ∙ run_history plan next coords steps w r

pub report_orders : (steps : List Stepped) (w : GrownWorld) → orders_in (report steps w) ≡ witness_of w ∷ []
report_orders steps w =
    flat_map-append orders_of (steps_lines [] steps) (closing_lines w)
    ∙ ap (λ (l : List (List TxnId)). l ++ orders_in (closing_lines w)) (orders_in-steps [] steps)
    ∙ closing_orders w

-- where the order with the views put in is a serial witness of the history, what is quiet is answered, and where nothing is pending the cells are serial
module _ (plan : Plan) (next : Option Next) (coords : ℕ) (steps : List Stepped) (w : GrownWorld)
    (of_transactions : (t : TxnId) (proc : ℕ) (args : List ℤ) → Has (entry.Submitted t proc args) w.history → is_view_of (last_plan plan next) proc ≡ false
    → AreDelivered (transactions.PrecedesIn (messages_of w.sent)) steps w t → (reply : List ℤ) × Has (entry.Answered t reply) w.history)
    (r : IsGrownRun plan next coords steps w) where
  abbrev last : Workload
  last = last_program plan next

  history : history_in (report steps w) ≡ w.history
  history = report_history plan next coords steps w r

  pub explained : IsSerialWitness last w.history (witness_of w)
      → (pending_in (report steps w) ≡ [] → (x : Cell) (v : ℤ)
      → Has (x, v) (cells_in (report steps w)) ↔ ((v ≢ pos 0) × (read (serial_store last (start_store last) (submitted_calls w.history (witness_of w))) x ≡ v)))
      → IsToldOnce w.history → IgnoreOnlyStale (report steps w) → IsExplained last (report steps w)
  explained serial cells told ignored =
      record {
        order = witness_of w;
        shown = report_orders steps w;
        serial = subst (λ (h : List Entry). IsSerialWitness last h (witness_of w)) (sym history) serial;
        cells = λ none x v.
            subst (λ (h : List Entry). Has (x, v) (cells_in (report steps w)) ↔ ((v ≢ pos 0) × (read (serial_store last (start_store last) (submitted_calls h (witness_of w))) x ≡ v)))
            (sym history) (cells none x v);
        answered = λ t proc args h plain looks.
            answer_shown steps w history t
            (of_transactions t proc args (submission_shown steps w history t proc args h) plain (looks_is_quiet plan next coords steps w r history t looks));
        told = subst IsToldOnce (sym history) told;
        ignored = ignored;
      }

  -- and what is quiet in the run is shown as answered
  pub quiet_answered :
      ((t : TxnId) (proc : ℕ) (args : List ℤ) → Has (entry.Submitted t proc args) w.history → is_view_of (last_plan plan next) proc ≡ true → IsQuiet plan next steps w t → ¬ IsInLastRound w t
      → (reply : List ℤ) × Has (entry.Answered t reply) w.history)
      → AnswersWhatIsQuiet plan next steps w (report steps w)
  quiet_answered of_views = record { each = each }
    where
      told : (u t : TxnId) → transactions.PrecedesIn (messages_of w.sent) u t → PrecedesIn plan next w u t
      told u t p = is_told p

      each : (t : TxnId) (proc : ℕ) (args : List ℤ) → Has (Submit t proc args) (report steps w) → IsQuiet plan next steps w t → ¬ IsInLastRound w t → (reply : List ℤ) × Has (Answer t reply) (report steps w)
      each t proc args h quiet short = go (is_view_of (last_plan plan next) proc) refl
        where
          submitted : Has (entry.Submitted t proc args) w.history
          submitted = submission_shown steps w history t proc args h

          go : (b : Bool) → is_view_of (last_plan plan next) proc ≡ b → (reply : List ℤ) × Has (Answer t reply) (report steps w)
          go true e = answer_shown steps w history t (of_views t proc args submitted e quiet short)
          go false e =
              answer_shown steps w history t
              (of_transactions t proc args submitted e (record {
                each = λ k m u there is chain.
                    quiet.each k m u there is (elim chain [ inl e ↦ inl e | inr c ↦ inr (weaker_chain (transactions.PrecedesIn (messages_of w.sent)) (PrecedesIn plan next w) told u t c) ]);
              }))
