-- The report of a run, as lines: docs/FORMATS.md, "Report"
use Rattle.std.specs.Prelude.{ℕ, ℤ, ◌+◌, List, [], ◌∷◌, ◌++◌, drop, length, map, Bool, true, false, count_by, Option, Some, None}
use Rattle.roc_msg.specs.declared.msg.Envelope.{Envelope}
use Rattle.roc_audit.specs.declared.entry.Entry.{Entry}
use Rattle.roc_audit.specs.declared.entry.Entry.TheVariants as entry
use Rattle.roc_law_protocol.specs.declared.event.Kept.{Kept}
use Rattle.roc_law_protocol.specs.declared.event.Kept.TheVariants.{Lost, Sent}
use Rattle.roc_growth.specs.declared.event.Event.{Event}
use Rattle.roc_growth.specs.declared.event.Event.TheVariants as event
use Rattle.roc_growth.specs.declared.event.Seen.{Seen}
use Rattle.roc_growth.specs.declared.event.Seen.TheVariants as seen
use Rattle.roc_growth.specs.World.{GrownWorld}
use Rattle.roc_growth.specs.Run.{Stepped}
use Rattle.roc_growth.specs.Quiet.{messages_of}
use Rattle.roc_growth.specs.Witness.{witness_of}
use Rattle.roc_world.specs.Reads.{cells_of, unanswered_of}
use Rattle.roc_report.specs.Shown.{shown_message}
use Rattle.roc_report.specs.Line.{Line, Submit, Busy, Spent, Deliver, Nothing, Tick, Stopped, Drain, Draining, NoProc, Skipped, Gone, Ignored, Send, Answer, Order, Row, Pending, End}
use Rattle.roc_replay.specs.Cells.{by_cell}

-- ---- an event

-- the first line of a submission. Nothing else is seen of one
abbrev pub submission_lines : (coord proc : ℕ) → List ℤ → Seen → List Line
submission_lines coord proc args (seen.Submitted id) = Submit id proc args ∷ []
submission_lines coord proc args seen.Spent = Spent coord ∷ []
submission_lines coord proc args seen.Busy = Busy coord ∷ []
submission_lines coord proc args seen.Draining = Draining coord ∷ []
submission_lines coord proc args seen.NoProc = NoProc coord ∷ []
submission_lines coord proc args seen.Done = []
submission_lines coord proc args (seen.Answered id reply) = []
submission_lines coord proc args seen.Gone = []
submission_lines coord proc args seen.Skipped = []
submission_lines coord proc args (seen.Ignored reason) = []

-- that a message was skipped or came too late, or why it was ignored, if it was not taken
abbrev pub untaken_lines : Seen → List Line
untaken_lines (seen.Ignored reason) = Ignored reason ∷ []
untaken_lines seen.Gone = Gone ∷ []
untaken_lines seen.Skipped = Skipped ∷ []
untaken_lines (seen.Submitted id) = []
untaken_lines seen.Spent = []
untaken_lines seen.Busy = []
untaken_lines seen.Draining = []
untaken_lines seen.NoProc = []
untaken_lines seen.Done = []
untaken_lines (seen.Answered id reply) = []

-- the message at which a server stops, and how many of those that come of it were sent, where its record was kept
abbrev pub during_shown : Option (ℕ × Kept) → Option (ℕ × Option ℕ)
during_shown None = None
during_shown (Some (number, Lost)) = Some (number, None)
during_shown (Some (number, Sent many)) = Some (number, Some many)

-- what happened, and what became of it; no event is a choice that found nothing
abbrev pub first_lines : Option Event → Seen → List Line
first_lines None seen = Nothing ∷ []
first_lines (Some (event.Submit coord proc args)) seen = submission_lines coord proc args seen
first_lines (Some (event.Deliver number)) seen = Deliver number ∷ untaken_lines seen
first_lines (Some (event.Tick node)) seen = Tick node ∷ []
first_lines (Some (event.Stop shard during)) seen = Stopped shard (during_shown during) ∷ []
first_lines (Some (event.Drain coord)) seen = Drain coord ∷ []

-- the messages that were sent, the first of them with this number
abbrev pub send_lines : ℕ → List Envelope → List Line
send_lines number [] = []
send_lines number (sent ∷ rest) = Send number (shown_message sent) ∷ send_lines (number + 1) rest

-- the reply, if a transaction or a view has it now
abbrev pub answer_lines : Seen → List Line
answer_lines (seen.Answered id reply) = Answer id reply ∷ []
answer_lines (seen.Submitted id) = []
answer_lines seen.Spent = []
answer_lines seen.Busy = []
answer_lines seen.Draining = []
answer_lines seen.NoProc = []
answer_lines seen.Done = []
answer_lines seen.Gone = []
answer_lines seen.Skipped = []
answer_lines (seen.Ignored reason) = []

-- the lines of a step before which these messages were sent
abbrev pub step_lines : List Envelope → Stepped → List Line
step_lines before step =
    first_lines step.event step.outcome.seen
    ++ (send_lines (length before + 1) (drop (length before) (messages_of step.outcome.world.sent)) ++ answer_lines step.outcome.seen)

-- the lines of steps, one after another, before the first of which these messages were sent
abbrev pub steps_lines : List Envelope → List Stepped → List Line
steps_lines before [] = []
steps_lines before (step ∷ rest) = step_lines before step ++ steps_lines (messages_of step.outcome.world.sent) rest

-- ---- the end

abbrev pub is_answer : Entry → Bool
is_answer (entry.Answered id reply) = true
is_answer (entry.Submitted id proc args) = false

-- how many transactions and views were answered
abbrev pub answered_in : List Entry → ℕ
answered_in history = count_by is_answer history

abbrev pub end_line : GrownWorld → Line
end_line w = End (answered_in w.history) (length (unanswered_of w)) (length w.sent)

-- the serial order with the answered views put in, the cells that are not 0, the transactions and views without a reply, and the counts
abbrev pub closing_lines : GrownWorld → List Line
closing_lines w =
    Order (witness_of w) ∷ (map (λ e. Row e.0 e.1) (by_cell (cells_of w)) ++ (map Pending (unanswered_of w) ++ end_line w ∷ []))

abbrev pub is_busy : Line → Bool
is_busy (Busy coord) = true
is_busy _ = false

-- how many submissions were refused as busy
abbrev pub busy_in : List Line → ℕ
busy_in lines = count_by is_busy lines

-- ---- a run

-- the report of a run that these steps lead to w
abbrev pub report : List Stepped → GrownWorld → List Line
report steps w = steps_lines [] steps ++ closing_lines w
