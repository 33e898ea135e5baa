-- One turn of a coordinator's node, and several
use Rattle.std.specs.Prelude.{◌≡◌, ◌⊎◌, ℕ, ◌≤◌, Bool, true, false, List, [], ◌∷◌, ◌++◌, drop, take, length, map, Option, is_some, Result, Ok, Err, if◌then◌else◌}
use Rattle.roc_io.specs.Link.{LinkEvent, Reception, sending, receiving, vain}
use Rattle.roc_io.specs.Observed.{Adds, AddsFront}
use Rattle.roc_io.specs.Sink.{AddsCut, text_piece}
use Rattle.roc_io.specs.declared.sink.Written.{Written}
use Rattle.roc_io.specs.declared.sink.Written.TheVariants.{Ok as WrittenOk, Failed}
use Rattle.roc_coord.specs.State.{CoordState, CoordStep}
use Rattle.roc_msg.specs.declared.outbox.Outgoing.{Outgoing}
use Rattle.roc_program.specs.Program.{Workload}
use Rattle.roc_report.specs.Line.{Line}
use Rattle.roc_report.specs.Text.{lines_text as report_text}
use Rattle.roc_book.specs.declared.book.Book.{Ghosts as BookOf}
use Rattle.roc_book.specs.Call.{BookView, book_view, Keeps, KeepsFront}
use Rattle.roc_log.specs.declared.line.LogLine.{LogLine}
use Rattle.roc_log.specs.LogLine.{lines_text}
use Rattle.roc_sched.specs.declared.line.Request.{Request}
use Rattle.roc_io.specs.declared.link.Link.{Ghosts as LinkOf}
use Rattle.roc_io.specs.declared.sink.Sink.{Ghosts as SinkOf}
use Rattle.roc_io.specs.Call.{LinkView, link_view}
use Rattle.roc_node.specs.Moves.{Moves}
use Rattle.roc_node.specs.Posting.{none_heard, packets_for}
use Rattle.roc_node_submit.specs.declared.coord_node.CoordNode.{CoordNode}
use Rattle.roc_node_submit.specs.declared.coord_node.TurnOutput.{TurnOutput}
use Rattle.roc_node_submit.specs.declared.ends.SubmitEnd.{SubmitEnd}
use Rattle.roc_node_submit.specs.declared.ends.SubmitEnd.TheVariants.{Done, Unanswered, LinkFault, SinkFault, BookFault, NoMemory}
use Rattle.roc_node.specs.NodeEvent.{NodeEvent, receive_of, NodeSetting}
use Rattle.roc_node_submit.specs.CoordRun.{CoordNodeState, Submissions, none_submitted, IsCoordRun, accepts, submitted, submitted_all}
use Rattle.roc_node_submit.specs.CoordRun.{step_of_event, reply_lines, event_logged, answered_then, is_answered}
use Rattle.roc_node_submit.specs.SubmitEnd.{submit_link_failed, submit_sink_failed, submit_book_failed, closing_text}
use Rattle.roc_node_submit.specs.Pieces.{AreWritten}
use Rattle.roc_node.specs.Losing.{LosesOne}

-- a node that keeps this, sent these messages, asked this of its link, wrote these lines and has these in its log
abbrev pub coord_node_state_of : CoordNode → List Request → List Outgoing → List LinkEvent → List Line → List LogLine → CoordNodeState
coord_node_state_of coord_node requests messages traffic lines logged =
    record { state = coord_node.coord; left = drop coord_node.next requests; messages = messages; traffic = traffic; lines = lines; logged = logged; answered = coord_node.answered }

-- ---- a log

-- this text, where a log is kept
abbrev pub if_logged : (logs : Bool) → List ℕ → List ℕ
if_logged logs text = if logs then text else []

-- a book that is open gained this text, where a log is kept; else it is as it was
abbrev pub Gains : (logs : Bool) → (old new : BookView) → List ℕ → Type 0
Gains false old new text = new ≡ old
Gains true old new text = (new.opened ≡ old.opened) × Adds old.taken new.taken text

-- a piece was written: whole, or at a failure a front of it; without a log nothing fails
abbrev pub GainsBy : Written → (logs : Bool) → (old new : BookView) → List ℕ → Type 0
GainsBy WrittenOk logs old new text = Gains logs old new text
GainsBy Failed true old new text = (n : ℕ) × Gains true old new (take n text)
GainsBy Failed false old new text = ⊥

-- ---- what is told

-- what the link, the sink, by the writes too, and the book of a node tell at one time
pub record Seen : Type 0 where
  pub link : LinkView
  pub out : Option (List ℕ)
  pub pieces : Option (List (List ℕ))
  pub book : BookView

abbrev pub seen : {L S B : Type 0} → LinkOf L → SinkOf S → BookOf B → L → S → B → Seen
seen L S B link out book = record { link = link_view L link; out = S.taken out; pieces = S.pieces out; book = book_view B book }

-- the link was asked for this, the sink took this text, in these pieces, and the book this one
pub record Does (logs : Bool) (traffic : List LinkEvent) (text : List ℕ) (pieces : List (List ℕ)) (log : List ℕ) (old new : Seen) : Type 0 where
  pub moves : Moves old.link new.link traffic
  pub told : Adds old.out new.out text
  pub in_pieces : Adds old.pieces new.pieces pieces
  pub kept : Gains logs old.book new.book log

-- the link was asked for this, the book took this text, and the sink a front of its own, where it failed
pub record FailsSink (logs : Bool) (traffic : List LinkEvent) (text log : List ℕ) (old new : Seen) : Type 0 where
  pub moves : Moves old.link new.link traffic
  pub told : AddsFront old.out new.out text
  pub in_pieces : AddsCut old.pieces new.pieces [] text
  pub kept : Gains logs old.book new.book log

-- the link was asked for this, and the book took a front of this text, where it failed; the sink took nothing
pub record FailsBook (logs : Bool) (traffic : List LinkEvent) (log : List ℕ) (old new : Seen) : Type 0 where
  pub moves : Moves old.link new.link traffic
  pub told : Adds old.out new.out []
  pub in_pieces : new.pieces ≡ old.pieces
  pub kept : GainsBy Failed logs old.book new.book log

-- What became of what is due, of which this is logged. It goes to the book first, then to the sink, and then to the link, until one fails
abbrev pub PutsOut : Result (Unit {0}) SubmitEnd → (logs : Bool) → TurnOutput → (log : List ℕ) → (old new : Seen) → Type 0
PutsOut (Ok u) logs output log old new = Does logs (map sending output.sends.items) output.text.items (text_piece output.text.items) log old new
PutsOut (Err SinkFault) logs output log old new = FailsSink logs [] output.text.items log old new
PutsOut (Err BookFault) logs output log old new = FailsBook logs [] log old new
PutsOut (Err Done) logs output log old new = ⊥
PutsOut (Err Unanswered) logs output log old new = ⊥
PutsOut (Err LinkFault) logs output log old new = ⊥
PutsOut (Err NoMemory) logs output log old new = ⊥

-- ---- submissions

-- what is gathered of submissions: what is to be sent, written and logged
pub record Gathered : Type 0 where
  pub messages : List Outgoing
  pub text : List ℕ
  pub log : List ℕ

abbrev pub gathered : List Outgoing → (text log : List ℕ) → Gathered
gathered messages text log = record { messages = messages; text = text; log = log }

-- more was gathered: these messages, the text of these lines, and those of the log, where one is kept
pub record Gathers (program : Workload) (logs : Bool) (messages : List Outgoing) (lines : List Line) (logged : List LogLine) (old new : Gathered) : Type 0 where
  pub outbox : new.messages ≡ old.messages ++ messages
  pub text : new.text ≡ old.text ++ report_text program lines
  pub log : new.log ≡ old.log ++ if_logged logs (lines_text program logged)

-- a request was accepted
pub record SubmitsAccepted (S : NodeSetting) (logs : Bool) (request : Request) (old new : CoordState) (before after : Gathered) : Type 0 where
  pub messages : List Outgoing
  pub lines : List Line
  pub logged : List LogLine
  pub accepted : accepts S.plan old request ≡ true
  pub is : submitted S (none_submitted old) request ≡ record { state = new; left = []; messages = messages; lines = lines; logged = logged }
  pub gathers : Gathers S.plan.program logs messages lines logged before after

-- a request was refused, which changes nothing
pub record RefusesOne (S : NodeSetting) (request : Request) (old new : CoordState) (before after : Gathered) : Type 0 where
  pub refused : accepts S.plan old request ≡ false
  pub state : new ≡ old
  pub same : after ≡ before

abbrev pub SubmitsOne : (accepted : Bool) → NodeSetting → (logs : Bool) → Request → (old new : CoordState) → (before after : Gathered) → Type 0
SubmitsOne true S logs request old new before after = SubmitsAccepted S logs request old new before after
SubmitsOne false S logs request old new before after = RefusesOne S request old new before after

-- the submissions before a turn
pub record SubmitsSome (S : NodeSetting) (logs : Bool) (requests : List Request) (old new : CoordNode) (before after : Gathered) : Type 0 where
  pub messages : List Outgoing
  pub lines : List Line
  pub logged : List LogLine
  pub is : submitted_all S (none_submitted old.coord) (drop old.next requests) ≡ record { state = new.coord; left = drop new.next requests; messages = messages; lines = lines; logged = logged }
  pub answered : new.answered ≡ old.answered
  pub gathers : Gathers S.plan.program logs messages lines logged before after

-- the submissions before a turn were made: this is to be written and logged, and that to be sent
pub record SubmitsHalf (S : NodeSetting) (logs : Bool) (requests : List Request) (old new : CoordNode) (output : TurnOutput) : Type 0 where
  pub messages : List Outgoing
  pub lines : List Line
  pub logged : List LogLine
  pub is : submitted_all S (none_submitted old.coord) (drop old.next requests) ≡ record { state = new.coord; left = drop new.next requests; messages = messages; lines = lines; logged = logged }
  pub answered : new.answered ≡ old.answered
  pub shows : output.text.items ≡ report_text S.plan.program lines
  pub keeps : output.log.items ≡ if_logged logs (lines_text S.plan.program logged)
  pub gives : output.sends.items ≡ packets_for S.header S.cluster none_heard messages

-- ---- events

-- the core took a step of which these lines are logged: this is to be written and logged, and that to be sent
pub record TakesStep (S : NodeSetting) (logs : Bool) (r : CoordStep) (logged : List LogLine) (old new : CoordNode) (output : TurnOutput) : Type 0 where
  pub state : new.coord ≡ r.state
  pub next : new.next ≡ old.next
  pub answered : new.answered ≡ answered_then old.answered r.answer
  pub shows : output.text.items ≡ report_text S.plan.program (reply_lines r.answer)
  pub keeps : output.log.items ≡ if_logged logs (lines_text S.plan.program logged)
  pub gives : output.sends.items ≡ packets_for S.header S.cluster none_heard r.sends

-- what is logged of an event
abbrev pub logged_of : NodeSetting → CoordState → NodeEvent → List LogLine
logged_of S s event = event_logged S.header event (step_of_event S s event)

-- an event was taken
abbrev pub TakesHalf : NodeSetting → (logs : Bool) → NodeEvent → (old new : CoordNode) → TurnOutput → Type 0
TakesHalf S logs event old new output = TakesStep S logs (step_of_event S old.coord event) (logged_of S old.coord event) old new output

-- ---- what is due

abbrev pub half_link_failed : Result (Unit {0}) SubmitEnd → Bool
half_link_failed (Ok u) = false
half_link_failed (Err end) = submit_link_failed end

abbrev pub half_sink_failed : Result (Unit {0}) SubmitEnd → Bool
half_sink_failed (Ok u) = false
half_sink_failed (Err end) = submit_sink_failed end

abbrev pub half_book_failed : Result (Unit {0}) SubmitEnd → Bool
half_book_failed (Ok u) = false
half_book_failed (Err end) = submit_book_failed end

-- what comes of the submissions before a turn
abbrev pub submissions_from : NodeSetting → List Request → CoordNode → Submissions
submissions_from S requests old = submitted_all S (none_submitted old.coord) (drop old.next requests)

-- what the submissions before a turn did to the link, the sink and the book
abbrev pub HalfSubmits : Result (Unit {0}) SubmitEnd → NodeSetting → (logs : Bool) → List Request → (old new : CoordNode) → (before after : Seen) → Type 0
HalfSubmits (Ok u) S logs requests old new before after =
    (output : TurnOutput) × (h : SubmitsHalf S logs requests old new output)
    × Does logs (map sending output.sends.items) output.text.items (text_piece output.text.items) (lines_text S.plan.program h.logged) before after
HalfSubmits (Err NoMemory) S logs requests old new before after = Does logs [] [] [] [] before after
HalfSubmits (Err SinkFault) S logs requests old new before after =
    FailsSink logs [] (report_text S.plan.program (submissions_from S requests old).lines) (lines_text S.plan.program (submissions_from S requests old).logged) before after
HalfSubmits (Err BookFault) S logs requests old new before after = FailsBook logs [] (lines_text S.plan.program (submissions_from S requests old).logged) before after
HalfSubmits (Err Done) S logs requests old new before after = ⊥
HalfSubmits (Err Unanswered) S logs requests old new before after = ⊥
HalfSubmits (Err LinkFault) S logs requests old new before after = ⊥

-- one receive gave an event, and this is due for it
pub record TakesEventDue (S : NodeSetting) (logs : Bool) (old new : CoordNode) (output : TurnOutput) (link_old link_new : LinkView) : Type 0 where
  pub event : NodeEvent
  pub takes : TakesHalf S logs event old new output
  pub moves : Moves link_old link_new (receive_of event ∷ [])

-- what one receive gives
abbrev pub TakesOneHalf : Result TurnOutput SubmitEnd → NodeSetting → (logs : Bool) → (old new : CoordNode) → LinkView → LinkView → Type 0
TakesOneHalf (Ok output) S logs old new link_old link_new = TakesEventDue S logs old new output link_old link_new
TakesOneHalf (Err NoMemory) S logs old new link_old link_new = LosesOne link_old link_new
TakesOneHalf (Err LinkFault) S logs old new link_old link_new = Moves link_old link_new (receiving vain ∷ [])
TakesOneHalf (Err Done) S logs old new link_old link_new = ⊥
TakesOneHalf (Err Unanswered) S logs old new link_old link_new = ⊥
TakesOneHalf (Err SinkFault) S logs old new link_old link_new = ⊥
TakesOneHalf (Err BookFault) S logs old new link_old link_new = ⊥

abbrev pub due_failed : Result TurnOutput SubmitEnd → Bool
due_failed (Ok output) = false
due_failed (Err end) = submit_link_failed end

-- what a turn's receive did
abbrev pub HalfTakes : Result (Unit {0}) SubmitEnd → NodeSetting → (logs : Bool) → (old new : CoordNode) → (before after : Seen) → Type 0
HalfTakes (Ok u) S logs old new before after =
    (event : NodeEvent) × (output : TurnOutput) × TakesHalf S logs event old new output
    × Does logs (receive_of event ∷ map sending output.sends.items) output.text.items (text_piece output.text.items) (lines_text S.plan.program (logged_of S old.coord event)) before after
HalfTakes (Err NoMemory) S logs old new before after = (last : List Reception) × (length last ≤ 1) × Does logs (map receiving last) [] [] [] before after
HalfTakes (Err LinkFault) S logs old new before after = Does logs (receiving vain ∷ []) [] [] [] before after
HalfTakes (Err SinkFault) S logs old new before after =
    (event : NodeEvent) × FailsSink logs (receive_of event ∷ []) (report_text S.plan.program (reply_lines (step_of_event S old.coord event).answer))
    (lines_text S.plan.program (logged_of S old.coord event)) before after
HalfTakes (Err BookFault) S logs old new before after = (event : NodeEvent) × FailsBook logs (receive_of event ∷ []) (lines_text S.plan.program (logged_of S old.coord event)) before after
HalfTakes (Err Done) S logs old new before after = ⊥
HalfTakes (Err Unanswered) S logs old new before after = ⊥

-- so many events led from a coordinator's start to this
pub record CoordRanSo (S : NodeSetting) (logs : Bool) (number : ℕ) (requests : List Request) (count : ℕ) (coord_node : CoordNode) (before after : Seen) : Type 0 where
  pub events : List NodeEvent
  pub messages : List Outgoing
  pub traffic : List LinkEvent
  pub lines : List Line
  pub logged : List LogLine
  pub counted : length events ≡ count
  pub run : IsCoordRun S number requests events (coord_node_state_of coord_node requests messages traffic lines logged)
  pub pieces : List (List ℕ)
  pub written : AreWritten S number requests events (coord_node_state_of coord_node requests messages traffic lines logged) pieces
  pub does : Does logs traffic (report_text S.plan.program lines) pieces (lines_text S.plan.program logged) before after

-- the last lines were written, or a front of them, or nothing
abbrev pub ClosesSubmit : SubmitEnd → CoordNodeState → Option (List ℕ) → Option (List ℕ) → Type 0
ClosesSubmit Done node old new = (is_answered node ≡ true) × Adds old new (closing_text node)
ClosesSubmit Unanswered node old new = (is_answered node ≡ false) × Adds old new (closing_text node)
ClosesSubmit SinkFault node old new = AddsFront old new (closing_text node)
ClosesSubmit NoMemory node old new = new ≡ old
ClosesSubmit LinkFault node old new = ⊥
ClosesSubmit BookFault node old new = ⊥

-- in one write, or a front of them, or none
abbrev pub ClosesSubmitInPiece : SubmitEnd → CoordNodeState → Option (List (List ℕ)) → Option (List (List ℕ)) → Type 0
ClosesSubmitInPiece Done node old new = Adds old new (closing_text node ∷ [])
ClosesSubmitInPiece Unanswered node old new = Adds old new (closing_text node ∷ [])
ClosesSubmitInPiece SinkFault node old new = AddsCut old new [] (closing_text node)
ClosesSubmitInPiece NoMemory node old new = new ≡ old
ClosesSubmitInPiece LinkFault node old new = ⊥
ClosesSubmitInPiece BookFault node old new = ⊥

-- a log was begun, if one is kept; or why not, and what the book took until then
abbrev pub Begins : Result (Unit {0}) SubmitEnd → (log : Option (List ℕ)) → (first : List ℕ) → (old new : BookView) → Type 0
Begins (Ok u) log first old new = Keeps log (record { old = old; new = new }) first
Begins (Err NoMemory) log first old new = (is_some log ≡ true) × (new ≡ old)
Begins (Err BookFault) log first old new = (is_some log ≡ true) × ((new ≡ old) ⊎ KeepsFront log (record { old = old; new = new }) [] first)
Begins (Err Done) log first old new = ⊥
Begins (Err Unanswered) log first old new = ⊥
Begins (Err LinkFault) log first old new = ⊥
Begins (Err SinkFault) log first old new = ⊥
