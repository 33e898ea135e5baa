-- One turn of a coordinator's node that may go over to a grown workload, and several
use Rattle.std.specs.Prelude.{◌≡◌, ℕ, ◌≤◌, Bool, true, false, List, [], ◌∷◌, ◌++◌, drop, length, map, Option, Result, Ok, Err}
use Rattle.roc_grown.specs.Coord.{GrownCoordState, GrownCoordStep}
use Rattle.roc_grown_node.specs.Posting.{Filed, grown_packets_for}
use Rattle.roc_grown_node.specs.Setting.{GrownNodeSetting}
use Rattle.roc_grown_submit.specs.GrownCoordRun.{GrownCoordNodeState, GrownSubmissions, IsGrownCoordRun, are_all_answered, drained_first, grown_accepts, grown_submitted, grown_submitted_all}
use Rattle.roc_grown_submit.specs.GrownCoordRun.{submitted_first, submitted_later, grown_submissions_of}
use Rattle.roc_grown_submit.specs.GrownCoordRun.{grown_step_of_event, grown_reply_lines, grown_answered_then}
use Rattle.roc_grown_submit.specs.GrownEnd.{naming, grown_closing_text}
use Rattle.roc_grown_submit.specs.GrownPieces.{AreGrownWritten}
use Rattle.roc_grown_submit.specs.declared.coord_node.CoordNode.{CoordNode}
use Rattle.roc_grown_submit.specs.declared.coord_node.TurnOutput.{TurnOutput}
use Rattle.roc_io.specs.Call.{LinkView, link_view}
use Rattle.roc_io.specs.Link.{LinkEvent, Reception, sending, receiving, vain}
use Rattle.roc_io.specs.Observed.{Adds, AddsFront}
use Rattle.roc_io.specs.Sink.{AddsCut, text_piece}
use Rattle.roc_io.specs.declared.link.Link.{Ghosts as LinkOf}
use Rattle.roc_io.specs.declared.sink.Sink.{Ghosts as SinkOf}
use Rattle.roc_msg.specs.declared.outbox.Outgoing.{Outgoing}
use Rattle.roc_node.specs.Losing.{LosesOne}
use Rattle.roc_node.specs.Moves.{Moves}
use Rattle.roc_node.specs.NodeEvent.{NodeEvent, receive_of}
use Rattle.roc_node.specs.Posting.{none_heard}
use Rattle.roc_node_submit.specs.SubmitEnd.{submit_link_failed, submit_sink_failed, submit_book_failed}
use Rattle.roc_node_submit.specs.declared.ends.SubmitEnd.{SubmitEnd}
use Rattle.roc_node_submit.specs.declared.ends.SubmitEnd.TheVariants.{Done, Unanswered, LinkFault, SinkFault, BookFault, NoMemory}
use Rattle.roc_program.specs.Program.{Workload}
use Rattle.roc_report.specs.Line.{Line}
use Rattle.roc_report.specs.Text.{lines_text}
use Rattle.roc_sched.specs.declared.line.Request.{Request}

-- a node that keeps this, sent these messages, asked this of its link and wrote these lines
abbrev pub grown_node_of : CoordNode → (requests later : List Request) → List Filed → List LinkEvent → List Line → GrownCoordNodeState
grown_node_of coord_node requests later messages traffic lines = record {
  state = coord_node.coord;
  left = drop coord_node.first requests;
  later = drop coord_node.second later;
  messages = messages;
  traffic = traffic;
  lines = lines;
  answered = coord_node.answered;
}

-- a node of which only that is asked what it keeps
abbrev pub bare_node : CoordNode → (requests later : List Request) → GrownCoordNodeState
bare_node coord_node requests later = grown_node_of coord_node requests later [] [] []

-- ---- what is told

-- what the link and the sink, by the writes too, of a node tell at one time
pub record Seen : Type 0 where
  pub link : LinkView
  pub out : Option (List ℕ)
  pub pieces : Option (List (List ℕ))

abbrev pub seen : {L S : Type 0} → LinkOf L → SinkOf S → L → S → Seen
seen L S link out = record { link = link_view L link; out = S.taken out; pieces = S.pieces out }

-- the link was asked for this, and the sink took this text, in these pieces
pub record Does (traffic : List LinkEvent) (text : List ℕ) (pieces : List (List ℕ)) (old new : Seen) : Type 0 where
  pub moves : Moves old.link new.link traffic
  pub told : Adds old.out new.out text
  pub in_pieces : Adds old.pieces new.pieces pieces

-- the link was asked for this, and the sink took a front of this text, where it failed
pub record FailsSink (traffic : List LinkEvent) (text : List ℕ) (old new : Seen) : Type 0 where
  pub moves : Moves old.link new.link traffic
  pub told : AddsFront old.out new.out text
  pub in_pieces : AddsCut old.pieces new.pieces [] text

-- What became of what is due. It goes to the sink first, and then to the link, until one fails
abbrev pub PutsOut : Result (Unit {0}) SubmitEnd → TurnOutput → (old new : Seen) → Type 0
PutsOut (Ok u) output old new = Does (map sending output.sends.items) output.text.items (text_piece output.text.items) old new
PutsOut (Err SinkFault) output old new = FailsSink [] output.text.items old new
PutsOut (Err Done) output old new = ⊥
PutsOut (Err Unanswered) output old new = ⊥
PutsOut (Err LinkFault) output old new = ⊥
PutsOut (Err BookFault) output old new = ⊥
PutsOut (Err NoMemory) output old new = ⊥

-- ---- before a turn

abbrev pub made : GrownCoordState → (left later : List Request) → List Outgoing → List Line → GrownSubmissions
made state left later messages lines = record { state = state; left = left; later = later; messages = messages; lines = lines }

-- what is gathered of a drain and of submissions: what is to be sent and written
pub record Gathered : Type 0 where
  pub messages : List Outgoing
  pub text : List ℕ

abbrev pub gathered : List Outgoing → (text : List ℕ) → Gathered
gathered messages text = record { messages = messages; text = text }

-- more was gathered: these messages, and the text of these lines
pub record Gathers (program : Workload) (messages : List Outgoing) (lines : List Line) (old new : Gathered) : Type 0 where
  pub outbox : new.messages ≡ old.messages ++ messages
  pub text : new.text ≡ old.text ++ lines_text program lines

-- where these are left, a coordinator drained, or not, and this is to be sent
pub record DrainsFirst (S : GrownNodeSetting) (left : List Request) (old new : GrownCoordState) (before after : List Outgoing) : Type 0 where
  pub messages : List Outgoing
  pub is : (later : List Request) (some : List Outgoing) (lines : List Line) → drained_first S (made old left later some lines) ≡ made new left later (some ++ messages) lines
  pub outbox : after ≡ before ++ messages

-- a request was accepted
pub record SubmitsAccepted (S : GrownNodeSetting) (request : Request) (old new : GrownCoordState) (before after : Gathered) : Type 0 where
  pub messages : List Outgoing
  pub lines : List Line
  pub accepted : grown_accepts S old request ≡ true
  pub is : (left later : List Request) (some : List Outgoing) (told : List Line)
      → grown_submitted S (made old left later some told) request ≡ made new left later (some ++ messages) (told ++ lines)
  pub gathers : Gathers (naming S) messages lines before after

-- a request was refused, which changes nothing
pub record RefusesOne (S : GrownNodeSetting) (request : Request) (old new : GrownCoordState) (before after : Gathered) : Type 0 where
  pub refused : grown_accepts S old request ≡ false
  pub state : new ≡ old
  pub same : after ≡ before

abbrev pub SubmitsOne : (accepted : Bool) → GrownNodeSetting → Request → (old new : GrownCoordState) → (before after : Gathered) → Type 0
SubmitsOne true S request old new before after = SubmitsAccepted S request old new before after
SubmitsOne false S request old new before after = RefusesOne S request old new before after

-- so many of these requests were accepted, and the next one, if any, was refused
pub record SubmitsSome (S : GrownNodeSetting) (requests : List Request) (count : ℕ) (old new : GrownCoordState) (before after : Gathered) : Type 0 where
  pub messages : List Outgoing
  pub lines : List Line
  pub is : (left later : List Request) (some : List Outgoing) (told : List Line)
      → grown_submitted_all S (made old left later some told) requests ≡ made new (drop count requests) later (some ++ messages) (told ++ lines)
  pub gathers : Gathers (naming S) messages lines before after

-- those of the first file that were left were submitted, until one was refused
pub record SubmitsFirst (S : GrownNodeSetting) (requests : List Request) (old new : CoordNode) (before after : Gathered) : Type 0 where
  pub messages : List Outgoing
  pub lines : List Line
  pub is : (later : List Request) (some : List Outgoing) (told : List Line)
      → submitted_first S (made old.coord (drop old.first requests) later some told) ≡ made new.coord (drop new.first requests) later (some ++ messages) (told ++ lines)
  pub second : new.second ≡ old.second
  pub answered : new.answered ≡ old.answered
  pub gathers : Gathers (naming S) messages lines before after

-- and those of the second file, where it was their turn
pub record SubmitsLater (S : GrownNodeSetting) (left later : List Request) (old new : CoordNode) (before after : Gathered) : Type 0 where
  pub messages : List Outgoing
  pub lines : List Line
  pub is : (some : List Outgoing) (told : List Line)
      → submitted_later S (made old.coord left (drop old.second later) some told) ≡ made new.coord left (drop new.second later) (some ++ messages) (told ++ lines)
  pub first : new.first ≡ old.first
  pub answered : new.answered ≡ old.answered
  pub gathers : Gathers (naming S) messages lines before after

-- all that is due before a turn was gathered
pub record GathersAll (S : GrownNodeSetting) (requests later : List Request) (old new : CoordNode) (before after : Gathered) : Type 0 where
  pub messages : List Outgoing
  pub lines : List Line
  pub is : grown_submissions_of S (bare_node old requests later) ≡ made new.coord (drop new.first requests) (drop new.second later) messages lines
  pub answered : new.answered ≡ old.answered
  pub gathers : Gathers (naming S) messages lines before after

-- the drain and the submissions before a turn were made: this is to be written, and that to be sent
pub record SubmitsHalf (S : GrownNodeSetting) (requests later : List Request) (old new : CoordNode) (output : TurnOutput) : Type 0 where
  pub messages : List Outgoing
  pub lines : List Line
  pub is : grown_submissions_of S (bare_node old requests later) ≡ made new.coord (drop new.first requests) (drop new.second later) messages lines
  pub answered : new.answered ≡ old.answered
  pub shows : output.text.items ≡ lines_text (naming S) lines
  pub gives : output.sends.items ≡ grown_packets_for S new.coord.switched none_heard messages

-- ---- events

-- the core took a step: this is to be written, and that to be sent
pub record TakesStep (S : GrownNodeSetting) (r : GrownCoordStep) (old new : CoordNode) (output : TurnOutput) : Type 0 where
  pub state : new.coord ≡ r.state
  pub first : new.first ≡ old.first
  pub second : new.second ≡ old.second
  pub answered : new.answered ≡ grown_answered_then old.answered r.answer
  pub shows : output.text.items ≡ lines_text (naming S) (grown_reply_lines r.answer)
  pub gives : output.sends.items ≡ grown_packets_for S r.state.switched none_heard r.sends

-- an event was taken
abbrev pub TakesHalf : GrownNodeSetting → NodeEvent → (old new : CoordNode) → TurnOutput → Type 0
TakesHalf S event old new output = TakesStep S (grown_step_of_event S old.coord event) old new output

-- ---- what is due

abbrev pub half_link_failed : Result (Unit {0}) SubmitEnd → Bool
half_link_failed (Ok u) = false
half_link_failed (Err end) = submit_link_failed end

abbrev pub half_sink_failed : Result (Unit {0}) SubmitEnd → Bool
half_sink_failed (Ok u) = false
half_sink_failed (Err end) = submit_sink_failed end

-- there is no log that could fail
abbrev pub half_book_failed : Result (Unit {0}) SubmitEnd → Bool
half_book_failed (Ok u) = false
half_book_failed (Err end) = submit_book_failed end

-- the lines of the submissions before a turn
abbrev pub lines_from : GrownNodeSetting → (requests later : List Request) → CoordNode → List Line
lines_from S requests later old = (grown_submissions_of S (bare_node old requests later)).lines

-- what the drain and the submissions before a turn did to the link and the sink
abbrev pub HalfSubmits : Result (Unit {0}) SubmitEnd → GrownNodeSetting → (requests later : List Request) → (old new : CoordNode) → (before after : Seen) → Type 0
HalfSubmits (Ok u) S requests later old new before after =
    (output : TurnOutput) × SubmitsHalf S requests later old new output × Does (map sending output.sends.items) output.text.items (text_piece output.text.items) before after
HalfSubmits (Err NoMemory) S requests later old new before after = Does [] [] [] before after
HalfSubmits (Err SinkFault) S requests later old new before after = FailsSink [] (lines_text (naming S) (lines_from S requests later old)) before after
HalfSubmits (Err Done) S requests later old new before after = ⊥
HalfSubmits (Err Unanswered) S requests later old new before after = ⊥
HalfSubmits (Err LinkFault) S requests later old new before after = ⊥
HalfSubmits (Err BookFault) S requests later old new before after = ⊥

-- one receive gave an event, and this is due for it
pub record TakesEventDue (S : GrownNodeSetting) (old new : CoordNode) (output : TurnOutput) (link_old link_new : LinkView) : Type 0 where
  pub event : NodeEvent
  pub takes : TakesHalf S event old new output
  pub moves : Moves link_old link_new (receive_of event ∷ [])

-- what one receive gives
abbrev pub TakesOneHalf : Result TurnOutput SubmitEnd → GrownNodeSetting → (old new : CoordNode) → LinkView → LinkView → Type 0
TakesOneHalf (Ok output) S old new link_old link_new = TakesEventDue S old new output link_old link_new
TakesOneHalf (Err NoMemory) S old new link_old link_new = LosesOne link_old link_new
TakesOneHalf (Err LinkFault) S old new link_old link_new = Moves link_old link_new (receiving vain ∷ [])
TakesOneHalf (Err Done) S old new link_old link_new = ⊥
TakesOneHalf (Err Unanswered) S old new link_old link_new = ⊥
TakesOneHalf (Err SinkFault) S old new link_old link_new = ⊥
TakesOneHalf (Err BookFault) S old new link_old link_new = ⊥

abbrev pub due_failed : Result TurnOutput SubmitEnd → Bool
due_failed (Ok output) = false
due_failed (Err end) = submit_link_failed end

abbrev pub due_book_failed : Result TurnOutput SubmitEnd → Bool
due_book_failed (Ok output) = false
due_book_failed (Err end) = submit_book_failed end

-- the lines of what the core makes of an event
abbrev pub lines_then : GrownNodeSetting → GrownCoordState → NodeEvent → List Line
lines_then S s event = grown_reply_lines (grown_step_of_event S s event).answer

-- what a turn's receive did
abbrev pub HalfTakes : Result (Unit {0}) SubmitEnd → GrownNodeSetting → (old new : CoordNode) → (before after : Seen) → Type 0
HalfTakes (Ok u) S old new before after =
    (event : NodeEvent) × (output : TurnOutput) × TakesHalf S event old new output
    × Does (receive_of event ∷ map sending output.sends.items) output.text.items (text_piece output.text.items) before after
HalfTakes (Err NoMemory) S old new before after = (last : List Reception) × (length last ≤ 1) × Does (map receiving last) [] [] before after
HalfTakes (Err LinkFault) S old new before after = Does (receiving vain ∷ []) [] [] before after
HalfTakes (Err SinkFault) S old new before after = (event : NodeEvent) × FailsSink (receive_of event ∷ []) (lines_text (naming S) (lines_then S old.coord event)) before after
HalfTakes (Err Done) S old new before after = ⊥
HalfTakes (Err Unanswered) S old new before after = ⊥
HalfTakes (Err BookFault) S old new before after = ⊥

-- so many events led from a coordinator's start to this
pub record GrownRanSo (S : GrownNodeSetting) (number : ℕ) (requests later : List Request) (count : ℕ) (coord_node : CoordNode) (before after : Seen) : Type 0 where
  pub events : List NodeEvent
  pub messages : List Filed
  pub traffic : List LinkEvent
  pub lines : List Line
  pub counted : length events ≡ count
  pub run : IsGrownCoordRun S number requests later events (grown_node_of coord_node requests later messages traffic lines)
  pub pieces : List (List ℕ)
  pub written : AreGrownWritten S number requests later events (grown_node_of coord_node requests later messages traffic lines) pieces
  pub does : Does traffic (lines_text (naming S) lines) pieces before after

-- the last lines were written, or a front of them, or nothing
abbrev pub ClosesGrown : SubmitEnd → GrownCoordNodeState → Option (List ℕ) → Option (List ℕ) → Type 0
ClosesGrown Done node old new = (are_all_answered node ≡ true) × Adds old new (grown_closing_text node)
ClosesGrown Unanswered node old new = (are_all_answered node ≡ false) × Adds old new (grown_closing_text node)
ClosesGrown SinkFault node old new = AddsFront old new (grown_closing_text node)
ClosesGrown NoMemory node old new = new ≡ old
ClosesGrown LinkFault node old new = ⊥
ClosesGrown BookFault node old new = ⊥

-- in one write, or a front of them, or none
abbrev pub ClosesGrownInPiece : SubmitEnd → GrownCoordNodeState → Option (List (List ℕ)) → Option (List (List ℕ)) → Type 0
ClosesGrownInPiece Done node old new = Adds old new (grown_closing_text node ∷ [])
ClosesGrownInPiece Unanswered node old new = Adds old new (grown_closing_text node ∷ [])
ClosesGrownInPiece SinkFault node old new = AddsCut old new [] (grown_closing_text node)
ClosesGrownInPiece NoMemory node old new = new ≡ old
ClosesGrownInPiece LinkFault node old new = ⊥
ClosesGrownInPiece BookFault node old new = ⊥
