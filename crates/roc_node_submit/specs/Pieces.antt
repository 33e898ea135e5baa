-- In how many writes a coordinator's node writes: docs/FORMATS.md, "Lines of nodes"
use Rattle.std.specs.Prelude.{◌≡◌, ℕ, Bool, true, false, List, [], ◌∷◌, ◌++◌, Option, if◌then◌else◌}
use Rattle.roc_io.specs.Observed.{Adds}
use Rattle.roc_io.specs.Sink.{AddsCut, text_piece}
use Rattle.roc_report.specs.Text.{lines_text as report_text}
use Rattle.roc_sched.specs.declared.line.Request.{Request}
use Rattle.roc_node.specs.NodeEvent.{NodeEvent, NodeSetting}
use Rattle.roc_node_submit.specs.declared.ends.SubmitEnd.{SubmitEnd}
use Rattle.roc_node_submit.specs.declared.ends.SubmitEnd.TheVariants.{Done, Unanswered, LinkFault, SinkFault, BookFault, NoMemory}
use Rattle.roc_node_submit.specs.CoordRun.{CoordNodeState, first_coord_node_state, is_answered, submissions_of, coord_submitted, coord_turn, step_of_event, reply_lines}
use Rattle.roc_node_submit.specs.SubmitEnd.{closing_text}

-- the lines of the submissions before a turn, as one text
abbrev pub submissions_text : NodeSetting → CoordNodeState → List ℕ
submissions_text S node = report_text S.plan.program (submissions_of S node).lines

-- the line of the reply that the event of the turn brings, if it brings one
abbrev pub reply_text : NodeSetting → CoordNodeState → NodeEvent → List ℕ
reply_text S node event = report_text S.plan.program (reply_lines (step_of_event S (coord_submitted S node).state event).answer)

-- The turns of a run, and what each of its writes gave: in each turn all lines of the submissions in one, and then the line of the reply in one. Where
-- there is no line, there is no write
pub data AreWritten (S : NodeSetting) (number : ℕ) (requests : List Request) : List NodeEvent → CoordNodeState → List (List ℕ) → Type 0 where
  none_written : AreWritten S number requests [] (first_coord_node_state number requests) []
  turn_written : {events : List NodeEvent} {node : CoordNodeState} {pieces : List (List ℕ)} (event : NodeEvent) → AreWritten S number requests events node pieces → is_answered node ≡ false
      → AreWritten S number requests (events ++ event ∷ []) (coord_turn S node event) (pieces ++ (text_piece (submissions_text S node) ++ text_piece (reply_text S node event)))

-- the same, or with the submissions of the next turn
abbrev pub half_pieces : NodeSetting → CoordNodeState → (half : Bool) → List (List ℕ) → List (List ℕ)
half_pieces S node half pieces = if half then pieces ++ text_piece (submissions_text S node) else pieces

-- the last lines were written
abbrev pub has_last_lines : SubmitEnd → Bool
has_last_lines Done = true
has_last_lines Unanswered = true
has_last_lines LinkFault = false
has_last_lines SinkFault = false
has_last_lines BookFault = false
has_last_lines NoMemory = false

-- they were not, and the sink did not fail
abbrev pub ends_in_turns : SubmitEnd → Bool
ends_in_turns LinkFault = true
ends_in_turns BookFault = true
ends_in_turns NoMemory = true
ends_in_turns Done = false
ends_in_turns Unanswered = false
ends_in_turns SinkFault = false

-- What each write gave until the end: those of the turns, and all last lines in one. One that failed took a front of its lines
pub data WritesTurnsInPieces (S : NodeSetting) (number : ℕ) (requests : List Request) (old new : Option (List (List ℕ))) : SubmitEnd → Type 0 where
  broken_off : (end : SubmitEnd) (events : List NodeEvent) (node : CoordNodeState) (half : Bool) (pieces : List (List ℕ)) → ends_in_turns end ≡ true
      → AreWritten S number requests events node pieces → Adds old new (half_pieces S node half pieces) → WritesTurnsInPieces S number requests old new end
  cut_submissions : (events : List NodeEvent) (node : CoordNodeState) (pieces : List (List ℕ)) → AreWritten S number requests events node pieces
      → AddsCut old new pieces (submissions_text S node) → WritesTurnsInPieces S number requests old new SinkFault
  cut_reply : (events : List NodeEvent) (node : CoordNodeState) (event : NodeEvent) (pieces : List (List ℕ)) → AreWritten S number requests events node pieces
      → AddsCut old new (half_pieces S node true pieces) (reply_text S node event) → WritesTurnsInPieces S number requests old new SinkFault
  cut_end : (events : List NodeEvent) (node : CoordNodeState) (pieces : List (List ℕ)) → AreWritten S number requests events node pieces
      → AddsCut old new pieces (closing_text node) → WritesTurnsInPieces S number requests old new SinkFault
  over : (end : SubmitEnd) (events : List NodeEvent) (node : CoordNodeState) (pieces : List (List ℕ)) → has_last_lines end ≡ true
      → AreWritten S number requests events node pieces → Adds old new (pieces ++ closing_text node ∷ []) → WritesTurnsInPieces S number requests old new end
