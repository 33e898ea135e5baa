-- In how many writes a coordinator's node writes that may go over to a grown workload: docs/FORMATS.md, "Lines of nodes"
use Rattle.std.specs.Prelude.{◌≡◌, ℕ, Bool, true, false, List, [], ◌∷◌, ◌++◌, Option, if◌then◌else◌}
use Rattle.roc_grown_node.specs.Setting.{GrownNodeSetting}
use Rattle.roc_grown_submit.specs.GrownCoordRun.{GrownCoordNodeState, first_grown_coord_node_state, are_all_answered, grown_submissions_of, grown_submitted_node, grown_coord_turn}
use Rattle.roc_grown_submit.specs.GrownCoordRun.{grown_step_of_event, grown_reply_lines}
use Rattle.roc_grown_submit.specs.GrownEnd.{naming, grown_half, grown_closing_text}
use Rattle.roc_io.specs.Observed.{Adds}
use Rattle.roc_io.specs.Sink.{AddsCut, text_piece}
use Rattle.roc_node.specs.NodeEvent.{NodeEvent}
use Rattle.roc_node_submit.specs.Pieces.{has_last_lines, ends_in_turns}
use Rattle.roc_node_submit.specs.declared.ends.SubmitEnd.{SubmitEnd}
use Rattle.roc_node_submit.specs.declared.ends.SubmitEnd.TheVariants.{SinkFault}
use Rattle.roc_report.specs.Text.{lines_text}
use Rattle.roc_sched.specs.declared.line.Request.{Request}

-- the lines of the submissions before a turn, as one text
abbrev pub grown_submissions_text : GrownNodeSetting → GrownCoordNodeState → List ℕ
grown_submissions_text S node = lines_text (naming S) (grown_submissions_of S node).lines

-- the line of the reply that the event of the turn brings, if it brings one
abbrev pub grown_reply_text : GrownNodeSetting → GrownCoordNodeState → NodeEvent → List ℕ
grown_reply_text S node event = lines_text (naming S) (grown_reply_lines (grown_step_of_event S (grown_submitted_node S node).state event).answer)

-- The turns of a run, and what each of its writes gave: in each turn all lines of the submissions in one, and then the line of the reply in one. Where
-- there is no line, there is no write
pub data AreGrownWritten (S : GrownNodeSetting) (number : ℕ) (requests later : List Request) : List NodeEvent → GrownCoordNodeState → List (List ℕ) → Type 0 where
  none_written : AreGrownWritten S number requests later [] (first_grown_coord_node_state number requests later) []
  turn_written : {events : List NodeEvent} {node : GrownCoordNodeState} {pieces : List (List ℕ)} (event : NodeEvent) → AreGrownWritten S number requests later events node pieces
      → are_all_answered (grown_submitted_node S node) ≡ false
      → AreGrownWritten S number requests later (events ++ event ∷ []) (grown_coord_turn S node event)
      (pieces ++ (text_piece (grown_submissions_text S node) ++ text_piece (grown_reply_text S node event)))

-- the same, or with the submissions of the next turn
abbrev pub grown_half_pieces : GrownNodeSetting → GrownCoordNodeState → (half : Bool) → List (List ℕ) → List (List ℕ)
grown_half_pieces S node half pieces = if half then pieces ++ text_piece (grown_submissions_text S node) else pieces

-- What each write gave until the end: those of the turns, and all last lines in one. One that failed took a front of its lines
pub data WritesGrownInPieces (S : GrownNodeSetting) (number : ℕ) (requests later : List Request) (old new : Option (List (List ℕ))) : SubmitEnd → Type 0 where
  broken_off : (end : SubmitEnd) (events : List NodeEvent) (node : GrownCoordNodeState) (half : Bool) (pieces : List (List ℕ)) → ends_in_turns end ≡ true
      → AreGrownWritten S number requests later events node pieces → Adds old new (grown_half_pieces S node half pieces) → WritesGrownInPieces S number requests later old new end
  cut_submissions : (events : List NodeEvent) (node : GrownCoordNodeState) (pieces : List (List ℕ)) → AreGrownWritten S number requests later events node pieces
      → AddsCut old new pieces (grown_submissions_text S node) → WritesGrownInPieces S number requests later old new SinkFault
  cut_reply : (events : List NodeEvent) (node : GrownCoordNodeState) (event : NodeEvent) (pieces : List (List ℕ)) → AreGrownWritten S number requests later events node pieces
      → AddsCut old new (grown_half_pieces S node true pieces) (grown_reply_text S node event) → WritesGrownInPieces S number requests later old new SinkFault
  cut_end : (events : List NodeEvent) (node : GrownCoordNodeState) (half : Bool) (pieces : List (List ℕ)) → AreGrownWritten S number requests later events node pieces
      → AddsCut old new (grown_half_pieces S node half pieces) (grown_closing_text (grown_half S node half)) → WritesGrownInPieces S number requests later old new SinkFault
  over : (end : SubmitEnd) (events : List NodeEvent) (node : GrownCoordNodeState) (half : Bool) (pieces : List (List ℕ)) → has_last_lines end ≡ true
      → AreGrownWritten S number requests later events node pieces
      → Adds old new (grown_half_pieces S node half pieces ++ grown_closing_text (grown_half S node half) ∷ []) → WritesGrownInPieces S number requests later old new end
