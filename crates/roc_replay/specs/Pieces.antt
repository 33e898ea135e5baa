-- In how many writes a report goes out: docs/FORMATS.md, "Report"
use Rattle.std.specs.Prelude.{◌≡◌, ℕ, Bool, true, false, List, [], ◌∷◌, ◌++◌, Option}
use Rattle.roc_io.specs.Observed.{Adds}
use Rattle.roc_io.specs.Sink.{AddsCut}
use Rattle.roc_msg.specs.declared.msg.Envelope.{Envelope}
use Rattle.roc_plan.specs.Groups.{Plan}
use Rattle.roc_program.specs.Program.{Workload}
use Rattle.roc_epoch.specs.declared.next.Next.{Next}
use Rattle.roc_growth.specs.World.{GrownWorld}
use Rattle.roc_growth.specs.Run.{Stepped}
use Rattle.roc_growth.specs.Quiet.{messages_of}
use Rattle.roc_report.specs.Text.{lines_text}
use Rattle.roc_replay.specs.declared.asked.BoundLine.{BoundLine}
use Rattle.roc_replay.specs.declared.ended.Ended.{Ended}
use Rattle.roc_replay.specs.declared.ended.Ended.TheVariants.{Done, Text, SinkFault, NoMemory}
use Rattle.roc_replay.specs.declared.ended.Summary.{Summary}
use Rattle.roc_replay.specs.Report.{step_lines, closing_lines}
use Rattle.roc_replay.specs.BoundLine.{last_program, IsScheduleOf, event_in}
use Rattle.roc_replay.specs.Played.{IsPlayed, IsPlayedLine}

-- the lines of each step as one text, before the first of which these messages were sent
abbrev pub step_texts : Workload → List Envelope → List Stepped → List (List ℕ)
step_texts program before [] = []
step_texts program before (step ∷ rest) = lines_text program (step_lines before step) ∷ step_texts program (messages_of step.outcome.world.sent) rest

-- some first lines of a schedule were played, and these are the texts of their steps: one for each line of the schedule
pub record ArePiecesOf (plan : Plan) (next : Option Next) (schedule : List ℕ) (before behind : List BoundLine) (w : GrownWorld) (pieces : List (List ℕ)) : Type 0 where
  pub of_schedule : IsScheduleOf plan next schedule (before ++ behind)
  pub steps : List Stepped
  pub played : IsPlayed plan next before steps w
  pub are : pieces ≡ step_texts (last_program plan next) [] steps

-- the text was blamed, or memory ran out
abbrev pub is_broken_off : Ended → Bool
is_broken_off (Text line fault) = true
is_broken_off NoMemory = true
is_broken_off (Done summary) = false
is_broken_off SinkFault = false

-- All that comes of a line of a schedule goes out in one write, and the closing lines in one. A write that failed took a front of these lines
pub data GoesOutInPieces (plan : Plan) (next : Option Next) (schedule : List ℕ) (old new : Option (List (List ℕ))) : Ended → Type 0 where
  -- the whole schedule was played
  whole : (summary : Summary) (lines : List BoundLine) (w : GrownWorld) (pieces : List (List ℕ)) → ArePiecesOf plan next schedule lines [] w pieces
      → Adds old new (pieces ++ lines_text (last_program plan next) (closing_lines w) ∷ []) → GoesOutInPieces plan next schedule old new (Done summary)
  -- nothing was played
  none_played : (end : Ended) → is_broken_off end ≡ true → new ≡ old → GoesOutInPieces plan next schedule old new end
  -- some first lines were played, or all and memory was wanting for the closing lines
  some_played : (end : Ended) (before behind : List BoundLine) (w : GrownWorld) (pieces : List (List ℕ)) → is_broken_off end ≡ true
      → ArePiecesOf plan next schedule before behind w pieces → Adds old new pieces → GoesOutInPieces plan next schedule old new end
  -- the sink failed at the text of a line, or at the closing lines
  cut_line : (before : List BoundLine) (line : BoundLine) (behind : List BoundLine) (w after : GrownWorld) (pieces : List (List ℕ)) (text : List ℕ) (busy : ℕ)
      → ArePiecesOf plan next schedule before (line ∷ behind) w pieces → IsPlayedLine plan next (event_in w line.wanted) w after text busy
      → AddsCut old new pieces text → GoesOutInPieces plan next schedule old new SinkFault
  cut_end : (lines : List BoundLine) (w : GrownWorld) (pieces : List (List ℕ)) → ArePiecesOf plan next schedule lines [] w pieces
      → AddsCut old new pieces (lines_text (last_program plan next) (closing_lines w)) → GoesOutInPieces plan next schedule old new SinkFault
