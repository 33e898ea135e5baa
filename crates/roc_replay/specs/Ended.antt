-- How a replay ends, and what the sink took: docs/FORMATS.md, "Report"
use Rattle.std.specs.Prelude.{◌≡◌, ◌↔◌, ℕ, ℤ, Bool, true, false, List, [], ◌∷◌, ◌++◌, Option}
use Rattle.std.specs.List.{AllByRecursion}
use Rattle.roc_sequence.specs.Lists.{Has}
use Rattle.roc_base.specs.declared.id.TxnId.{TxnId}
use Rattle.roc_io.specs.Observed.{Adds, AddsThenFront}
use Rattle.roc_plan.specs.Groups.{Plan}
use Rattle.roc_whole.specs.Serial.{start_store}
use Rattle.roc_epoch.specs.declared.next.Next.{Next}
use Rattle.roc_two_files.specs.Filed.{IsFiledWitness}
use Rattle.roc_growth.specs.World.{GrownWorld, is_second}
use Rattle.roc_growth.specs.Quiet.{IsQuiet, IsInLastRound}
use Rattle.roc_growth.specs.Run.{Stepped}
use Rattle.roc_sched.specs.declared.fault.What.{What}
use Rattle.roc_sched.specs.declared.fault.What.TheVariants as what
use Rattle.roc_sched.specs.Schedule.{IsScheduleFault}
use Rattle.roc_report.specs.Line.{Line, Submit, Answer, End}
use Rattle.roc_report.specs.ReportLine.{IsReportLine}
use Rattle.roc_report.specs.Text.{lines_text}
use Rattle.roc_replay.specs.declared.asked.BoundLine.{BoundLine}
use Rattle.roc_replay.specs.declared.ended.Ended.{Ended}
use Rattle.roc_replay.specs.declared.ended.Ended.TheVariants.{Done, Text, SinkFault, NoMemory}
use Rattle.roc_replay.specs.declared.ended.Summary.{Summary}
use Rattle.roc_replay.specs.Report.{steps_lines, closing_lines, end_line, busy_in, report}
use Rattle.roc_replay.specs.BoundLine.{played_forms, last_program, IsScheduleOf, IsUnfit, event_in, AsksForSent}
use Rattle.roc_replay.specs.Readback.{history_in, IsExplained, IsShownSecond, FilesStandApart}
use Rattle.roc_replay.specs.Played.{IsPlayed, IsPlayedLine}

-- ---- which end

-- where the whole schedule was played
abbrev pub IfDone : Ended → (Summary → Type 0) → Type 0
IfDone (Done summary) P = P summary
IfDone _ P = Unit {0}

-- where the text is blamed
abbrev pub IfText : Ended → (ℕ → What → Type 0) → Type 0
IfText (Text line fault) P = P line fault
IfText _ P = Unit {0}

-- where the sink failed
abbrev pub OnSinkFault : Ended → Type 0 → Type 0
OnSinkFault SinkFault P = P
OnSinkFault _ P = Unit {0}

-- where memory ran out
abbrev pub OnNoMemory : Ended → Type 0 → Type 0
OnNoMemory NoMemory P = P
OnNoMemory _ P = Unit {0}

-- the whole schedule was played, or memory ran out
abbrev pub IsWhole : Ended → Type 0
IsWhole (Done summary) = Unit {0}
IsWhole NoMemory = Unit {0}
IsWhole _ = ⊥

-- the sink is blamed
abbrev pub is_sink_fault : Ended → Bool
is_sink_fault SinkFault = true
is_sink_fault _ = false

-- ---- what the sink took

-- the lines are the report of the run of exactly this schedule
pub record IsReportOf (plan : Plan) (next : Option Next) (schedule : List ℕ) (lines : List Line) : Type 0 where
  pub asked : List BoundLine
  pub of_schedule : IsScheduleOf plan next schedule asked
  pub steps : List Stepped
  pub world : GrownWorld
  pub played : IsPlayed plan next asked steps world
  pub is : lines ≡ report steps world

-- each submitted transaction or view that is quiet in the run has an answer in its report, but for a view in its last round
pub record AnswersWhatIsQuiet (plan : Plan) (next : Option Next) (steps : List Stepped) (w : GrownWorld) (lines : List Line) : Type 0 where
  pub each : (t : TxnId) (proc : ℕ) (args : List ℤ) → Has (Submit t proc args) lines → IsQuiet plan next steps w t → ¬ IsInLastRound w t → (reply : List ℤ) × Has (Answer t reply) lines

-- each id of the order ran by the program of its own file, and the lines show of each id that was submitted which one that is
pub record AreFiled (plan : Plan) (next : Option Next) (w : GrownWorld) (lines : List Line) (order : List TxnId) : Type 0 where
  pub witness : IsFiledWitness plan.program (last_program plan next) (is_second w) (start_store plan.program) (history_in lines) order
  pub second : (t : TxnId) (proc : ℕ) (args : List ℤ) → Has (Submit t proc args) lines → IsShownSecond lines t ↔ (is_second w t ≡ true)

-- the sink took the text of lines of a report, which explain themselves: the report of the run of exactly this schedule; and the summary has the
-- numbers of its end line
pub record IsReplayed (plan : Plan) (next : Option Next) (schedule : List ℕ) (summary : Summary) (old new : Option (List ℕ)) : Type 0 where
  pub lines : List Line
  pub taken : Adds old new (lines_text (last_program plan next) lines)
  pub are : AllByRecursion (IsReportLine (last_program plan next)) lines
  pub explained : IsExplained (last_program plan next) lines
  pub apart : FilesStandApart lines explained.order
  pub run : IsReportOf plan next schedule lines
  pub filed : AreFiled plan next run.world lines explained.order
  pub answers : AnswersWhatIsQuiet plan next run.steps run.world lines
  pub end : end_line run.world ≡ End summary.answered summary.pending summary.messages
  pub busy : summary.busy ≡ busy_in lines

-- the line of this number is the first that asks for a message that was not sent yet, or not to the server that is to stop at it, and the sink took
-- the lines of what was before it
pub record IsUnsent (plan : Plan) (next : Option Next) (schedule : List ℕ) (number : ℕ) (old new : Option (List ℕ)) : Type 0 where
  pub before : List BoundLine
  pub line : BoundLine
  pub behind : List BoundLine
  pub of_schedule : IsScheduleOf plan next schedule (before ++ line ∷ behind)
  pub numbered : line.number ≡ number
  pub steps : List Stepped
  pub world : GrownWorld
  pub played : IsPlayed plan next before steps world
  pub unsent : ¬ AsksForSent world line.wanted
  pub taken : Adds old new (lines_text (last_program plan next) (steps_lines [] steps))

-- what is wrong with the text, and what the sink took: the bytes are no schedule, or a line does not fit the program, and the sink took
-- nothing; or a line asks for a message that is not there
pub data IsTextFault (plan : Plan) (next : Option Next) (schedule : List ℕ) (number : ℕ) (fault : What) (old new : Option (List ℕ)) : Type 0 where
  no_schedule : IsScheduleFault (played_forms next) (last_program plan next).shards schedule number fault → new ≡ old → IsTextFault plan next schedule number fault old new
  unfit : IsUnfit plan next schedule number fault → new ≡ old → IsTextFault plan next schedule number fault old new
  unsent : fault ≡ what.Message → IsUnsent plan next schedule number old new → IsTextFault plan next schedule number fault old new

-- the sink failed at the text of a line of the schedule, or at the closing lines: it took all that was to be written before, and a front of this
pub data IsCut (plan : Plan) (next : Option Next) (schedule : List ℕ) (old new : Option (List ℕ)) : Type 0 where
  at_line : (before : List BoundLine) (line : BoundLine) (behind : List BoundLine) (steps : List Stepped) (w after : GrownWorld) (text : List ℕ) (busy : ℕ)
      → IsScheduleOf plan next schedule (before ++ line ∷ behind) → IsPlayed plan next before steps w → IsPlayedLine plan next (event_in w line.wanted) w after text busy
      → AddsThenFront old new (lines_text (last_program plan next) (steps_lines [] steps)) text → IsCut plan next schedule old new
  at_end : (lines : List BoundLine) (steps : List Stepped) (w : GrownWorld) → IsScheduleOf plan next schedule lines → IsPlayed plan next lines steps w
      → AddsThenFront old new (lines_text (last_program plan next) (steps_lines [] steps)) (lines_text (last_program plan next) (closing_lines w)) → IsCut plan next schedule old new

-- memory ran out: the sink took nothing, or the whole text of some first lines of the schedule
pub data IsUnfinished (plan : Plan) (next : Option Next) (schedule : List ℕ) (old new : Option (List ℕ)) : Type 0 where
  at_start : new ≡ old → IsUnfinished plan next schedule old new
  behind_lines : (before behind : List BoundLine) (steps : List Stepped) (w : GrownWorld) → IsScheduleOf plan next schedule (before ++ behind) → IsPlayed plan next before steps w
      → Adds old new (lines_text (last_program plan next) (steps_lines [] steps)) → IsUnfinished plan next schedule old new
