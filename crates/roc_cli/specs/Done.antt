-- What was done, and what standard output took: docs/FORMATS.md, "Report", "Text of check" and "Refusals", and docs/LANGUAGE.md, "Canonical text"
use Rattle.std.specs.Prelude.{◌≡◌, ◌⊎◌, ℕ, ◌≤◌, List, length, Option, Some, None, IfSome}
use Rattle.roc_io.specs.Observed.{Adds}
use Rattle.roc_lang.specs.Syntax.{Tree}
use Rattle.roc_lang_print.specs.Canonical.{canonical}
use Rattle.roc_base.specs.declared.id.TxnId.{TxnId}
use Rattle.roc_program.specs.Program.{Workload}
use Rattle.roc_plan.specs.Groups.{Plan}
use Rattle.roc_plan.specs.Accepted.{IsAccepted}
use Rattle.roc_epoch.specs.declared.next.Next.{Next}
use Rattle.roc_epoch.specs.Grown.{IsGrownFrom}
use Rattle.roc_report.specs.Checked.{CheckedLine, checked_text}
use Rattle.roc_report.specs.Line.{Line}
use Rattle.roc_report.specs.Text.{lines_text}
use Rattle.roc_report.specs.Reading.{IsReadInOneWay}
use Rattle.roc_check.specs.Checked.{IsPlanOfText}
use Rattle.roc_io.specs.declared.link.Addr.{Addr}
use Rattle.roc_sched.specs.declared.line.Request.{Request}
use Rattle.roc_sched.specs.Schedule.{most_bytes}
use Rattle.roc_generate.specs.WorkloadText.{generated_workload}
use Rattle.roc_generate.specs.ScheduleText.{generated_schedule}
use Rattle.roc_generate.specs.SummaryText.{load_summary_text}
use Rattle.roc_replay.specs.declared.ended.Summary.{Summary}
use Rattle.roc_replay.specs.BoundLine.{last_program}
use Rattle.roc_replay.specs.Readback.{IsExplained, FilesStandApart}
use Rattle.roc_replay.specs.Ended.{IsReportOf, AreFiled, AnswersWhatIsQuiet, IsReplayed}
use Rattle.roc_cli_words.specs.declared.value.Part.{Part}
use Rattle.roc_cli_words.specs.declared.value.Part.TheVariants as part
use Rattle.roc_cli_nodes.specs.Call.{RunCall}
use Rattle.roc_cli_nodes.specs.Words.{IsReplay, IsPrint, IsCheck, IsGen, NamesProgram, NamesNodeFiles}
use Rattle.roc_cli_files.specs.Held.{NodeFiles, Holds, HoldsPlan, HoldsText, HoldsRejected}
use Rattle.roc_cli_files.specs.NodeNames.{HoldFirst, HoldsNext, HoldsGrowth}
use Rattle.roc_cli_files.specs.Input.{check_text}

-- ---- replay

-- the words ask for the replay of a schedule of these bytes, which are not too many, and name a workload that has this plan
pub record IsReplayUnder (call : RunCall) (plan : Plan) (bytes : List ℕ) : Type 0 where
  pub workload : List ℕ
  pub schedule : List ℕ
  pub growth : Option (List ℕ × ℕ)
  pub given : IsReplay call.words workload schedule growth
  pub of_workload : HoldsPlan call.files.content workload plan
  pub of_schedule : Holds call.files.content schedule bytes
  pub size : length bytes ≤ most_bytes

-- the file of a workload that is to come next, for so many coordinators, holds this, a grown one; there is none only where none is named
abbrev pub HoldsFollowing : (content : List ℕ → Option (List ℕ)) → Plan → (growth : Option (List ℕ × ℕ)) → Option Next → Type 0
HoldsFollowing content plan None None = Unit {0}
HoldsFollowing content plan None (Some next) = ⊥
HoldsFollowing content plan (Some growth) None = ⊥
HoldsFollowing content plan (Some growth) (Some next) = HoldsNext content growth.0 plan.program growth.1 next

-- ..and where they name one that is to come next, it is this one
pub record IsReplayOf (call : RunCall) (plan : Plan) (next : Option Next) (bytes : List ℕ) : Type 0 where
  pub under : IsReplayUnder call plan bytes
  pub of_next : HoldsFollowing call.files.content plan under.growth next

-- both files are acceptable, the second is a grown one of the first, and the lines show the two apart: in the order none of the second stands before
-- one of the first
pub record ShowsGrowth (plan : Plan) (next : Next) (lines : List Line) (order : List TxnId) : Type 0 where
  pub first : IsAccepted plan
  pub second : IsAccepted next.plan
  pub grown : IsGrownFrom plan.program next.plan.program
  pub apart : FilesStandApart lines order

-- standard output took the text of lines that explain themselves, under the program of the last file that there is: the one order that they show is a
-- serial witness of the history that they show; whoever reads that text as a report's lines reads these; they are the report of the run of exactly the
-- named schedule, under the plan of exactly the named workload, and that of exactly the one which was named to grow to, if any; each transaction or view ran
-- by the program of its own file; they show the answer of each that was submitted and is quiet in that run; and, where the workload grows, they show the two
-- files apart
pub record Replays (call : RunCall) : Type 0 where
  pub plan : Plan
  pub next : Option Next
  pub bytes : List ℕ
  pub asked : IsReplayOf call plan next bytes
  pub lines : List Line
  pub taken : Adds call.out.old call.out.new (lines_text (last_program plan next) lines)
  pub explained : IsExplained (last_program plan next) lines
  pub read : IsReadInOneWay (last_program plan next) lines
  pub run : IsReportOf plan next bytes lines
  pub filed : AreFiled plan next run.world lines explained.order
  pub answers : AnswersWhatIsQuiet plan next run.steps run.world lines
  pub grown : IfSome next (λ following. ShowsGrowth plan following lines explained.order)

-- ---- a workload to grow to

-- the words name this file for it, and what is read before is right: the workload, which has this plan, and the schedule, which has not too many bytes, or
-- the cluster file and the requests
pub data ComesToNext (call : RunCall) (name : List ℕ) (plan : Plan) : Type 0 where
  in_replay : (bytes : List ℕ) (coords : ℕ) (under : IsReplayUnder call plan bytes) → under.growth ≡ Some (name, coords) → ComesToNext call name plan
  in_nodes : (files : NodeFiles) (tag : List ℕ) (addrs : List Addr) (requests : List Request) (coords : ℕ) → NamesNodeFiles call.words files
      → HoldFirst call.files.content files plan tag addrs requests → files.next ≡ Some (name, coords) → ComesToNext call name plan

-- the words name this file for requests to submit once the workload has grown, and what is read before is right, which these are the plan and the workload to
-- grow to of
pub record ComesToLater (call : RunCall) (name : List ℕ) (plan : Plan) (next : Option Next) : Type 0 where
  pub files : NodeFiles
  pub tag : List ℕ
  pub addrs : List Addr
  pub requests : List Request
  pub named : NamesNodeFiles call.words files
  pub held : HoldFirst call.files.content files plan tag addrs requests
  pub follows : HoldsGrowth call.files.content files.next plan.program tag next
  pub is : files.later ≡ Some name

-- ---- print

-- standard output took the canonical text of the named workload
pub record Prints (call : RunCall) : Type 0 where
  pub workload : List ℕ
  pub given : IsPrint call.words workload
  pub tree : Tree
  pub held : HoldsText call.files.content workload tree
  pub taken : Adds call.out.old call.out.new (canonical tree)

-- ---- check

-- standard output took the text of the check of the named workload, which has this plan
pub record Checks (call : RunCall) : Type 0 where
  pub workload : List ℕ
  pub given : IsCheck call.words workload
  pub plan : Plan
  pub held : HoldsPlan call.files.content workload plan
  pub taken : Adds call.out.old call.out.new (check_text plan)

-- ---- a workload that is not acceptable

-- the words name this workload, or for one that is to come next, and what is read before is right
abbrev pub ComesToWorkload : RunCall → (workload : List ℕ) → Type 0
ComesToWorkload call workload = NamesProgram call.words workload ⊎ ((plan : Plan) × ComesToNext call workload plan)

-- standard output took the one line that says why a named workload is not acceptable
pub record Rejects (call : RunCall) : Type 0 where
  pub workload : List ℕ
  pub named : ComesToWorkload call workload
  pub program : Workload
  pub said : CheckedLine
  pub held : HoldsRejected call.files.content workload program said
  pub taken : Adds call.out.old call.out.new (checked_text program said)

-- ---- gen

-- what is generated: the text of the workload, or of the schedule, or the numbers of the run of that schedule under the workload's plan
pub data IsGenerated (seed shards txns : ℕ) : Part → List ℕ → Type 0 where
  the_workload : IsGenerated seed shards txns part.Workload (generated_workload shards)
  the_schedule : IsGenerated seed shards txns part.Schedule (generated_schedule seed shards txns)
  the_run : (plan : Plan) (summary : Summary) → IsPlanOfText (generated_workload shards) plan → IsReplayed plan None (generated_schedule seed shards txns) summary None None
      → IsGenerated seed shards txns part.Run (load_summary_text summary.answered summary.pending summary.messages summary.busy)

-- standard output took what was to be generated
pub record Generates (call : RunCall) : Type 0 where
  pub seed : ℕ
  pub shards : ℕ
  pub txns : ℕ
  pub part : Part
  pub given : IsGen call.words seed shards txns part
  pub text : List ℕ
  pub generated : IsGenerated seed shards txns part text
  pub taken : Adds call.out.old call.out.new text
