-- What the laws say of texts, plans, schedules and logs
use Rattle.std.specs.Prelude.{◌≡◌, ℕ, List, Option, Result}
use Rattle.roc_base.specs.declared.id.TxnId.{TxnId}
use Rattle.roc_io.specs.declared.link.Addr.{Addr}
use Rattle.roc_lang.specs.Syntax.{Tree}
use Rattle.roc_lang.specs.declared.fault.What.{What}
use Rattle.roc_lang_parse.specs.Fault.{IsWorkloadText, IsFirstFault}
use Rattle.roc_program.specs.Program.{Workload}
use Rattle.roc_plan.specs.Groups.{Plan}
use Rattle.roc_plan.specs.Accepted.{IsAccepted}
use Rattle.roc_law_world.specs.World.{World}
use Rattle.roc_law_world.specs.Run.{Stepped, IsRun}
use Rattle.roc_epoch.specs.declared.fault.GrowthFault.{GrowthFault}
use Rattle.roc_epoch.specs.declared.next.Next.{Next}
use Rattle.roc_epoch.specs.Growth.{IsGrowth}
use Rattle.roc_growth.specs.World.{GrownWorld}
use Rattle.roc_growth.specs.Run.{Stepped as GrownStepped}
use Rattle.roc_cluster.specs.declared.fault.ClusterFault.{ClusterFault}
use Rattle.roc_cluster.specs.declared.fault.ClusterFault.TheVariants.{NoMemory}
use Rattle.roc_cluster.specs.File.{IsClusterFile}
use Rattle.roc_cluster.specs.Answer.{IsClusterFault}
use Rattle.roc_base.specs.declared.node.Node.{Node}
use Rattle.roc_log.specs.declared.fault.What.{What as LogWhat}
use Rattle.roc_log.specs.declared.line.Log.{Log}
use Rattle.roc_log.specs.Logs.{IsLog, IsLogFault}
use Rattle.roc_judge.specs.declared.judgement.Judgement.TheVariants.{Yes}
use Rattle.roc_auditor.specs.declared.verdict.Verdict.{Verdict}
use Rattle.roc_auditor.specs.declared.verdict.Verdict.TheVariants.{Judged}
use Rattle.roc_auditor.specs.Verdict.{HaveNoGap, IsVerdict}
use Rattle.roc_law_audit.specs.InTheWorld.{SubmitsNoView}
use Rattle.roc_law_audit.specs.LogsOfRuns.{AreLogsOfRun}
use Rattle.roc_report.specs.Checked.{CheckedLine}
use Rattle.roc_report.specs.ReportLine.{HasNames}
use Rattle.roc_report.specs.Reading.{IsReadInOneWay}
use Rattle.roc_check.specs.Checked.{IsTextOf, IsPlanOf, IsPlanOfText, IsRefusedBy}
use Rattle.roc_sched.specs.declared.fault.What.{What as ScheduleWhat}
use Rattle.roc_sched.specs.declared.line.Request.{Request}
use Rattle.roc_sched.specs.Schedule.{AreRequests, IsRequestFault}
use Rattle.roc_replay.specs.declared.asked.BoundLine.{BoundLine}
use Rattle.roc_replay.specs.declared.ended.Summary.{Summary}
use Rattle.roc_replay.specs.BoundLine.{last_program, IsScheduleOf}
use Rattle.roc_replay.specs.Played.{IsPlayed, AsksOnlySent}
use Rattle.roc_replay.specs.Ended.{IsReplayed, IsTextFault}

pub record TextLaws : Type 0 where
  pub one_tree : (bytes : List ℕ) (t u : Tree) → IsWorkloadText bytes t → IsWorkloadText bytes u → t ≡ u
  pub no_fault : (bytes : List ℕ) (t : Tree) (line : ℕ) (what : What) → IsWorkloadText bytes t → IsFirstFault bytes line what → ⊥
  pub one_plan : (bytes : List ℕ) (one other : Plan) → IsPlanOfText bytes one → IsPlanOfText bytes other → one ≡ other
  pub accepted : (bytes : List ℕ) (plan : Plan) → IsPlanOfText bytes plan → IsAccepted plan
  pub no_refusal : (program : Workload) (plan : Plan) (line : CheckedLine) → IsPlanOf program plan → IsRefusedBy program line → ⊥
  pub no_cluster_fault :
      (shards : ℕ) (bytes : List ℕ) (cluster : List Addr) (fault : ClusterFault) → IsClusterFile shards bytes cluster → IsClusterFault shards bytes fault
      → fault ≡ NoMemory
  pub one_cluster_fault :
      (shards : ℕ) (bytes : List ℕ) (some other : ClusterFault) → IsClusterFault shards bytes some → IsClusterFault shards bytes other → (some ≡ NoMemory → ⊥) → (other ≡ NoMemory → ⊥)
      → some ≡ other
  pub one_list : (text : List ℕ) (some others : List Request) → AreRequests text some → AreRequests text others → some ≡ others
  pub no_list_fault : (text : List ℕ) (requests : List Request) (line : ℕ) (what : ScheduleWhat) → AreRequests text requests → IsRequestFault text line what → ⊥
  pub one_list_fault :
      (text : List ℕ) (line other : ℕ) (what cause : ScheduleWhat) → IsRequestFault text line what → IsRequestFault text other cause → (line ≡ other) × (what ≡ cause)
  pub no_text_fault :
      (plan : Plan) (next : Option Next) (text : List ℕ) (lines : List BoundLine) → IsScheduleOf plan next text lines → AsksOnlySent plan next lines
      → (number : ℕ) (fault : ScheduleWhat) (old new : Option (List ℕ)) → IsTextFault plan next text number fault old new → ⊥
  pub sent : (plan : Plan) (next : Option Next) (lines : List BoundLine) (steps : List GrownStepped) (w : GrownWorld) → IsPlayed plan next lines steps w → AsksOnlySent plan next lines
  pub one_growth : (old new : Workload) (one other : Result (Unit {0}) GrowthFault) → IsGrowth old new one → IsGrowth old new other → one ≡ other
  pub one_log : (program : Workload) (tag : List ℕ) (seen : List Node) (text : List ℕ) (log other : Log) → IsLog program tag seen text log → IsLog program tag seen text other → log ≡ other
  pub no_log_fault :
      (program : Workload) (tag : List ℕ) (seen : List Node) (text : List ℕ) (log : Log) (line : ℕ) (what : LogWhat) → IsLog program tag seen text log
      → IsLogFault program tag seen text line what → ⊥
  pub whole_logs :
      (plan : Plan) (coords : ℕ) (steps : List Stepped) (w : World) → IsAccepted plan → IsRun plan coords steps w → SubmitsNoView plan w.history → (logs : List Log)
      → AreLogsOfRun plan coords steps w logs → HaveNoGap plan logs
  pub yes_logs :
      (plan : Plan) (coords : ℕ) (steps : List Stepped) (w : World) → IsAccepted plan → IsRun plan coords steps w → SubmitsNoView plan w.history → (logs : List Log)
      → AreLogsOfRun plan coords steps w logs → (verdict : Verdict) → IsVerdict plan logs verdict → (order : List TxnId) × (n : ℕ) × (verdict ≡ Judged (Yes order n))

-- what the laws say of reports: of names, of how the bytes are read, and of plans
pub record ReportLaws : Type 0 where
  pub names : (bytes : List ℕ) (program : Workload) → IsTextOf bytes program → HasNames program
  pub read :
      (plan : Plan) (next : Option Next) (schedule : List ℕ) (summary : Summary) (old new : Option (List ℕ)) → HasNames (last_program plan next)
      → (h : IsReplayed plan next schedule summary old new) → IsReadInOneWay (last_program plan next) h.lines
  pub accepted : (bytes : List ℕ) (plan : Plan) → IsPlanOfText bytes plan → IsAccepted plan
