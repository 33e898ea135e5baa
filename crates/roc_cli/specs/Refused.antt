-- Which words and files are refused, and what is said of them: docs/FORMATS.md, "The program"
use Rattle.std.specs.Prelude.{◌≡◌, ℕ, List, Option, Some, codes}
use Rattle.roc_lang.specs.FaultText.{what_text}
use Rattle.roc_lang.specs.Grammar.{text_limit}
use Rattle.roc_lang.specs.Scope.{Fault}
use Rattle.roc_lang.specs.declared.fault.What.{What}
use Rattle.roc_lang_scope.specs.FaultText.{kind_text}
use Rattle.roc_base.specs.declared.node.Shard.{Shard}
use Rattle.roc_plan.specs.Groups.{Plan}
use Rattle.roc_epoch.specs.declared.fault.GrowthFault.{GrowthFault}
use Rattle.roc_epoch.specs.declared.next.Next.{Next}
use Rattle.roc_log.specs.declared.fault.What.{What as LogWhat}
use Rattle.roc_log.specs.declared.line.Log.{Log}
use Rattle.roc_log.specs.FaultText.{what_text as log_text}
use Rattle.roc_auditor.specs.Verdict.{nodes_of, IsGap}
use Rattle.roc_sched.specs.Schedule.{most_bytes}
use Rattle.roc_io.specs.declared.link.Addr.{Addr}
use Rattle.roc_cluster.specs.declared.fault.ClusterFault.{ClusterFault}
use Rattle.roc_cluster.specs.FaultText.{fault_text as cluster_text}
use Rattle.roc_sched.specs.declared.fault.What.{What as ScheduleWhat}
use Rattle.roc_sched.specs.FaultText.{what_text as schedule_text}
use Rattle.roc_sched.specs.declared.line.Request.{Request}
use Rattle.roc_replay.specs.BoundLine.{last_program}
use Rattle.roc_replay.specs.Ended.{IsTextFault}
use Rattle.roc_cli_words.specs.declared.value.ValueName.{ValueName}
use Rattle.roc_cli_words.specs.FaultText.{value_text}
use Rattle.roc_cli_words.specs.Program.{IsTakenByClap}
use Rattle.roc_cli_words.specs.Answer.{HaveNoValue}
use Rattle.roc_node_serve.specs.declared.ends.ServeEnd.TheVariants as serve_end
use Rattle.roc_cli_nodes.specs.Call.{RunCall, WholeCall, TakesNothing}
use Rattle.roc_cli_nodes.specs.Words.{IsReplay, NamesProgram, NamesWorkload, NamesNodeFiles}
use Rattle.roc_cli_nodes.specs.Nodes.{IsServedWith}
use Rattle.roc_cli_files.specs.Held.{NodeFiles, HoldsMore, HoldsFault, HoldsMisuse, HoldsPlan, HoldsCluster, HoldsNoCluster, HoldsNoRequests, HoldLogs, HoldsNoLog, most_log_bytes}
use Rattle.roc_cli_files.specs.NodeNames.{HoldFirst, HoldsNext, HoldsNoGrowth, LacksShard}
use Rattle.roc_cli.specs.Done.{IsReplayOf, ComesToNext, ComesToLater}
use Rattle.roc_cli.specs.Audited.{ComesToLog, IsAuditUnder, tag_under}
use Rattle.roc_cli_files.specs.Fault.{growth_word}
use Rattle.roc_cli_files.specs.Says.{word_line, long_line, text_line, fault_line, growth_line, gap_line}

-- words that are refused, with what is said on standard error: the text of `clap`, which no clause tells, where it refuses them; or the name
-- of the first value that is none, as of a log beside a journal; or `shard`, where the files hold what is needed and the shard that is to be served is not one of the workload
pub data AreRefusedWords (call : RunCall) : List ℕ → Type 0 where
  by_clap : (text : List ℕ) → (IsTakenByClap call.words → ⊥) → AreRefusedWords call text
  no_value : (name : ValueName) → HaveNoValue call.words name → AreRefusedWords call (word_line (value_text name))
  no_shard : (files : NodeFiles) → NamesNodeFiles call.words files → LacksShard call.files.content files → AreRefusedWords call (word_line (codes "shard"))

-- the first log that is too long, or that none is of another node than those of the logs before it; or, behind all logs, the least shard whose server
-- has none
pub data AreRefusedLogs (call : RunCall) : List ℕ → Type 0 where
  long_log : (name : List ℕ) (plan : Plan) (logs : List Log) → ComesToLog call name plan logs → HoldsMore call.files.content name most_log_bytes
      → AreRefusedLogs call (long_line name)
  bad_log : (name : List ℕ) (plan : Plan) (logs : List Log) (number : ℕ) (what : LogWhat) (comes : ComesToLog call name plan logs)
      → HoldsNoLog call.files.content name plan.program (tag_under comes.asked) (nodes_of logs) number what → AreRefusedLogs call (fault_line name number (log_text what))
  no_server : (names : List (List ℕ)) (plan : Plan) (logs : List Log) (shard : Shard) (asked : IsAuditUnder call plan names)
      → HoldLogs call.files.content names plan (tag_under asked) logs → IsGap plan logs shard → AreRefusedLogs call (gap_line shard.0)

-- the file of a workload to grow to, which is too long, no text of its grammar or out of scope; or one that is acceptable, but no grown one of the first, and
-- what is wrong with it first; or a grown one with the tag of the first, by which nodes could not tell the two apart. Or that of the requests to submit
-- then, which are too long, none, or do not fit the grown one
pub data IsRefusedNext (call : RunCall) : List ℕ → Type 0 where
  long_next : (name : List ℕ) (plan : Plan) → ComesToNext call name plan → HoldsMore call.files.content name text_limit → IsRefusedNext call (long_line name)
  no_next_text : (name : List ℕ) (plan : Plan) (line : ℕ) (what : What) → ComesToNext call name plan → HoldsFault call.files.content name line what
      → IsRefusedNext call (fault_line name line (what_text what))
  next_out_of_scope : (name : List ℕ) (plan : Plan) (fault : Fault) → ComesToNext call name plan → HoldsMisuse call.files.content name fault
      → IsRefusedNext call (fault_line name fault.line (kind_text fault.kind))
  no_growth : (name : List ℕ) (plan : Plan) (fault : GrowthFault) → ComesToNext call name plan → HoldsNoGrowth call.files.content name plan.program fault
      → IsRefusedNext call (growth_line name (growth_word fault))
  same_tag : (files : NodeFiles) (plan : Plan) (tag : List ℕ) (addrs : List Addr) (requests : List Request) (name : List ℕ) (coords : ℕ) (next : Next) → NamesNodeFiles call.words files
      → HoldFirst call.files.content files plan tag addrs requests → files.next ≡ Some (name, coords) → HoldsNext call.files.content name plan.program coords next → next.tag ≡ tag
      → IsRefusedNext call (growth_line name (codes "same"))
  long_later : (name : List ℕ) (plan : Plan) (next : Option Next) → ComesToLater call name plan next → HoldsMore call.files.content name most_bytes → IsRefusedNext call (long_line name)
  bad_later : (name : List ℕ) (plan : Plan) (next : Option Next) (number : ℕ) (what : ScheduleWhat) → ComesToLater call name plan next
      → HoldsNoRequests call.files.content name (last_program plan next) number what → IsRefusedNext call (fault_line name number (schedule_text what))

-- the first file that is too long, no text of its grammar or out of scope, or does not fit the plan or the run, with its line on standard
-- error, and what standard output took before
pub data IsRefused (call : RunCall) : List ℕ → Type 0 where
  long_workload : (workload : List ℕ) → NamesWorkload call.words workload → HoldsMore call.files.content workload text_limit → TakesNothing call
      → IsRefused call (long_line workload)
  no_text : (workload : List ℕ) (line : ℕ) (what : What) → NamesWorkload call.words workload → HoldsFault call.files.content workload line what → TakesNothing call
      → IsRefused call (fault_line workload line (what_text what))
  out_of_scope : (workload : List ℕ) (fault : Fault) → NamesProgram call.words workload → HoldsMisuse call.files.content workload fault → TakesNothing call
      → IsRefused call (fault_line workload fault.line (kind_text fault.kind))
  long_schedule : (workload schedule : List ℕ) (growth : Option (List ℕ × ℕ)) (plan : Plan) → IsReplay call.words workload schedule growth → HoldsPlan call.files.content workload plan
      → HoldsMore call.files.content schedule most_bytes → TakesNothing call → IsRefused call (long_line schedule)
  bad_next : (line : List ℕ) → IsRefusedNext call line → TakesNothing call → IsRefused call line
  bad_schedule : (plan : Plan) (next : Option Next) (bytes : List ℕ) (asked : IsReplayOf call plan next bytes) (number : ℕ) (what : ScheduleWhat)
      → IsTextFault plan next bytes number what call.out.old call.out.new → IsRefused call (fault_line asked.under.schedule number (schedule_text what))
  long_cluster : (files : NodeFiles) (plan : Plan) → NamesNodeFiles call.words files → HoldsPlan call.files.content files.workload plan
      → HoldsMore call.files.content files.cluster text_limit → TakesNothing call → IsRefused call (long_line files.cluster)
  bad_cluster : (files : NodeFiles) (plan : Plan) (fault : ClusterFault) → NamesNodeFiles call.words files → HoldsPlan call.files.content files.workload plan
      → HoldsNoCluster call.files.content files.cluster plan.program.shards fault → TakesNothing call → IsRefused call (text_line files.cluster (cluster_text fault))
  long_requests : (files : NodeFiles) (plan : Plan) (addrs : List Addr) (name : List ℕ) → NamesNodeFiles call.words files → HoldsPlan call.files.content files.workload plan
      → HoldsCluster call.files.content files.cluster plan.program.shards addrs → files.requests ≡ Some name
      → HoldsMore call.files.content name most_bytes → TakesNothing call → IsRefused call (long_line name)
  bad_requests : (files : NodeFiles) (plan : Plan) (addrs : List Addr) (name : List ℕ) (number : ℕ) (what : ScheduleWhat) → NamesNodeFiles call.words files
      → HoldsPlan call.files.content files.workload plan → HoldsCluster call.files.content files.cluster plan.program.shards addrs → files.requests ≡ Some name
      → HoldsNoRequests call.files.content name plan.program number what → TakesNothing call → IsRefused call (fault_line name number (schedule_text what))
  bad_logs : (line : List ℕ) → AreRefusedLogs call line → TakesNothing call → IsRefused call line

-- the words name this journal, the files hold what is needed, and the server takes not all that the journal holds
abbrev pub RefusesJournal : WholeCall → (name : List ℕ) → Type 0
RefusesJournal call name = (at : ℕ) × IsServedWith call name (serve_end.Journal at)
