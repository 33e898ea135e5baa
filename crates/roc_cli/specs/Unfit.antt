-- Files for which a command cannot be done: docs/FORMATS.md, "The program"
use Rattle.std.specs.Prelude.{◌≡◌, ◌≢◌, ℕ, ◌<◌, ◌≤◌, List, [], ◌∷◌, ◌++◌, length, Option, Some, IfSome}
use Rattle.roc_base.specs.declared.node.Shard.{Shard}
use Rattle.roc_io.specs.declared.link.Addr.{Addr}
use Rattle.roc_lang.specs.Grammar.{text_limit}
use Rattle.roc_lang.specs.Syntax.{Tree}
use Rattle.roc_lang_parse.specs.Fault.{IsWorkloadText}
use Rattle.roc_program.specs.Program.{Workload}
use Rattle.roc_plan.specs.Groups.{Plan}
use Rattle.roc_epoch.specs.declared.next.Next.{Next}
use Rattle.roc_epoch.specs.Grown.{IsGrownFrom}
use Rattle.roc_check.specs.Checked.{IsTextOf, IsPlanOf, IsPlanOfText}
use Rattle.roc_cluster.specs.declared.fault.ClusterFault.{ClusterFault}
use Rattle.roc_cluster.specs.declared.fault.ClusterFault.TheVariants.{NoMemory}
use Rattle.roc_cluster.specs.FaultText.{fault_text as cluster_text}
use Rattle.roc_cluster.specs.File.{IsClusterFile}
use Rattle.roc_cluster.specs.Answer.{IsClusterFault}
use Rattle.roc_sched.specs.declared.fault.What.{What}
use Rattle.roc_sched.specs.declared.line.Request.{Request}
use Rattle.roc_sched.specs.FaultText.{what_text}
use Rattle.roc_sched.specs.Schedule.{most_bytes}
use Rattle.roc_replay.specs.declared.asked.BoundLine.{BoundLine}
use Rattle.roc_replay.specs.BoundLine.{last_program, IsScheduleOf}
use Rattle.roc_replay.specs.Played.{AsksOnlySent}
use Rattle.roc_log.specs.declared.line.Log.{Log}
use Rattle.roc_log.specs.Logs.{IsLog}
use Rattle.roc_auditor.specs.Verdict.{nodes_of, IsGap}
use Rattle.roc_cli_files.specs.Held.{NodeFiles, most_log_bytes}
use Rattle.roc_cli_files.specs.NodeNames.{tag_of_bytes}
use Rattle.roc_cli_files.specs.Requests.{AreRequestsOf, IsRequestsFault}
use Rattle.roc_cli_files.specs.Says.{long_line, text_line, fault_line}
use Rattle.roc_cli_nodes.specs.Call.{RunCall}
use Rattle.roc_cli_nodes.specs.Words.{NamesProgram, NamesWorkload, NamesNodeFiles}
use Rattle.roc_cli.specs.Fit.{ReplayAsked, TellsNext, TellsFollowing, NodesAsked, IsDueNext, AuditAsked, TellLogs}

-- the name holds a text in scope, of a program that has no plan
pub record TellsNoPlan (content : List ℕ → Option (List ℕ)) (name : List ℕ) : Type 0 where
  pub bytes : List ℕ
  pub held : content name ≡ Some bytes
  pub program : Workload
  pub text : IsTextOf bytes program
  pub planless : (plan : Plan) → IsPlanOf program plan → ⊥

-- the words name a workload that is not acceptable; or one that is to come next, where what is read before is right
pub data LacksPlan (call : RunCall) : Type 0 where
  no_plan : (workload : List ℕ) → NamesProgram call.words workload → TellsNoPlan call.files.content workload → LacksPlan call
  no_next_plan : (name : List ℕ) (plan : Plan) → IsDueNext call name plan → TellsNoPlan call.files.content name → LacksPlan call

-- the words name a workload, and the named file holds bytes that are no workload text, which none is that is too long; or none in scope, where names
-- have to be. Or they name one to grow to, where what is read before is right, which is none in scope either, or no grown one of the first, or has its tag
-- where nodes have to tell the two apart
pub data LacksWorkload (call : RunCall) : Type 0 where
  no_text : (workload bytes : List ℕ) → NamesWorkload call.words workload → call.files.content workload ≡ Some bytes
      → ((tree : Tree) → IsWorkloadText bytes tree → ⊥) → LacksWorkload call
  no_program : (workload bytes : List ℕ) → NamesProgram call.words workload → call.files.content workload ≡ Some bytes
      → ((program : Workload) → IsTextOf bytes program → ⊥) → LacksWorkload call
  no_next : (name bytes : List ℕ) (plan : Plan) → IsDueNext call name plan → call.files.content name ≡ Some bytes
      → ((program : Workload) → IsTextOf bytes program → ⊥) → LacksWorkload call
  no_growth : (name bytes : List ℕ) (plan new : Plan) → IsDueNext call name plan → call.files.content name ≡ Some bytes → IsPlanOfText bytes new
      → (IsGrownFrom plan.program new.program → ⊥) → LacksWorkload call
  no_other_tag : (asked : NodesAsked call) (name : List ℕ) (coords : ℕ) (next : Next) → asked.files.next ≡ Some (name, coords) → TellsNext call.files.content name asked.plan coords next
      → next.tag ≡ tag_of_bytes asked.bytes → LacksWorkload call

-- the words ask for a replay, whose workload has a plan; its schedule is too long, or where the workload that is to come next is right, if any, it is none that
-- fits the last one that there is and asks only for what was sent
pub data LacksSchedule (call : RunCall) : Type 0 where
  too_long : (asked : ReplayAsked call) → most_bytes < length asked.text → LacksSchedule call
  unplayed : (asked : ReplayAsked call) (next : Option Next) → TellsFollowing call.files.content asked.plan asked.growth next
      → ((lines : List BoundLine) → IsScheduleOf asked.plan next asked.text lines → AsksOnlySent asked.plan next lines → ⊥) → LacksSchedule call

-- the words ask for an audit; behind logs a named file holds bytes that are none, which none is that is too long; or all files hold logs, and a shard's
-- server has none
pub data LacksLogs (call : RunCall) : Type 0 where
  no_log : (before : List (List ℕ)) (name : List ℕ) (behind : List (List ℕ)) (asked : AuditAsked call (before ++ name ∷ behind)) (logs : List Log) (text : List ℕ)
      → TellLogs call.files.content asked.plan.program (tag_of_bytes asked.bytes) [] before logs → call.files.content name ≡ Some text
      → ((log : Log) → length text ≤ most_log_bytes → IsLog asked.plan.program (tag_of_bytes asked.bytes) (nodes_of logs) text log → ⊥) → LacksLogs call
  no_server : (names : List (List ℕ)) (asked : AuditAsked call names) (logs : List Log) (shard : Shard)
      → TellLogs call.files.content asked.plan.program (tag_of_bytes asked.bytes) [] names logs → IsGap asked.plan logs shard → LacksLogs call

-- ---- cluster files and request files

-- the words ask for a command with nodes; the named workload has a plan, and the cluster file is told
pub record ClusterAsked (call : RunCall) : Type 0 where
  pub files : NodeFiles
  pub given : NamesNodeFiles call.words files
  pub bytes : List ℕ
  pub held : call.files.content files.workload ≡ Some bytes
  pub plan : Plan
  pub planned : IsPlanOfText bytes plan
  pub text : List ℕ
  pub clustered : call.files.content files.cluster ≡ Some text

-- ..and is one of the workload; and a request file is named, and told
pub record ListAsked (call : RunCall) : Type 0 where
  pub before : ClusterAsked call
  pub few : length before.text ≤ text_limit
  pub addrs : List Addr
  pub of_text : IsClusterFile before.plan.program.shards before.text addrs
  pub name : List ℕ
  pub named : before.files.requests ≡ Some name
  pub list : List ℕ
  pub listed : call.files.content name ≡ Some list

-- ..and its requests fit; the workload that is to come next is right; and a file of requests to submit then is named, and told
pub record LaterAsked (call : RunCall) : Type 0 where
  pub before : NodesAsked call
  pub next : Option Next
  pub following : TellsFollowing call.files.content before.plan before.files.next next
  pub apart : IfSome next (λ n. n.tag ≢ tag_of_bytes before.bytes)
  pub name : List ℕ
  pub named : before.files.later ≡ Some name
  pub list : List ℕ
  pub listed : call.files.content name ≡ Some list

-- the cluster file is too long, or none of the workload
pub record LacksCluster (call : RunCall) : Type 0 where
  pub asked : ClusterAsked call
  pub none : (addrs : List Addr) → length asked.text ≤ text_limit → IsClusterFile asked.plan.program.shards asked.text addrs → ⊥

-- the bytes are too many, or no request file whose requests fit the program
abbrev pub AreNoRequests : Workload → (list : List ℕ) → Type 0
AreNoRequests program list = (requests : List Request) → length list ≤ most_bytes → AreRequestsOf program list requests → ⊥

-- so with the requests, or with those to submit once the workload has grown
pub data LacksRequests (call : RunCall) : Type 0 where
  no_requests : (asked : ListAsked call) → AreNoRequests asked.before.plan.program asked.list → LacksRequests call
  no_later : (asked : LaterAsked call) → AreNoRequests (last_program asked.before.plan asked.next) asked.list → LacksRequests call

-- what is said of such a cluster file: that it is too long, or else its first fault
pub data IsClusterLine (name text : List ℕ) (shards : ℕ) : List ℕ → Type 0 where
  cluster_too_long : text_limit < length text → IsClusterLine name text shards (long_line name)
  cluster_faulty : (fault : ClusterFault) → length text ≤ text_limit → IsClusterFault shards text fault → (fault ≡ NoMemory → ⊥)
      → IsClusterLine name text shards (text_line name (cluster_text fault))

-- ..and of such a request file
pub data IsListLine (name list : List ℕ) (program : Workload) : List ℕ → Type 0 where
  list_too_long : most_bytes < length list → IsListLine name list program (long_line name)
  list_faulty : (number : ℕ) (what : What) → length list ≤ most_bytes → IsRequestsFault program list number what → IsListLine name list program (fault_line name number (what_text what))

-- this is what has to be said of the first file that is wrong, a cluster file or a request file
pub data HasFaultyFile (call : RunCall) (line : List ℕ) : Type 0 where
  in_cluster : (asked : ClusterAsked call) → IsClusterLine asked.files.cluster asked.text asked.plan.program.shards line → HasFaultyFile call line
  in_requests : (asked : ListAsked call) → IsListLine asked.name asked.list asked.before.plan.program line → HasFaultyFile call line
  in_later : (asked : LaterAsked call) → IsListLine asked.name asked.list (last_program asked.before.plan asked.next) line → HasFaultyFile call line
