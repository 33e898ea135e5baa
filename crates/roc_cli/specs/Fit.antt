-- Words and files for which a command is done: docs/FORMATS.md, "The program"
use Rattle.std.specs.Prelude.{◌≡◌, ◌≢◌, ◌⊎◌, ℕ, ◌≤◌, List, [], ◌∷◌, ◌++◌, length, Option, Some, None, IfSome}
use Rattle.roc_base.specs.declared.node.Node.{Node}
use Rattle.roc_io.specs.declared.link.Addr.{Addr}
use Rattle.roc_lang.specs.Grammar.{text_limit}
use Rattle.roc_program.specs.Program.{Workload}
use Rattle.roc_cluster.specs.File.{IsClusterFile}
use Rattle.roc_sched.specs.declared.line.Request.{Request}
use Rattle.roc_sched.specs.Schedule.{most_bytes}
use Rattle.roc_lang.specs.Syntax.{Tree}
use Rattle.roc_lang_parse.specs.Fault.{IsWorkloadText}
use Rattle.roc_plan.specs.Groups.{Plan}
use Rattle.roc_epoch.specs.declared.next.Next.{Next}
use Rattle.roc_epoch.specs.Grown.{IsGrownFrom}
use Rattle.roc_check.specs.Checked.{IsPlanOfText}
use Rattle.roc_replay.specs.declared.asked.BoundLine.{BoundLine}
use Rattle.roc_replay.specs.BoundLine.{last_program, IsScheduleOf}
use Rattle.roc_replay.specs.Played.{AsksOnlySent}
use Rattle.roc_log.specs.declared.line.Log.{Log}
use Rattle.roc_log.specs.Logs.{IsLog}
use Rattle.roc_auditor.specs.Verdict.{HaveNoGap}
use Rattle.roc_cli_nodes.specs.Call.{RunCall}
use Rattle.roc_cli_nodes.specs.Words.{IsReplay, IsPrint, IsCheck, IsAudit, AreGenWords, NamesNodeFiles}
use Rattle.roc_cli_files.specs.Held.{NodeFiles, HasShard, most_log_bytes}
use Rattle.roc_cli_files.specs.NodeNames.{tag_of_bytes}
use Rattle.roc_cli_files.specs.Requests.{AreRequestsOf}

-- the name holds a request file whose requests fit the program
pub record IsListOfRequests (content : List ℕ → Option (List ℕ)) (program : Workload) (name : List ℕ) : Type 0 where
  pub text : List ℕ
  pub held : content name ≡ Some text
  pub few : length text ≤ most_bytes
  pub requests : List Request
  pub are : AreRequestsOf program text requests

-- the words ask for a replay; the named file holds a workload that has a plan, and the schedule's file is told
pub record ReplayAsked (call : RunCall) : Type 0 where
  pub workload : List ℕ
  pub schedule : List ℕ
  pub growth : Option (List ℕ × ℕ)
  pub given : IsReplay call.words workload schedule growth
  pub bytes : List ℕ
  pub held : call.files.content workload ≡ Some bytes
  pub plan : Plan
  pub planned : IsPlanOfText bytes plan
  pub text : List ℕ
  pub scheduled : call.files.content schedule ≡ Some text

-- the name holds a workload that has a plan and is a grown one of the first, to come next for so many coordinators
pub record TellsNext (content : List ℕ → Option (List ℕ)) (name : List ℕ) (plan : Plan) (coords : ℕ) (next : Next) : Type 0 where
  pub bytes : List ℕ
  pub held : content name ≡ Some bytes
  pub planned : IsPlanOfText bytes next.plan
  pub tagged : next.tag ≡ tag_of_bytes bytes
  pub grown : IsGrownFrom plan.program next.plan.program
  pub count : next.coords ≡ coords

-- there is one only where a file for it is named
abbrev pub TellsFollowing : (content : List ℕ → Option (List ℕ)) → Plan → (growth : Option (List ℕ × ℕ)) → Option Next → Type 0
TellsFollowing content plan None None = Unit {0}
TellsFollowing content plan None (Some next) = ⊥
TellsFollowing content plan (Some growth) None = ⊥
TellsFollowing content plan (Some growth) (Some next) = TellsNext content growth.0 plan growth.1 next

-- the words ask for a replay; the named files hold a workload that has a plan; a grown one, where one is named that is to come next; and a schedule that fits
-- the last one that there is, and asks only for what was sent
pub record ReplayFits (call : RunCall) : Type 0 where
  pub asked : ReplayAsked call
  pub next : Option Next
  pub following : TellsFollowing call.files.content asked.plan asked.growth next
  pub lines : List BoundLine
  pub of_text : IsScheduleOf asked.plan next asked.text lines
  pub sends : AsksOnlySent asked.plan next lines

-- the words ask for a check, and the named file holds a workload that has a plan
pub record CheckFits (call : RunCall) : Type 0 where
  pub workload : List ℕ
  pub given : IsCheck call.words workload
  pub bytes : List ℕ
  pub held : call.files.content workload ≡ Some bytes
  pub plan : Plan
  pub planned : IsPlanOfText bytes plan

-- the words ask for a print, and the named file holds a workload text
pub record PrintFits (call : RunCall) : Type 0 where
  pub workload : List ℕ
  pub given : IsPrint call.words workload
  pub bytes : List ℕ
  pub held : call.files.content workload ≡ Some bytes
  pub tree : Tree
  pub text : IsWorkloadText bytes tree

-- the words ask for a command with nodes; the named files hold a workload that has a plan, a cluster of it, and requests that fit it
pub record NodesAsked (call : RunCall) : Type 0 where
  pub files : NodeFiles
  pub given : NamesNodeFiles call.words files
  pub bytes : List ℕ
  pub held : call.files.content files.workload ≡ Some bytes
  pub plan : Plan
  pub planned : IsPlanOfText bytes plan
  pub text : List ℕ
  pub clustered : call.files.content files.cluster ≡ Some text
  pub few : length text ≤ text_limit
  pub addrs : List Addr
  pub of_text : IsClusterFile plan.program.shards text addrs
  pub listed : IfSome files.requests (IsListOfRequests call.files.content plan.program)

-- ..and all else that it needs: a grown workload with another tag, where one is named to grow to, and requests that fit this, where they are named
pub record NodeFilesFit (call : RunCall) : Type 0 where
  pub asked : NodesAsked call
  pub next : Option Next
  pub following : TellsFollowing call.files.content asked.plan asked.files.next next
  pub apart : IfSome next (λ n. n.tag ≢ tag_of_bytes asked.bytes)
  pub behind : IfSome asked.files.later (IsListOfRequests call.files.content (last_program asked.plan next))

-- ..and the workload has the shard that is to be served
pub record NodesFit (call : RunCall) : Type 0 where
  pub right : NodeFilesFit call
  pub has_shard : HasShard right.asked.files right.asked.plan

-- ..or it has not
pub record MissesShard (call : RunCall) : Type 0 where
  pub right : NodeFilesFit call
  pub number : ℕ
  pub asked : right.asked.files.shard ≡ Some number
  pub past : right.asked.plan.program.shards ≤ number

-- the words name this file for a workload to grow to, and what is read before is right: the workload, which has this plan, and the schedule, which has not
-- too many bytes, or the cluster file and the requests
pub data IsDueNext (call : RunCall) (name : List ℕ) : Plan → Type 0 where
  at_replay : (asked : ReplayAsked call) (coords : ℕ) → length asked.text ≤ most_bytes → asked.growth ≡ Some (name, coords) → IsDueNext call name asked.plan
  at_nodes : (asked : NodesAsked call) (coords : ℕ) → asked.files.next ≡ Some (name, coords) → IsDueNext call name asked.plan

-- the name holds a log with this tag, of a node that is none of those seen
pub record TellsLog (content : List ℕ → Option (List ℕ)) (name : List ℕ) (program : Workload) (tag : List ℕ) (seen : List Node) (log : Log) : Type 0 where
  pub text : List ℕ
  pub told : content name ≡ Some text
  pub few : length text ≤ most_log_bytes
  pub is : IsLog program tag seen text log

-- the names hold these logs, one by one, each of a node that is none of those seen and of those of the logs before it
abbrev pub TellLogs : (List ℕ → Option (List ℕ)) → Workload → (tag : List ℕ) → (seen : List Node) → (names : List (List ℕ)) → List Log → Type 0
TellLogs content program tag seen [] [] = Unit {0}
TellLogs content program tag seen [] (log ∷ logs) = ⊥
TellLogs content program tag seen (name ∷ names) [] = ⊥
TellLogs content program tag seen (name ∷ names) (log ∷ logs) = TellsLog content name program tag seen log × TellLogs content program tag (seen ++ log.node ∷ []) names logs

-- the words ask for an audit of files with these names; the named workload has this plan, and its file holds these bytes
pub record AuditAsked (call : RunCall) (names : List (List ℕ)) : Type 0 where
  pub workload : List ℕ
  pub given : IsAudit call.words workload names
  pub bytes : List ℕ
  pub held : call.files.content workload ≡ Some bytes
  pub plan : Plan
  pub planned : IsPlanOfText bytes plan

-- ..and the named files hold logs, among them one of the server of each shard
pub record AuditFits (call : RunCall) : Type 0 where
  pub names : List (List ℕ)
  pub asked : AuditAsked call names
  pub logs : List Log
  pub told : TellLogs call.files.content asked.plan.program (tag_of_bytes asked.bytes) [] names logs
  pub whole : HaveNoGap asked.plan logs

-- a command of one or two files; generated load needs none
abbrev pub IsFit : RunCall → Type 0
IsFit call = ReplayFits call ⊎ (PrintFits call ⊎ (CheckFits call ⊎ AreGenWords call.words))
