-- What a named file holds, as far as that is told: docs/FORMATS.md, "The program"
use Rattle.std.specs.Prelude.{◌≡◌, ℕ, ◌<◌, ◌≤◌, List, [], ◌∷◌, ◌++◌, length, Option, Some, None, IfSome}
use Rattle.roc_base.specs.declared.node.Node.{Node}
use Rattle.roc_lang.specs.Syntax.{Tree}
use Rattle.roc_lang.specs.Grammar.{text_limit}
use Rattle.roc_lang.specs.Scope.{Fault, faults}
use Rattle.roc_lang.specs.declared.fault.What.{What}
use Rattle.roc_lang_scope.specs.Fault.{first}
use Rattle.roc_lang_parse.specs.Fault.{IsWorkloadText, IsFirstFault}
use Rattle.roc_program.specs.Program.{Workload}
use Rattle.roc_plan.specs.Groups.{Plan}
use Rattle.roc_report.specs.Checked.{CheckedLine}
use Rattle.roc_check.specs.Checked.{IsPlanOfText, IsRefusedText}
use Rattle.roc_io.specs.declared.link.Addr.{Addr}
use Rattle.roc_cluster.specs.declared.fault.ClusterFault.{ClusterFault}
use Rattle.roc_cluster.specs.declared.fault.ClusterFault.TheVariants.{NoMemory}
use Rattle.roc_cluster.specs.File.{IsClusterFile}
use Rattle.roc_cluster.specs.Answer.{IsClusterFault}
use Rattle.roc_sched.specs.declared.fault.What.{What as ScheduleWhat}
use Rattle.roc_sched.specs.declared.line.Request.{Request}
use Rattle.roc_sched.specs.Schedule.{most_bytes}
use Rattle.roc_log.specs.declared.fault.What.{What as LogWhat}
use Rattle.roc_log.specs.declared.line.Log.{Log}
use Rattle.roc_log.specs.Logs.{IsLog, IsLogFault}
use Rattle.roc_cli_files.specs.Requests.{AreRequestsOf, IsRequestsFault}

-- these are the bytes that the name holds, where they are told
abbrev pub Holds : (List ℕ → Option (List ℕ)) → List ℕ → List ℕ → Type 0
Holds content name bytes = IfSome (content name) (λ held. held ≡ bytes)

-- the name holds more bytes than these, where they are told
abbrev pub HoldsMore : (List ℕ → Option (List ℕ)) → List ℕ → ℕ → Type 0
HoldsMore content name most = IfSome (content name) (λ held. most < length held)

-- the name holds a workload text of this tree, in scope or not
pub record HoldsText (content : List ℕ → Option (List ℕ)) (name : List ℕ) (tree : Tree) : Type 0 where
  pub bytes : List ℕ
  pub held : Holds content name bytes
  pub is : IsWorkloadText bytes tree

-- the name holds bytes with this first fault of grammar, and not too many
pub record HoldsFault (content : List ℕ → Option (List ℕ)) (name : List ℕ) (line : ℕ) (what : What) : Type 0 where
  pub bytes : List ℕ
  pub held : Holds content name bytes
  pub size : length bytes ≤ text_limit
  pub fault : IsFirstFault bytes line what

-- the name holds a workload text whose first fault of scope is this one
pub record HoldsMisuse (content : List ℕ → Option (List ℕ)) (name : List ℕ) (fault : Fault) : Type 0 where
  pub tree : Tree
  pub of : HoldsText content name tree
  pub is : first (faults tree) ≡ Some fault

-- the name holds a workload text in scope, of a program that has this plan
pub record HoldsPlan (content : List ℕ → Option (List ℕ)) (name : List ℕ) (plan : Plan) : Type 0 where
  pub bytes : List ℕ
  pub held : Holds content name bytes
  pub is : IsPlanOfText bytes plan

-- the name holds a workload text in scope, of this program, which is not acceptable: this line says why
pub record HoldsRejected (content : List ℕ → Option (List ℕ)) (name : List ℕ) (program : Workload) (said : CheckedLine) : Type 0 where
  pub bytes : List ℕ
  pub held : Holds content name bytes
  pub is : IsRefusedText bytes program said

-- ---- the files of a command with nodes

-- the files of a command with nodes, among them the workload to grow to, with how many coordinators there are, and the requests to submit
-- then; and the shard that it serves
pub record NodeFiles : Type 0 where
  pub workload : List ℕ
  pub cluster : List ℕ
  pub requests : Option (List ℕ)
  pub next : Option (List ℕ × ℕ)
  pub later : Option (List ℕ)
  pub shard : Option ℕ

-- the name holds a cluster file for so many shards, of this cluster, and not too many bytes
pub record HoldsCluster (content : List ℕ → Option (List ℕ)) (name : List ℕ) (shards : ℕ) (cluster : List Addr) : Type 0 where
  pub bytes : List ℕ
  pub held : Holds content name bytes
  pub size : length bytes ≤ text_limit
  pub is : IsClusterFile shards bytes cluster

-- the name holds bytes that are none, and this is their first fault
pub record HoldsNoCluster (content : List ℕ → Option (List ℕ)) (name : List ℕ) (shards : ℕ) (fault : ClusterFault) : Type 0 where
  pub bytes : List ℕ
  pub held : Holds content name bytes
  pub size : length bytes ≤ text_limit
  pub is : IsClusterFault shards bytes fault
  pub of_bytes : fault ≡ NoMemory → ⊥

-- the name holds a request file of these requests, all of which fit the program
pub record HoldsRequests (content : List ℕ → Option (List ℕ)) (name : List ℕ) (program : Workload) (requests : List Request) : Type 0 where
  pub bytes : List ℕ
  pub held : Holds content name bytes
  pub size : length bytes ≤ most_bytes
  pub are : AreRequestsOf program bytes requests

-- the name holds bytes that are none, and this is their first fault
pub record HoldsNoRequests (content : List ℕ → Option (List ℕ)) (name : List ℕ) (program : Workload) (line : ℕ) (what : ScheduleWhat) : Type 0 where
  pub bytes : List ℕ
  pub held : Holds content name bytes
  pub size : length bytes ≤ most_bytes
  pub fault : IsRequestsFault program bytes line what

-- there are requests only where a file of them is named
abbrev pub HoldsListed : (List ℕ → Option (List ℕ)) → Option (List ℕ) → Workload → List Request → Type 0
HoldsListed content None program requests = requests ≡ []
HoldsListed content (Some name) program requests = HoldsRequests content name program requests

-- the shard that is to be served is one of the plan's
abbrev pub HasShard : NodeFiles → Plan → Type 0
HasShard files plan = IfSome files.shard (λ n. n < plan.program.shards)

-- the files of a command with nodes hold a workload, of these bytes and with this plan, which has the shard that is to be served; this cluster;
-- and these requests
pub record HoldNodes (content : List ℕ → Option (List ℕ)) (files : NodeFiles) (bytes : List ℕ) (plan : Plan) (cluster : List Addr) (requests : List Request) : Type 0 where
  pub of_workload : Holds content files.workload bytes
  pub planned : IsPlanOfText bytes plan
  pub has_shard : HasShard files plan
  pub of_cluster : HoldsCluster content files.cluster plan.program.shards cluster
  pub of_requests : HoldsListed content files.requests plan.program requests

-- ---- the logs of nodes

abbrev pub most_log_bytes : ℕ
most_log_bytes = 67108864

-- the name holds this log with this tag, of a node that is none of those seen, and not too many bytes
pub record HoldsLog (content : List ℕ → Option (List ℕ)) (name : List ℕ) (program : Workload) (tag : List ℕ) (seen : List Node) (log : Log) : Type 0 where
  pub bytes : List ℕ
  pub held : Holds content name bytes
  pub size : length bytes ≤ most_log_bytes
  pub is : IsLog program tag seen bytes log

-- the name holds bytes that are none, and this is their first fault
pub record HoldsNoLog (content : List ℕ → Option (List ℕ)) (name : List ℕ) (program : Workload) (tag : List ℕ) (seen : List Node) (line : ℕ) (what : LogWhat) : Type 0 where
  pub bytes : List ℕ
  pub held : Holds content name bytes
  pub size : length bytes ≤ most_log_bytes
  pub fault : IsLogFault program tag seen bytes line what

-- the names hold these logs, one by one, each of a node that is none of those seen and of those of the logs before it
abbrev pub HoldLogsBehind : (List ℕ → Option (List ℕ)) → Workload → (tag : List ℕ) → (seen : List Node) → (names : List (List ℕ)) → List Log → Type 0
HoldLogsBehind content program tag seen [] [] = Unit {0}
HoldLogsBehind content program tag seen [] (log ∷ logs) = ⊥
HoldLogsBehind content program tag seen (name ∷ names) [] = ⊥
HoldLogsBehind content program tag seen (name ∷ names) (log ∷ logs) =
    HoldsLog content name program tag seen log × HoldLogsBehind content program tag (seen ++ log.node ∷ []) names logs

-- the names hold these logs, each of another node
abbrev pub HoldLogs : (List ℕ → Option (List ℕ)) → (names : List (List ℕ)) → Plan → (tag : List ℕ) → List Log → Type 0
HoldLogs content names plan tag logs = HoldLogsBehind content plan.program tag [] names logs
