-- Why a cluster file, a request file or the logs of nodes give nothing
use Rattle.std.specs.Prelude.{◌≡◌, ℕ, List, ◌∷◌, ◌++◌, map, Option}
use Rattle.std.specs.Borrow.{Bor}
use Rattle.roc_base.specs.declared.node.Node.{Node}
use Rattle.roc_lang.specs.Grammar.{text_limit}
use Rattle.roc_program.specs.Program.{Workload}
use Rattle.roc_plan.specs.Groups.{Plan}
use Rattle.roc_sched.specs.declared.fault.What.{What}
use Rattle.roc_sched.specs.FaultText.{what_text}
use Rattle.roc_sched.specs.Schedule.{most_bytes}
use Rattle.roc_log.specs.declared.line.Log.{Log as NodeLog}
use Rattle.roc_auditor.specs.declared.auditor.Auditor.{Auditor}
use Rattle.roc_auditor.specs.Verdict.{nodes_of}
use Rattle.roc_auditor.specs.Taken.{HasTaken}
use Rattle.roc_cli_files.specs.declared.fault.Fault.{Fault}
use Rattle.roc_cli_files.specs.declared.fault.Fault.TheVariants.{Cluster, At, Log}
use Rattle.roc_cli_files.specs.Held.{HoldsNoCluster, HoldsNoRequests, HoldsNoLog, HoldLogs, most_log_bytes}
use Rattle.roc_cli_files.specs.Input.{IsReadFault}

-- why there is no cluster
abbrev pub ClusterFails : (List ℕ → Option (List ℕ)) → (name : List ℕ) → (shards : ℕ) → Fault → Type 0
ClusterFails content name shards (Cluster file fault) = (file.now ≡ name) × HoldsNoCluster content name shards fault
ClusterFails content name shards fault = IsReadFault content name text_limit fault

-- why there are no requests
abbrev pub RequestsFail : (List ℕ → Option (List ℕ)) → (name : List ℕ) → Workload → Fault → Type 0
RequestsFail content name program (At file line what) = (file.now ≡ name) × ((w : What) × HoldsNoRequests content name program line w × (what.now ≡ what_text w))
RequestsFail content name program fault = IsReadFault content name most_bytes fault

-- ---- the logs of nodes

-- the names, as the code has them
abbrev pub names_listed : List (Bor (List ℕ)) → List (List ℕ)
names_listed names = map (λ name. name.now) names

-- why a file gives no log, where there are logs of the nodes seen
abbrev pub LogFails : (List ℕ → Option (List ℕ)) → (name : List ℕ) → Workload → (tag : List ℕ) → (seen : List Node) → Fault → Type 0
LogFails content name program tag seen (Log file line what) = (file.now ≡ name) × HoldsNoLog content name program tag seen line what
LogFails content name program tag seen fault = IsReadFault content name most_log_bytes fault

-- why files give no logs: the first of them that gives none, behind those that hold logs
pub record LogsFail (content : List ℕ → Option (List ℕ)) (names : List (List ℕ)) (plan : Plan) (tag : List ℕ) (fault : Fault) : Type 0 where
  pub before : List (List ℕ)
  pub name : List ℕ
  pub behind : List (List ℕ)
  pub logs : List NodeLog
  pub parts : names ≡ before ++ name ∷ behind
  pub held : HoldLogs content before plan tag logs
  pub fails : LogFails content name plan.program tag (nodes_of logs) fault

-- the auditor took the logs that the names hold
pub record HasTakenNamed (content : List ℕ → Option (List ℕ)) (names : List (List ℕ)) (plan : Plan) (tag : List ℕ) (auditor : Auditor) : Type 0 where
  pub logs : List NodeLog
  pub held : HoldLogs content names plan tag logs
  pub taken : HasTaken plan logs auditor
