-- What comes of reading a cluster file or a request file, and of their bytes
use Rattle.std.specs.Prelude.{◌≡◌, ℕ, List, Option, Some, Result, Ok, Err, Vec}
use Rattle.std.specs.declared.alloc.Global.{Global}
use Rattle.roc_io.specs.declared.link.Addr.{Addr}
use Rattle.roc_program.specs.Program.{Workload}
use Rattle.roc_cluster.specs.declared.fault.ClusterFault.TheVariants.{NoMemory}
use Rattle.roc_cluster.specs.File.{IsClusterFile}
use Rattle.roc_cluster.specs.Answer.{IsClusterFault}
use Rattle.roc_sched.specs.declared.fault.What.{What}
use Rattle.roc_sched.specs.declared.line.Request.{Request}
use Rattle.roc_sched.specs.FaultText.{what_text}
use Rattle.roc_cli_files.specs.declared.fault.Fault.{Fault}
use Rattle.roc_cli_files.specs.declared.fault.Fault.TheVariants.{Cluster, At, Memory}
use Rattle.roc_cli_files.specs.Requests.{AreRequestsOf, IsRequestsFault}
use Rattle.roc_cli_files.specs.Held.{HoldsCluster, HoldsRequests, HoldsListed}
use Rattle.roc_cli_files.specs.Listed.{ClusterFails, RequestsFail}

-- ---- cluster files

-- the cluster, or why there is none
abbrev pub ClusterEnds : (List ℕ → Option (List ℕ)) → (name : List ℕ) → (shards : ℕ) → Result (List Addr) Fault → Type 0
ClusterEnds content name shards (Ok cluster) = HoldsCluster content name shards cluster
ClusterEnds content name shards (Err fault) = ClusterFails content name shards fault

-- the same of the bytes that a file holds
abbrev pub ClusterTextFails : (bytes name : List ℕ) → (shards : ℕ) → Fault → Type 0
ClusterTextFails bytes name shards (Cluster file fault) = (file.now ≡ name) × IsClusterFault shards bytes fault × (fault ≡ NoMemory → ⊥)
ClusterTextFails bytes name shards Memory = Unit {0}
ClusterTextFails bytes name shards _ = ⊥

abbrev pub ClusterTextEnds : (bytes name : List ℕ) → (shards : ℕ) → Result (List Addr) Fault → Type 0
ClusterTextEnds bytes name shards (Ok cluster) = IsClusterFile shards bytes cluster
ClusterTextEnds bytes name shards (Err fault) = ClusterTextFails bytes name shards fault

-- ---- request files

-- the requests, or why there are none
abbrev pub RequestsEnd : (List ℕ → Option (List ℕ)) → (name : List ℕ) → Workload → Result (Vec Request Global) Fault → Type 0
RequestsEnd content name program (Ok requests) = HoldsRequests content name program requests.items
RequestsEnd content name program (Err fault) = RequestsFail content name program fault

-- the same of a file that may be named
abbrev pub ListedEnd : (List ℕ → Option (List ℕ)) → (name : Option (List ℕ)) → Workload → Result (Vec Request Global) Fault → Type 0
ListedEnd content name program (Ok requests) = HoldsListed content name program requests.items
ListedEnd content name program (Err fault) = (listed : List ℕ) × (name ≡ Some listed) × RequestsFail content listed program fault

-- the same of the bytes that a file holds
abbrev pub RequestsTextFail : (bytes name : List ℕ) → Workload → Fault → Type 0
RequestsTextFail bytes name program (At file line what) = (file.now ≡ name) × (w : What) × IsRequestsFault program bytes line w × (what.now ≡ what_text w)
RequestsTextFail bytes name program Memory = Unit {0}
RequestsTextFail bytes name program _ = ⊥

abbrev pub RequestsTextEnd : (bytes name : List ℕ) → Workload → Result (Vec Request Global) Fault → Type 0
RequestsTextEnd bytes name program (Ok requests) = AreRequestsOf program bytes requests.items
RequestsTextEnd bytes name program (Err fault) = RequestsTextFail bytes name program fault
