-- What reading the files of a command with nodes gives, or the workload that another one is to grow to; or why there is nothing
use Rattle.std.specs.Prelude.{◌≡◌, ◌≢◌, ℕ, ◌≤◌, List, Option, Some, None, Err, take, option_map}
use Rattle.sha2.specs.Sha256.{sha256}
use Rattle.roc_base.specs.declared.node.Shard.{Shard}
use Rattle.roc_io.specs.declared.link.Addr.{Addr}
use Rattle.roc_program.specs.Program.{Workload}
use Rattle.roc_plan.specs.Groups.{Plan}
use Rattle.roc_epoch.specs.declared.fault.GrowthFault.{GrowthFault}
use Rattle.roc_epoch.specs.declared.next.Next.{Next}
use Rattle.roc_epoch.specs.Files.{last_plan}
use Rattle.roc_epoch.specs.Grown.{IsGrownFrom}
use Rattle.roc_epoch.specs.Growth.{IsGrowth}
use Rattle.roc_sched.specs.declared.line.Request.{Request}
use Rattle.roc_cli_words.specs.Commands.{growth_of}
use Rattle.roc_cli_files.specs.declared.fault.Fault.{Fault}
use Rattle.roc_cli_files.specs.declared.fault.Fault.TheVariants.{NoShard, Growth, Same}
use Rattle.roc_cli_files.specs.declared.nodes.NodeNames.{NodeNames}
use Rattle.roc_cli_files.specs.declared.nodes.Nodes.{Nodes}
use Rattle.roc_cli_files.specs.Held.{NodeFiles, HoldsPlan, HoldsCluster, HoldsListed, HoldNodes}
use Rattle.roc_cli_files.specs.Input.{PlanFails}
use Rattle.roc_cli_files.specs.Listed.{ClusterFails, RequestsFail}

-- the tag that is the workload's: the front of the digest of the bytes that its file holds
abbrev pub tag_of_bytes : List ℕ → List ℕ
tag_of_bytes bytes = take 8 (sha256 bytes)

-- the name holds a workload with this plan and this tag
abbrev pub HoldsTagged : (List ℕ → Option (List ℕ)) → (name : List ℕ) → Plan → (tag : List ℕ) → Type 0
HoldsTagged content name plan tag = (h : HoldsPlan content name plan) × (tag ≡ tag_of_bytes h.bytes)

-- ---- growth

-- the name holds a workload of this plan and this tag, a grown one of this program, for so many coordinators
pub record HoldsNext (content : List ℕ → Option (List ℕ)) (name : List ℕ) (program : Workload) (coords : ℕ) (next : Next) : Type 0 where
  pub held : HoldsTagged content name next.plan next.tag
  pub grown : IsGrownFrom program next.plan.program
  pub count : next.coords ≡ coords

-- the name holds a workload that is no grown one of this program, and this is wrong first
pub record HoldsNoGrowth (content : List ℕ → Option (List ℕ)) (name : List ℕ) (program : Workload) (fault : GrowthFault) : Type 0 where
  pub plan : Plan
  pub held : HoldsPlan content name plan
  pub is : IsGrowth program plan.program (Err fault)

-- why there is no grown workload: there is no plan, where standard output took what is said of a workload that is not acceptable; or it took nothing, and the
-- workload is no grown one
abbrev pub NextFails : (List ℕ → Option (List ℕ)) → (name : List ℕ) → Workload → (old new : Option (List ℕ)) → Fault → Type 0
NextFails content name program old new (Growth file fault) = (file.now ≡ name) × HoldsNoGrowth content name program fault × (new ≡ old)
NextFails content name program old new fault = PlanFails content name old new fault

-- ..of nodes, which know workloads by their tags alone: where one is named, it has to have another tag than this
abbrev pub HoldsGrowth : (List ℕ → Option (List ℕ)) → (growth : Option (List ℕ × ℕ)) → Workload → (tag : List ℕ) → Option Next → Type 0
HoldsGrowth content None program tag None = Unit {0}
HoldsGrowth content None program tag (Some next) = ⊥
HoldsGrowth content (Some growth) program tag None = ⊥
HoldsGrowth content (Some growth) program tag (Some next) = HoldsNext content growth.0 program growth.1 next × (next.tag ≢ tag)

-- why the one that is named is none: there is no grown workload, or it has this tag
abbrev pub GrowthFails : (List ℕ → Option (List ℕ)) → (growth : Option (List ℕ × ℕ)) → Workload → (tag : List ℕ) → (old new : Option (List ℕ)) → Fault → Type 0
GrowthFails content growth program tag old new (Same file) =
    (coords : ℕ) × (next : Next) × (growth ≡ Some (file.now, coords)) × HoldsNext content file.now program coords next × (next.tag ≡ tag) × (new ≡ old)
GrowthFails content growth program tag old new fault = (name : List ℕ) × (coords : ℕ) × (growth ≡ Some (name, coords)) × NextFails content name program old new fault

-- ---- the files of a command with nodes

-- the names, as the code has them
abbrev pub files_named : NodeNames → NodeFiles
files_named names = record {
  workload = names.workload.now;
  cluster = names.cluster.now;
  requests = option_map (λ name. name.now) names.requests;
  next = growth_of names.next;
  later = option_map (λ name. name.now) names.later;
  shard = option_map (λ (s : Shard). s.0) names.shard;
}

-- those up to the requests hold a workload with this plan and this tag, this cluster, and these requests
pub record HoldFirst (content : List ℕ → Option (List ℕ)) (files : NodeFiles) (plan : Plan) (tag : List ℕ) (cluster : List Addr) (requests : List Request) : Type 0 where
  pub of_workload : HoldsTagged content files.workload plan tag
  pub of_cluster : HoldsCluster content files.cluster plan.program.shards cluster
  pub of_requests : HoldsListed content files.requests plan.program requests

-- those behind them hold what a workload with this plan and this tag is to grow to, and these requests, which fit the last of the two
pub record HoldLater (content : List ℕ → Option (List ℕ)) (files : NodeFiles) (plan : Plan) (tag : List ℕ) (next : Option Next) (later : List Request) : Type 0 where
  pub of_next : HoldsGrowth content files.next plan.program tag next
  pub of_later : HoldsListed content files.later (last_plan plan next).program later

-- what the files hold
abbrev pub HoldsAll : (List ℕ → Option (List ℕ)) → NodeFiles → Nodes → Type 0
HoldsAll content files nodes =
    (bytes : List ℕ) × HoldNodes content files bytes nodes.plan nodes.cluster nodes.requests.items × (nodes.tag ≡ tag_of_bytes bytes)
    × HoldLater content files nodes.plan nodes.tag nodes.next nodes.later.items

-- the files hold all that they have to, but the shard that is to be served is not one of the workload
pub record LacksShard (content : List ℕ → Option (List ℕ)) (files : NodeFiles) : Type 0 where
  pub plan : Plan
  pub cluster : List Addr
  pub requests : List Request
  pub of_workload : HoldsPlan content files.workload plan
  pub of_cluster : HoldsCluster content files.cluster plan.program.shards cluster
  pub of_requests : HoldsListed content files.requests plan.program requests
  pub next : Option Next
  pub later : List Request
  pub of_growth : HoldLater content files plan (tag_of_bytes of_workload.bytes) next later
  pub number : ℕ
  pub asked : files.shard ≡ Some number
  pub past : plan.program.shards ≤ number

-- why they do not: there is no plan, where standard output took what is said of a workload that is not acceptable; or, where it took nothing, there
-- is no cluster, or there are no requests; or there is no workload to grow to, where standard output took what is said of that one; or, where it took nothing,
-- there are no requests to submit then, or all these are there and the plan lacks the shard
pub data NodesFail (content : List ℕ → Option (List ℕ)) (files : NodeFiles) (old new : Option (List ℕ)) : Fault → Type 0 where
  by_workload : (fault : Fault) → PlanFails content files.workload old new fault → NodesFail content files old new fault
  by_cluster : (plan : Plan) (fault : Fault) → HoldsPlan content files.workload plan → ClusterFails content files.cluster plan.program.shards fault
      → new ≡ old → NodesFail content files old new fault
  by_requests : (plan : Plan) (addrs : List Addr) (name : List ℕ) (fault : Fault) → HoldsPlan content files.workload plan
      → HoldsCluster content files.cluster plan.program.shards addrs → files.requests ≡ Some name → RequestsFail content name plan.program fault
      → new ≡ old → NodesFail content files old new fault
  by_next : (plan : Plan) (tag : List ℕ) (addrs : List Addr) (requests : List Request) (fault : Fault) → HoldFirst content files plan tag addrs requests
      → GrowthFails content files.next plan.program tag old new fault → NodesFail content files old new fault
  by_later : (plan : Plan) (tag : List ℕ) (addrs : List Addr) (requests : List Request) (next : Option Next) (name : List ℕ) (fault : Fault)
      → HoldFirst content files plan tag addrs requests → HoldsGrowth content files.next plan.program tag next
      → files.later ≡ Some name → RequestsFail content name (last_plan plan next).program fault → new ≡ old → NodesFail content files old new fault
  by_shard : LacksShard content files → new ≡ old → NodesFail content files old new NoShard
