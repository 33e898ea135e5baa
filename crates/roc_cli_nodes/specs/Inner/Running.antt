-- What the loop of each command tells, by how nodes end
use Rattle.std.specs.Prelude.{◌≡◌, ℕ, Bool, List, [], Option, Some, None, Result, option_map, unwrap_or}
use Rattle.std.specs.Borrow.{Bor}
use Rattle.roc_base.specs.declared.node.Shard.{Shard}
use Rattle.roc_io.specs.declared.link.Addr.{Addr}
use Rattle.roc_sched.specs.declared.line.Request.{Request}
use Rattle.roc_epoch.specs.declared.next.Next.{Next}
use Rattle.roc_node.specs.NodeEvent.{NodeSetting}
use Rattle.roc_grown_node.specs.Setting.{GrownNodeSetting}
use Rattle.roc_grown_serve.specs.GrownRun.{first_grown_node}
use Rattle.roc_grown_serve.specs.ServesGrowing.{ServesGrowing}
use Rattle.roc_grown_submit.specs.GrownEnd.{BindsAndSubmitsGrowing}
use Rattle.roc_node_serve.specs.declared.ends.ServeEnd.{ServeEnd}
use Rattle.roc_node_submit.specs.declared.ends.SubmitEnd.{SubmitEnd}
use Rattle.roc_node_serve.specs.Keeping.{ServesWith}
use Rattle.roc_book.specs.Call.{BookCall}
use Rattle.roc_io.specs.Observed.{AddsUnless}
use Rattle.roc_node_local.specs.declared.stops.StopEnd.{StopEnd}
use Rattle.roc_node_submit.specs.SubmitEnd.{any_address, BindsAndSubmits}
use Rattle.roc_node_local.specs.Stops.{SendsStops, stops_unbound}
use Rattle.roc_node_local.specs.declared.local.LocalEnd.{LocalEnd}
use Rattle.roc_node_local.specs.declared.local.LocalEnd.TheVariants.{ChildFault}
use Rattle.roc_node_local.specs.Local.{LocalAsk, LocalCall, RunsLocal, BlamesChild}
use Rattle.roc_io.specs.Call.{NodeCall, LinkCall, ChildrenCall}
use Rattle.roc_cli_files.specs.declared.fault.Fault.{Fault}
use Rattle.roc_cli_nodes.specs.Call.{RunCall, DiskCall}
use Rattle.roc_cli_nodes.specs.NodeEnds.{NodesEnd, end_of_serve, end_of_submit, end_of_stops, end_of_local}
use Rattle.roc_cli_nodes.specs.Ends.{LaunchEnds, LoopEnded}
use Rattle.roc_cli_nodes.specs.Nodes.{AreRunHere, BlamesChildOf}

-- a name, where there is one
abbrev pub named : Option (Bor (List ℕ)) → Option (List ℕ)
named name = option_map (λ text. text.now) name

-- what a server, and a coordinator, did with the named log or without one
abbrev pub ServesAs : DiskCall → (journal log : Option (List ℕ)) → NodeSetting → Shard → (own : Addr) → (turns : ℕ) → (counts : Bool) → NodeCall → BookCall → NodesEnd → Type 0
ServesAs disk journal log S shard own turns counts call book end =
    (e : ServeEnd) × (end_of_serve (unwrap_or journal []) (unwrap_or log []) e ≡ end) × ServesWith disk.of disk.old disk.new journal log S shard own turns counts call book e

abbrev pub SubmitsAs : NodeSetting → (coord : ℕ) → List Request → (turns : ℕ) → (log : Option (List ℕ)) → NodeCall → BookCall → NodesEnd → Type 0
SubmitsAs S coord requests turns log call book end =
    (e : SubmitEnd) × (end_of_submit (unwrap_or log []) e ≡ end) × BindsAndSubmits S coord requests turns log call book e

-- what those do that go over to a grown workload
abbrev pub ServesGrowingAs : GrownNodeSetting → Shard → (own : Addr) → (turns : ℕ) → (counts : Bool) → NodeCall → NodesEnd → Type 0
ServesGrowingAs S shard own turns counts call end = (e : ServeEnd) × (end_of_serve [] [] e ≡ end) × ServesGrowing S (first_grown_node S.plan shard) shard own turns counts call e

abbrev pub SubmitsGrowingAs : GrownNodeSetting → (coord : ℕ) → (requests later : List Request) → (turns : ℕ) → NodeCall → NodesEnd → Type 0
SubmitsGrowingAs S coord requests later turns call end = (e : SubmitEnd) × (end_of_submit [] e ≡ end) × BindsAndSubmitsGrowing S coord requests later turns call e

-- what is told of nodes: of those that go over, where a workload to grow to was read, and else of the others
abbrev pub ByNext : Option Next → (plain : NodesEnd → Type 0) → (grown : Next → NodesEnd → Type 0) → NodesEnd → Type 0
ByNext None plain grown end = plain end
ByNext (Some next) plain grown end = grown next end

-- what sending stops does to a link
pub record StopsLink (tag : List ℕ) (cluster : List Addr) (link : LinkCall) (end : StopEnd) : Type 0 where
  pub bound : AddsUnless (stops_unbound end) link.bound_old link.bound_new any_address
  pub sends : SendsStops end tag cluster link.old link.new
  pub arrivals : link.new.arrivals ≡ link.old.arrivals

abbrev pub StopsAs : (tag : List ℕ) → (cluster : List Addr) → LinkCall → NodesEnd → Type 0
StopsAs tag cluster link end = (e : StopEnd) × (end_of_stops e ≡ end) × StopsLink tag cluster link e

abbrev pub LocalAs : LocalAsk → LocalCall → NodesEnd → Type 0
LocalAs asked call end = (e : LocalEnd) × (end_of_local e ≡ Some end) × RunsLocal asked call e

abbrev pub LocalBlames : LocalAsk → LocalCall → Shard → Option ℕ → Type 0
LocalBlames asked call shard status =
    RunsLocal asked call (ChildFault shard status) × BlamesChild (ChildFault shard status) call.children.faults_old call.children.faults_new

-- how the loop of a local run ends, once its files were read
abbrev pub LocalLoopEnded : LocalAsk → LocalCall → Result Unit Fault → Type 0
LocalLoopEnded asked call result = LoopEnded (LocalAs asked call) (LocalBlames asked call) result

-- the same, or why its files were not read
abbrev pub LocalLaunched : RunCall → LinkCall → ChildrenCall → Result Unit Fault → Type 0
LocalLaunched call link children result = LaunchEnds call (AreRunHere call link children) (BlamesChildOf call link children) result

-- no child is to blame
abbrev pub no_child : Shard → Option ℕ → Type 0
no_child shard status = ⊥
