-- Commands with nodes: what their files held, and how their loops ended: docs/FORMATS.md, "The program", and docs/PROTOCOL.md, "Running nodes"
use Rattle.std.specs.Prelude.{◌≡◌, ◌≢◌, ◌⊎◌, ℕ, Bool, List, [], Option, Some, None, slice_get, unwrap_or}
use Rattle.roc_base.specs.declared.node.Shard.{Shard}
use Rattle.roc_base.specs.declared.node.Node.TheVariants.{Server, Coord}
use Rattle.roc_io.specs.declared.link.Addr.{Addr}
use Rattle.roc_plan.specs.Groups.{Plan}
use Rattle.roc_epoch.specs.declared.next.Next.{Next}
use Rattle.roc_sched.specs.declared.line.Request.{Request}
use Rattle.roc_io.specs.Observed.{AddsUnless}
use Rattle.roc_book.specs.Call.{BookCall}
use Rattle.roc_node_local.specs.declared.stops.StopEnd.{StopEnd}
use Rattle.roc_node_submit.specs.SubmitEnd.{any_address}
use Rattle.roc_node_local.specs.Stops.{SendsStops, stops_unbound}
use Rattle.roc_node_local.specs.declared.local.LocalEnd.{LocalEnd}
use Rattle.roc_node_local.specs.declared.local.LocalEnd.TheVariants.{ChildFault}
use Rattle.roc_node_local.specs.Local.{LocalCall, RunsLocal, BlamesChild, local_ask}
use Rattle.roc_cli_words.specs.Commands.{serve, submit, stop, local}
use Rattle.roc_cli_words.specs.Answer.{AreWordsOf}
use Rattle.roc_node.specs.NodeEvent.{node_setting}
use Rattle.roc_node_serve.specs.declared.ends.ServeEnd.{ServeEnd}
use Rattle.roc_node_serve.specs.declared.ends.ServeEnd.TheVariants as serve_end
use Rattle.roc_node_submit.specs.declared.ends.SubmitEnd.{SubmitEnd}
use Rattle.roc_node_submit.specs.declared.ends.SubmitEnd.TheVariants as submit_end
use Rattle.roc_node_serve.specs.Keeping.{ServesWith}
use Rattle.roc_node_submit.specs.SubmitEnd.{BindsAndSubmits}
use Rattle.roc_grown_node.specs.Setting.{grown_node_setting}
use Rattle.roc_grown_serve.specs.GrownRun.{first_grown_node}
use Rattle.roc_grown_serve.specs.ServesGrowing.{ServesGrowing}
use Rattle.roc_grown_submit.specs.GrownEnd.{BindsAndSubmitsGrowing}
use Rattle.roc_io.specs.Call.{NodeCall, LinkCall, ChildrenCall}
use Rattle.roc_cli_nodes.specs.Call.{RunCall, DiskCall, WholeCall, TakesNothing}
use Rattle.roc_cli_nodes.specs.NodeEnds.{NodesEnd, end_of_serve, end_of_submit, end_of_stops, end_of_local}
use Rattle.roc_cli_files.specs.Held.{HoldNodes, HoldsRequests}
use Rattle.roc_cli_files.specs.NodeNames.{tag_of_bytes, HoldsNext}

-- a call, as the loops of nodes see it
abbrev pub node_call : RunCall → LinkCall → NodeCall
node_call call link = record { link = link; out = call.out }

abbrev pub local_call : RunCall → LinkCall → ChildrenCall → LocalCall
local_call call link children = record { node = node_call call link; children = children }

-- a shard of the workload was served, at its address in the cluster, with the named journal or without one, and that ended so; the log that was named
-- holds what `serves` says
pub record ServeEnded (call : RunCall) (link : LinkCall) (disk : DiskCall) (book : BookCall) (end : ServeEnd) : Type 0 where
  pub workload : List ℕ
  pub cluster : List ℕ
  pub shard : ℕ
  pub turns : ℕ
  pub counts : Bool
  pub journal : Option (List ℕ)
  pub log : Option (List ℕ)
  pub given : AreWordsOf call.words (serve workload cluster shard turns counts journal log None)
  pub bytes : List ℕ
  pub plan : Plan
  pub addrs : List Addr
  pub held : HoldNodes call.files.content (record { workload = workload; cluster = cluster; requests = None; next = None; later = None; shard = Some shard }) bytes plan addrs []
  pub own : Addr
  pub address : slice_get addrs shard ≡ Some own
  pub serves : ServesWith disk.of disk.old disk.new journal log
      (node_setting plan (tag_of_bytes bytes) (Server (record { 0 = shard })) addrs) (record { 0 = shard }) own turns counts
      (node_call call link) book end

-- the same of a shard whose server may go over to a grown workload, for so many coordinators, which keeps neither a journal nor a log. The tags of the two
-- workloads differ
pub record GrownServeEnded (call : RunCall) (link : LinkCall) (end : ServeEnd) : Type 0 where
  pub workload : List ℕ
  pub cluster : List ℕ
  pub shard : ℕ
  pub turns : ℕ
  pub counts : Bool
  pub grown : List ℕ
  pub coords : ℕ
  pub given : AreWordsOf call.words (serve workload cluster shard turns counts None None (Some (grown, coords)))
  pub bytes : List ℕ
  pub plan : Plan
  pub addrs : List Addr
  pub held : HoldNodes call.files.content (record { workload = workload; cluster = cluster; requests = None; next = Some (grown, coords); later = None; shard = Some shard }) bytes plan addrs []
  pub next : Next
  pub follows : HoldsNext call.files.content grown plan.program coords next
  pub apart : next.tag ≢ tag_of_bytes bytes
  pub own : Addr
  pub address : slice_get addrs shard ≡ Some own
  pub serves : ServesGrowing
      (grown_node_setting plan (tag_of_bytes bytes) next (Server (record { 0 = shard })) addrs) (first_grown_node plan (record { 0 = shard })) (record { 0 = shard }) own turns counts
      (node_call call link) end

-- the requests were submitted by a coordinator, and that ended so; the log that was named holds what `submits` says
pub record SubmitEnded (call : RunCall) (link : LinkCall) (book : BookCall) (end : SubmitEnd) : Type 0 where
  pub workload : List ℕ
  pub cluster : List ℕ
  pub listed : List ℕ
  pub coord : ℕ
  pub turns : ℕ
  pub log : Option (List ℕ)
  pub given : AreWordsOf call.words (submit workload cluster listed coord turns log None)
  pub bytes : List ℕ
  pub plan : Plan
  pub addrs : List Addr
  pub requests : List Request
  pub held : HoldNodes call.files.content (record { workload = workload; cluster = cluster; requests = Some listed; next = None; later = None; shard = None }) bytes plan addrs requests
  pub submits : BindsAndSubmits (node_setting plan (tag_of_bytes bytes) (Coord coord) addrs) coord requests turns log (node_call call link) book end

-- the same of a coordinator that goes over to a grown workload behind these requests, and submits those of a further file then; it keeps no log. The tags of
-- the two workloads differ
pub record GrownSubmitEnded (call : RunCall) (link : LinkCall) (end : SubmitEnd) : Type 0 where
  pub workload : List ℕ
  pub cluster : List ℕ
  pub listed : List ℕ
  pub coord : ℕ
  pub turns : ℕ
  pub grown : List ℕ
  pub behind : List ℕ
  pub given : AreWordsOf call.words (submit workload cluster listed coord turns None (Some (grown, behind)))
  pub bytes : List ℕ
  pub plan : Plan
  pub addrs : List Addr
  pub requests : List Request
  pub held : HoldNodes call.files.content (record { workload = workload; cluster = cluster; requests = Some listed; next = Some (grown, 16); later = Some behind; shard = None })
      bytes plan addrs requests
  pub next : Next
  pub follows : HoldsNext call.files.content grown plan.program 16 next
  pub apart : next.tag ≢ tag_of_bytes bytes
  pub later : List Request
  pub of_later : HoldsRequests call.files.content behind next.plan.program later
  pub submits : BindsAndSubmitsGrowing (grown_node_setting plan (tag_of_bytes bytes) next (Coord coord) addrs) coord requests later turns (node_call call link) end

-- each server was sent its stops, or nothing was sent, and that ended so
pub record StopEnded (call : RunCall) (link : LinkCall) (end : StopEnd) : Type 0 where
  pub workload : List ℕ
  pub cluster : List ℕ
  pub given : AreWordsOf call.words (stop workload cluster)
  pub bytes : List ℕ
  pub plan : Plan
  pub addrs : List Addr
  pub held : HoldNodes call.files.content (record { workload = workload; cluster = cluster; requests = None; next = None; later = None; shard = None }) bytes plan addrs []
  pub bound : AddsUnless (stops_unbound end) link.bound_old link.bound_new any_address
  pub sends : SendsStops end (tag_of_bytes bytes) addrs link.old link.new
  pub arrivals : link.new.arrivals ≡ link.old.arrivals
  pub silent : TakesNothing call

-- servers were started as children, the requests submitted, and the servers stopped and awaited, and that ended so
pub record LocalEnded (call : RunCall) (link : LinkCall) (children : ChildrenCall) (end : LocalEnd) : Type 0 where
  pub workload : List ℕ
  pub cluster : List ℕ
  pub listed : List ℕ
  pub turns : ℕ
  pub given : AreWordsOf call.words (local workload cluster listed turns)
  pub bytes : List ℕ
  pub plan : Plan
  pub addrs : List Addr
  pub requests : List Request
  pub held : HoldNodes call.files.content (record { workload = workload; cluster = cluster; requests = Some listed; next = None; later = None; shard = None }) bytes plan addrs requests
  pub runs : RunsLocal
      (local_ask plan (tag_of_bytes bytes) addrs requests workload cluster turns)
      (local_call call link children) end

-- each of these, by how nodes end
abbrev pub IsServedPlain : RunCall → LinkCall → DiskCall → BookCall → NodesEnd → Type 0
IsServedPlain call link disk book end = (own : ServeEnd) × (h : ServeEnded call link disk book own) × (end_of_serve (unwrap_or h.journal []) (unwrap_or h.log []) own ≡ end)

abbrev pub IsServedGrowing : RunCall → LinkCall → NodesEnd → Type 0
IsServedGrowing call link end = (own : ServeEnd) × (end_of_serve [] [] own ≡ end) × GrownServeEnded call link own

abbrev pub IsServed : RunCall → LinkCall → DiskCall → BookCall → NodesEnd → Type 0
IsServed call link disk book end = IsServedPlain call link disk book end ⊎ IsServedGrowing call link end

abbrev pub AreSubmittedPlain : RunCall → LinkCall → BookCall → NodesEnd → Type 0
AreSubmittedPlain call link book end = (own : SubmitEnd) × (h : SubmitEnded call link book own) × (end_of_submit (unwrap_or h.log []) own ≡ end)

abbrev pub AreSubmittedGrowing : RunCall → LinkCall → NodesEnd → Type 0
AreSubmittedGrowing call link end = (own : SubmitEnd) × (end_of_submit [] own ≡ end) × GrownSubmitEnded call link own

abbrev pub AreSubmitted : RunCall → LinkCall → BookCall → NodesEnd → Type 0
AreSubmitted call link book end = AreSubmittedPlain call link book end ⊎ AreSubmittedGrowing call link end

abbrev pub AreStopped : RunCall → LinkCall → NodesEnd → Type 0
AreStopped call link end = (own : StopEnd) × (end_of_stops own ≡ end) × StopEnded call link own

abbrev pub AreRunHere : RunCall → LinkCall → ChildrenCall → NodesEnd → Type 0
AreRunHere call link children end = (own : LocalEnd) × (end_of_local own ≡ Some end) × LocalEnded call link children own

-- how a command with nodes ended, once its files were read
abbrev pub AreNodesEnded : WholeCall → NodesEnd → Type 0
AreNodesEnded call end =
    IsServed call.run call.link call.disk call.book end
    ⊎ (AreSubmitted call.run call.link call.book end ⊎ (AreStopped call.run call.link end ⊎ AreRunHere call.run call.link call.children end))

-- a shard was served with the journal of this name, and that ended so
abbrev pub IsServedWith : WholeCall → (name : List ℕ) → ServeEnd → Type 0
IsServedWith call name end = (h : ServeEnded call.run call.link call.disk call.book end) × (h.journal ≡ Some name)

-- a shard was served or requests were submitted with the log of this name, and its book failed
abbrev pub IsBookBlamed : WholeCall → (name : List ℕ) → Type 0
IsBookBlamed call name =
    ((h : ServeEnded call.run call.link call.disk call.book serve_end.BookFault) × (h.log ≡ Some name))
    ⊎ ((h : SubmitEnded call.run call.link call.book submit_end.BookFault) × (h.log ≡ Some name))

-- the server of a shard was to blame, which was started as a child: it could not be started or awaited, and that was counted, or ended with
-- another status than 0
pub record BlamesChildOf (call : RunCall) (link : LinkCall) (children : ChildrenCall) (shard : Shard) (status : Option ℕ) : Type 0 where
  pub ended : LocalEnded call link children (ChildFault shard status)
  pub cause : BlamesChild (ChildFault shard status) children.faults_old children.faults_new

abbrev pub IsChildBlamed : WholeCall → Shard → Option ℕ → Type 0
IsChildBlamed call shard status = BlamesChildOf call.run call.link call.children shard status

abbrev pub BlamesAnyChild : WholeCall → Type 0
BlamesAnyChild call = (shard : Shard) × (status : Option ℕ) × IsChildBlamed call shard status
