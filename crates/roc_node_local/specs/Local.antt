-- What a run does that starts the servers of its cluster, submits requests and stops them
use Rattle.std.specs.Prelude.{◌≡◌, ◌≢◌, ℕ, ◌≤◌, Bool, true, false, List, [], ◌∷◌, length, map, replicate, Option, Some, None}
use Rattle.roc_base.specs.declared.node.Node.TheVariants.{Coord}
use Rattle.roc_io.specs.declared.link.Addr.{Addr}
use Rattle.roc_io.specs.declared.spawner.AllStarted.{AllStarted}
use Rattle.roc_io.specs.declared.spawner.AllStarted.TheVariants.{Ok, NoMemory as NoRoom, Failed}
use Rattle.roc_io.specs.Cause.{Rose}
use Rattle.roc_io.specs.Link.{sending}
use Rattle.roc_io.specs.Packet.{Packet}
use Rattle.roc_io.specs.Spawner.{StartsAll}
use Rattle.roc_io.specs.Observed.{Adds}
use Rattle.roc_plan.specs.Groups.{Plan}
use Rattle.roc_sched.specs.declared.line.Request.{Request}
use Rattle.roc_io.specs.Call.{LinkView, NodeCall, ChildrenCall}
use Rattle.roc_book.specs.Call.{BookCall}
use Rattle.roc_node.specs.Moves.{Moves}
use Rattle.roc_node.specs.NodeEvent.{NodeSetting, node_setting}
use Rattle.roc_node_submit.specs.SubmitEnd.{TurnsCall, turns_of, Submits, any_address, submit_book_failed}
use Rattle.roc_node_submit.specs.declared.ends.SubmitEnd.{SubmitEnd}
use Rattle.roc_node_submit.specs.declared.ends.SubmitEnd.TheVariants as submit
use Rattle.roc_node_local.specs.declared.children.ChildEnd.{ChildEnd}
use Rattle.roc_node_local.specs.declared.local.LocalEnd.{LocalEnd}
use Rattle.roc_node_local.specs.declared.local.LocalEnd.TheVariants.{Done, Unanswered, LinkFault, SinkFault, ChildFault, NoMemory}
use Rattle.roc_node_local.specs.Stops.{stop_bytes, thrice_to_each}
use Rattle.roc_node_local.specs.Children.{AwaitsAll, serve_commands}

-- what was asked for: the setting of the node that submits, the requests, the names of the workload and of the cluster file, and for how many
-- turns it submits and each server serves
pub record LocalAsk : Type 0 where
  pub setting : NodeSetting
  pub requests : List Request
  pub workload : List ℕ
  pub cluster : List ℕ
  pub turns : ℕ

-- that is asked by coordinator 0 of a workload with this tag
abbrev pub local_ask : Plan → (tag : List ℕ) → (addrs : List Addr) → List Request → (workload cluster : List ℕ) → (turns : ℕ) → LocalAsk
local_ask plan tag addrs requests workload cluster turns =
    record { setting = node_setting plan tag (Coord 0) addrs; requests = requests; workload = workload; cluster = cluster; turns = turns }

-- what the call did to its link, its sink and its spawner, as far as they tell it
pub record LocalCall : Type 0 where
  pub node : NodeCall
  pub children : ChildrenCall

-- nothing was received, sent or written
pub record IsIdle (call : TurnsCall) : Type 0 where
  pub link : call.new ≡ call.old
  pub out : call.out.new ≡ call.out.old

-- and nothing was bound, started or awaited
pub record IsNothing (call : LocalCall) : Type 0 where
  pub idle : IsIdle (turns_of call.node)
  pub bound : call.node.link.bound_new ≡ call.node.link.bound_old
  pub started : call.children.started_new ≡ call.children.started_old
  pub awaited : call.children.awaited_new ≡ call.children.awaited_old
  pub sent_at_waits : call.children.sent_at_waits_new ≡ call.children.sent_at_waits_old

-- what a book tells that keeps nothing
abbrev pub untold_book : BookCall
untold_book = record { old = record { opened = None; taken = None }; new = record { opened = None; taken = None } }

-- without a log no book fails, so that its end does not come
abbrev pub local_end_of : SubmitEnd → LocalEnd
local_end_of submit.Done = Done
local_end_of submit.Unanswered = Unanswered
local_end_of submit.LinkFault = LinkFault
local_end_of submit.SinkFault = SinkFault
local_end_of submit.BookFault = SinkFault
local_end_of submit.NoMemory = NoMemory

-- what is done between the starts and the stops, and how it ends: where all servers run, the requests are submitted; else nothing is done, and
-- the server that comes behind those that run is to blame. No log is kept
abbrev pub Works : LocalAsk → TurnsCall → AllStarted → (running : ℕ) → LocalEnd → Type 0
Works asked call Ok running end =
    (submitted : SubmitEnd) × Submits asked.setting 0 asked.requests asked.turns None call untold_book submitted × (end ≡ local_end_of submitted)
    × (submit_book_failed submitted ≡ false)
Works asked call NoRoom running end = IsIdle call × (end ≡ NoMemory)
Works asked call Failed running end = IsIdle call × (end ≡ ChildFault (record { 0 = running }) None)

-- three stops to the server of each shard, unless no server was started
abbrev pub stops_behind : (children : List ℕ) → (bytes : List ℕ) → (cluster : List Addr) → List Packet
stops_behind [] bytes cluster = []
stops_behind (child ∷ children) bytes cluster = thrice_to_each bytes cluster

-- a child that ended badly is to blame only where nothing else was
abbrev pub with_child : LocalEnd → Option ChildEnd → LocalEnd
with_child Done (Some bad) = ChildFault bad.shard bad.status
with_child Done None = Done
with_child end bad = end

-- Servers are started, in order, until one does not start; the requests are submitted; each server is told to stop, over the same link; and each
-- child that was started is awaited: at each wait, the link had sent all that it sends, the stops too. What comes first among what went wrong is
-- the end, and each step is made whatever went wrong before it.
pub record RunsServers (asked : LocalAsk) (call : LocalCall) (end : LocalEnd) : Type 0 where
  pub starts : AllStarted
  pub children : List ℕ
  pub started : StartsAll starts call.children.started_old call.children.started_new (serve_commands asked.workload asked.cluster asked.turns (length asked.setting.cluster)) [] children
  pub middle : LinkView
  pub first : LocalEnd
  pub works : Works asked (record { old = call.node.link.old; new = middle; out = call.node.out }) starts (length children) first
  pub stopped : Moves middle call.node.link.new (map sending (stops_behind children (stop_bytes asked.setting.header.tag) asked.setting.cluster))
  pub bad : Option ChildEnd
  pub awaited : AwaitsAll call.children.awaited_old call.children.awaited_new children bad
  pub stops_first : Adds call.children.sent_at_waits_old call.children.sent_at_waits_new (replicate (length children) call.node.link.new.sent)
  pub ends : end ≡ with_child first bad

pub data RunsLocal (asked : LocalAsk) (call : LocalCall) : LocalEnd → Type 0 where
  -- no memory for the stop, the words of the servers and the list of children, which are made before all else
  unready : IsNothing call → RunsLocal asked call NoMemory
  -- the link could not be bound
  unbound : IsNothing call → RunsLocal asked call LinkFault
  bound : (end : LocalEnd) → Adds call.node.link.bound_old call.node.link.bound_new (any_address ∷ []) → RunsServers asked call end → RunsLocal asked call end

abbrev pub local_link_failed : LocalEnd → Bool
local_link_failed LinkFault = true
local_link_failed Done = false
local_link_failed Unanswered = false
local_link_failed SinkFault = false
local_link_failed (ChildFault shard status) = false
local_link_failed NoMemory = false

abbrev pub local_sink_failed : LocalEnd → Bool
local_sink_failed SinkFault = true
local_sink_failed Done = false
local_sink_failed Unanswered = false
local_sink_failed LinkFault = false
local_sink_failed (ChildFault shard status) = false
local_sink_failed NoMemory = false

-- a child is blamed for a failed start or wait, which was counted, or for a status other than 0; where all is done, no failure was counted
abbrev pub BlamesChild : LocalEnd → (old new : ℕ) → Type 0
BlamesChild (ChildFault shard None) old new = Rose old new
BlamesChild (ChildFault shard (Some status)) old new = (status ≢ 0) × (old ≤ new)
BlamesChild Done old new = new ≡ old
BlamesChild end old new = old ≤ new
