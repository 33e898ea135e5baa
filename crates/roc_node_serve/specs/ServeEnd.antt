-- How serving ends, what the link took and the sink, and what the disk holds then: docs/PROTOCOL.md, "Running nodes" and "Restarts"
use Rattle.std.specs.Prelude.{◌≡◌, ◌⊎◌, ℕ, ◌+◌, ◌<◌, ◌≤◌, Bool, true, false, List, [], ◌∷◌, ◌++◌, length, map}
use Rattle.roc_base.specs.declared.node.Shard.{Shard}
use Rattle.roc_io.specs.declared.link.Addr.{Addr}
use Rattle.roc_io.specs.Link.{Reception, receiving, came, vain}
use Rattle.roc_io.specs.Observed.{Adds, AddsFront, AddsThenFront}
use Rattle.roc_io.specs.Packet.{Packet}
use Rattle.roc_io.specs.Call.{LinkView, NodeCall}
use Rattle.roc_msg.specs.declared.msg.Msg.{Msg}
use Rattle.roc_plan.specs.Groups.{Plan}
use Rattle.roc_wire.specs.declared.header.Header.{Header}
use Rattle.roc_step.specs.Restarts.{is_recorded}
use Rattle.roc_step.specs.State.{ServerStep}
use Rattle.roc_step.specs.Step.{Handles}
use Rattle.roc_node.specs.Judgement.{judged}
use Rattle.roc_node.specs.declared.judging.Judged.TheVariants.{Delivery}
use Rattle.roc_node.specs.Moves.{Moves}
use Rattle.roc_node_serve.specs.declared.ends.ServeEnd.{ServeEnd}
use Rattle.roc_node_serve.specs.declared.ends.ServeEnd.TheVariants.{Done, LinkFault, SinkFault, NoMemory, Journal, Full, Disk, BookFault}
use Rattle.roc_node.specs.declared.lines.NodeLine.TheVariants.{Serving}
use Rattle.roc_node.specs.NodeEvent.{NodeEvent, NodeSetting, receive_of}
use Rattle.roc_node.specs.NodeLine.{node_lines_text, end_lines}
use Rattle.roc_node_serve.specs.ServerRun.{ServerNodeState, IsServerRunFrom, is_stop}

abbrev pub serve_link_failed : ServeEnd → Bool
serve_link_failed LinkFault = true
serve_link_failed Done = false
serve_link_failed SinkFault = false
serve_link_failed NoMemory = false
serve_link_failed (Journal at) = false
serve_link_failed Full = false
serve_link_failed Disk = false
serve_link_failed BookFault = false

abbrev pub serve_sink_failed : ServeEnd → Bool
serve_sink_failed SinkFault = true
serve_sink_failed Done = false
serve_sink_failed LinkFault = false
serve_sink_failed NoMemory = false
serve_sink_failed (Journal at) = false
serve_sink_failed Full = false
serve_sink_failed Disk = false
serve_sink_failed BookFault = false

abbrev pub serve_disk_failed : ServeEnd → Bool
serve_disk_failed Disk = true
serve_disk_failed Done = false
serve_disk_failed LinkFault = false
serve_disk_failed SinkFault = false
serve_disk_failed NoMemory = false
serve_disk_failed (Journal at) = false
serve_disk_failed Full = false
serve_disk_failed BookFault = false

abbrev pub serve_book_failed : ServeEnd → Bool
serve_book_failed BookFault = true
serve_book_failed Done = false
serve_book_failed LinkFault = false
serve_book_failed SinkFault = false
serve_book_failed NoMemory = false
serve_book_failed (Journal at) = false
serve_book_failed Full = false
serve_book_failed Disk = false

-- a journal was refused, before the link was bound
abbrev pub serve_refused : ServeEnd → Bool
serve_refused (Journal at) = true
serve_refused Done = false
serve_refused LinkFault = false
serve_refused SinkFault = false
serve_refused NoMemory = false
serve_refused Full = false
serve_refused Disk = false
serve_refused BookFault = false

-- only a journal brings such an end
abbrev pub is_end_of_journal : ServeEnd → Bool
is_end_of_journal (Journal at) = true
is_end_of_journal Full = true
is_end_of_journal Disk = true
is_end_of_journal Done = false
is_end_of_journal LinkFault = false
is_end_of_journal SinkFault = false
is_end_of_journal NoMemory = false
is_end_of_journal BookFault = false

-- all turns were taken, or a stop was
abbrev pub AreTurnsOver : (turns : ℕ) → List NodeEvent → ServerNodeState → Type 0
AreTurnsOver turns events node = (node.stopped ≡ true) ⊎ (length events ≡ turns)

abbrev pub first_text : Shard → List ℕ
first_text shard = node_lines_text (Serving shard ∷ [])

abbrev pub end_text : Shard → (counts : Bool) → ServerNodeState → List ℕ
end_text shard counts node = node_lines_text (end_lines shard node.stopped counts node.counts)

-- A node ran over events. The link was asked for the node's traffic: to receive once for each event, with the datagrams that come of it behind
-- that receive and before the next one. Behind all that a receive may have given `last`. There was at most one receive for each of so many turns
pub record RunsServer (S : NodeSetting) (first : ServerNodeState) (turns : ℕ) (last : List Reception) (events : List NodeEvent) (node : ServerNodeState) (old new : LinkView) : Type 0 where
  pub run : IsServerRunFrom S first events node
  pub few : length events + length last ≤ turns
  pub moves : Moves old new (node.traffic ++ map receiving last)

-- Nothing was bound, sent, taken or written
pub record DoesNothing (call : NodeCall) : Type 0 where
  pub bound : call.link.bound_new ≡ call.link.bound_old
  pub moves : Moves call.link.old call.link.new []
  pub silent : call.out.new ≡ call.out.old

-- the shard's address was bound
abbrev pub HasBound : (own : Addr) → NodeCall → Type 0
HasBound own call = Adds call.link.bound_old call.link.bound_new (own ∷ [])

-- the first line was written, and nothing else
abbrev pub HasGreeted : Shard → NodeCall → Type 0
HasGreeted shard call = Adds call.out.old call.out.new (first_text shard)

-- A datagram brings a message for the core
pub record BringsMessage (tag : List ℕ) (packet : Packet) (header : Header) (msg : Msg) : Type 0 where
  pub judges : judged tag packet.bytes ≡ Delivery header msg
  pub for_core : is_stop msg ≡ false

-- a record is to be left of the message
abbrev pub LeavesRecord : Plan → ServerNodeState → Msg → Type 0
LeavesRecord plan node msg = (r : ServerStep) → Handles plan node.state msg r → is_recorded msg r.answer ≡ true

-- The datagram of the last turn brought a message for the core, which took nothing of it: nothing was sent for it, and no last lines were written.
pub record StopsAt (S : NodeSetting) (first : ServerNodeState) (shard : Shard) (own : Addr) (turns : ℕ) (call : NodeCall) (events : List NodeEvent) (node : ServerNodeState) (packet : Packet)
    (header : Header) (msg : Msg) : Type 0 where
  pub brings : BringsMessage S.header.tag packet header msg
  pub bound : HasBound own call
  pub runs : RunsServer S first turns (came packet ∷ []) events node call.link.old call.link.new
  pub goes : node.stopped ≡ false
  pub greeted : HasGreeted shard call

-- How far a call came
pub data Reached : Type 0 where
  -- to no node: none was opened
  unbegun : Reached
  -- to this node, behind these events
  behind : List NodeEvent → ServerNodeState → Reached
  -- and then to a message for which the journal has no room
  filled_at : List NodeEvent → ServerNodeState → Header → Msg → Reached
  -- and then to what a receive gave, if one was made, of which not all came
  amid : List NodeEvent → ServerNodeState → List Reception → Reached

-- How a call ends, how far it came, and what it did until then to its link and its sink. `own` is the shard's address, and `first` the node before
-- any turn: one that has sent nothing, or has opened a journal and sent one tick.
pub data Serves (S : NodeSetting) (first : ServerNodeState) (shard : Shard) (own : Addr) (turns : ℕ) (counts : Bool) (call : NodeCall) : Reached → ServeEnd → Type 0 where
  -- the journal that was named is none of the shard
  refused : (at : ℕ) → DoesNothing call → Serves S first shard own turns counts call unbegun (Journal at)
  -- the disk failed before there was a node
  unopened : DoesNothing call → Serves S first shard own turns counts call unbegun Disk
  -- memory was wanting before there was a node
  unbegan : DoesNothing call → Serves S first shard own turns counts call unbegun NoMemory
  -- the link was not bound, or memory was wanting before
  unbound : (end : ServeEnd) → (end ≡ LinkFault) ⊎ (end ≡ NoMemory) → DoesNothing call → Serves S first shard own turns counts call (behind [] first) end
  -- the book failed before that, at its open or at what the node logs before any turn
  unlogged_node : DoesNothing call → Serves S first shard own turns counts call (behind [] first) BookFault
  -- the sink failed at the first line
  unserved : HasBound own call → Moves call.link.old call.link.new [] → AddsFront call.out.old call.out.new (first_text shard)
      → Serves S first shard own turns counts call (behind [] first) SinkFault
  -- The receive of a turn failed
  cut_off : (events : List NodeEvent) (node : ServerNodeState) → HasBound own call → RunsServer S first turns (vain ∷ []) events node call.link.old call.link.new
      → node.stopped ≡ false → length events < turns → HasGreeted shard call → Serves S first shard own turns counts call (behind events node) LinkFault
  -- Memory was wanting, at a receive or for what came of it, which may lose the datagram that was taken off; or for the last lines
  wanted : (events : List NodeEvent) (node : ServerNodeState) (last : List Reception) → HasBound own call → RunsServer S first turns last events node call.link.old call.link.new
      → length last ≤ 1 → HasGreeted shard call → Serves S first shard own turns counts call (amid events node last) NoMemory
  -- the journal would be too long with the message of the last turn
  filled : (events : List NodeEvent) (node : ServerNodeState) (packet : Packet) (header : Header) (msg : Msg) → StopsAt S first shard own turns call events node packet header msg
      → LeavesRecord S.plan node msg → Serves S first shard own turns counts call (filled_at events node header msg) Full
  -- the disk failed at the message of the last turn
  broken : (events : List NodeEvent) (node : ServerNodeState) (packet : Packet) (header : Header) (msg : Msg) → StopsAt S first shard own turns call events node packet header msg
      → Serves S first shard own turns counts call (amid events node (came packet ∷ [])) Disk
  -- the book failed at the lines of the event that the receive of the last turn gave: nothing was sent for it, and nothing written
  unlogged : (events : List NodeEvent) (node : ServerNodeState) (last : List Reception) (event : NodeEvent) → HasBound own call
      → RunsServer S first turns last events node call.link.old call.link.new → map receiving last ≡ receive_of event ∷ [] → node.stopped ≡ false → HasGreeted shard call
      → Serves S first shard own turns counts call (amid events node last) BookFault
  -- all turns were taken or a stop was, and the sink failed at the last lines
  untold : (events : List NodeEvent) (node : ServerNodeState) → HasBound own call → RunsServer S first turns [] events node call.link.old call.link.new → AreTurnsOver turns events node
      → AddsThenFront call.out.old call.out.new (first_text shard) (end_text shard counts node) → Serves S first shard own turns counts call (behind events node) SinkFault
  -- all turns were taken or a stop was, and all lines were written
  done : (events : List NodeEvent) (node : ServerNodeState) → HasBound own call → RunsServer S first turns [] events node call.link.old call.link.new → AreTurnsOver turns events node
      → Adds call.out.old call.out.new (first_text shard ++ end_text shard counts node) → Serves S first shard own turns counts call (behind events node) Done
