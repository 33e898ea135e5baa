-- How serving ends of a shard whose node may go over to a grown workload, and what the link took and the sink: docs/PROTOCOL.md, "Growth"
use Rattle.std.specs.Prelude.{◌≡◌, ◌⊎◌, ℕ, ◌+◌, ◌<◌, ◌≤◌, Bool, true, false, List, [], ◌∷◌, ◌++◌, length, map}
use Rattle.roc_base.specs.declared.node.Shard.{Shard}
use Rattle.roc_io.specs.Call.{LinkView, NodeCall}
use Rattle.roc_io.specs.declared.link.Addr.{Addr}
use Rattle.roc_io.specs.Link.{Reception, receiving, vain}
use Rattle.roc_io.specs.Observed.{Adds, AddsFront, AddsThenFront}
use Rattle.roc_node.specs.Moves.{Moves}
use Rattle.roc_node.specs.NodeEvent.{NodeEvent}
use Rattle.roc_node.specs.NodeLine.{node_lines_text, end_lines}
use Rattle.roc_node_serve.specs.declared.ends.ServeEnd.{ServeEnd}
use Rattle.roc_node_serve.specs.declared.ends.ServeEnd.TheVariants.{Done, LinkFault, SinkFault, NoMemory}
use Rattle.roc_node_serve.specs.ServeEnd.{DoesNothing, HasBound, HasGreeted, first_text}
use Rattle.roc_grown_node.specs.Setting.{GrownNodeSetting}
use Rattle.roc_grown_serve.specs.GrownRun.{GrownNodeState, IsGrownRunFrom}

-- all turns were taken, or a stop was
abbrev pub AreGrownServerTurnsOver : (turns : ℕ) → List NodeEvent → GrownNodeState → Type 0
AreGrownServerTurnsOver turns events node = (node.stopped ≡ true) ⊎ (length events ≡ turns)

abbrev pub grown_server_end_text : Shard → (counts : Bool) → GrownNodeState → List ℕ
grown_server_end_text shard counts node = node_lines_text (end_lines shard node.stopped counts node.counts)

-- A node ran over events. The link was asked for the node's traffic: to receive once for each event, with the datagrams that come of it behind
-- that receive and before the next one. Behind all that a receive may have given `last`. There was at most one receive for each of so many turns
pub record RunsGrownServer (S : GrownNodeSetting) (first : GrownNodeState) (turns : ℕ) (last : List Reception) (events : List NodeEvent) (node : GrownNodeState) (old new : LinkView) : Type 0 where
  pub run : IsGrownRunFrom S first events node
  pub few : length events + length last ≤ turns
  pub moves : Moves old new (node.traffic ++ map receiving last)

-- How a call ends, and what it did until then to its link and its sink; it ends in no other way. `own` is the shard's address, and `first` the node before any
-- turn.
pub data ServesGrowing (S : GrownNodeSetting) (first : GrownNodeState) (shard : Shard) (own : Addr) (turns : ℕ) (counts : Bool) (call : NodeCall) : ServeEnd → Type 0 where
  -- the link was not bound, or memory was wanting before
  unbound : (end : ServeEnd) → (end ≡ LinkFault) ⊎ (end ≡ NoMemory) → DoesNothing call → ServesGrowing S first shard own turns counts call end
  -- the sink failed at the first line
  unserved : HasBound own call → Moves call.link.old call.link.new [] → AddsFront call.out.old call.out.new (first_text shard)
      → ServesGrowing S first shard own turns counts call SinkFault
  -- The receive of a turn failed
  cut_off : (events : List NodeEvent) (node : GrownNodeState) → HasBound own call → RunsGrownServer S first turns (vain ∷ []) events node call.link.old call.link.new
      → node.stopped ≡ false → length events < turns → HasGreeted shard call → ServesGrowing S first shard own turns counts call LinkFault
  -- Memory was wanting, at a receive or for what came of it, which may lose the datagram that was taken off; or for the last lines
  wanted : (events : List NodeEvent) (node : GrownNodeState) (last : List Reception) → HasBound own call → RunsGrownServer S first turns last events node call.link.old call.link.new
      → length last ≤ 1 → HasGreeted shard call → ServesGrowing S first shard own turns counts call NoMemory
  -- all turns were taken or a stop was, and the sink failed at the last lines
  untold : (events : List NodeEvent) (node : GrownNodeState) → HasBound own call → RunsGrownServer S first turns [] events node call.link.old call.link.new → AreGrownServerTurnsOver turns events node
      → AddsThenFront call.out.old call.out.new (first_text shard) (grown_server_end_text shard counts node) → ServesGrowing S first shard own turns counts call SinkFault
  -- all turns were taken or a stop was, and all lines were written
  done : (events : List NodeEvent) (node : GrownNodeState) → HasBound own call → RunsGrownServer S first turns [] events node call.link.old call.link.new → AreGrownServerTurnsOver turns events node
      → Adds call.out.old call.out.new (first_text shard ++ grown_server_end_text shard counts node) → ServesGrowing S first shard own turns counts call Done
