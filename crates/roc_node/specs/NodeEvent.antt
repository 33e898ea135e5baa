-- What a turn of a node takes: docs/PROTOCOL.md, "Running nodes"
use Rattle.std.specs.Prelude.{ℕ, List}
use Rattle.roc_base.specs.declared.node.Node.{Node}
use Rattle.roc_io.specs.declared.link.Addr.{Addr}
use Rattle.roc_io.specs.Link.{LinkEvent, receiving, came, none_came}
use Rattle.roc_io.specs.Packet.{Packet}
use Rattle.roc_plan.specs.Groups.{Plan}
use Rattle.roc_wire.specs.declared.header.Header.{Header}

-- a datagram that came, or that none came in time
pub data NodeEvent : Type 0 where
  took : Packet → NodeEvent
  silent : NodeEvent

-- the one receive that gave an event
abbrev pub receive_of : NodeEvent → LinkEvent
receive_of (took packet) = receiving (came packet)
receive_of silent = receiving none_came

-- what stays the same while a node runs: the plan, the addresses of the shards, and what stands before each message that it sends, which
-- is the workload's tag and who the node is
pub record NodeSetting : Type 0 where
  pub plan : Plan
  pub header : Header
  pub cluster : List Addr

-- that of a node of a workload with this tag
abbrev pub node_setting : Plan → (tag : List ℕ) → Node → (cluster : List Addr) → NodeSetting
node_setting plan tag node cluster = record { plan = plan; header = record { tag = tag; from = node }; cluster = cluster }
