-- A node's own events, and what a run of the world has of them and of the node's messages: docs/PROTOCOL.md, "Running nodes"
use Rattle.std.specs.Prelude.{ℕ, ℤ, ◌-◌, List, Option, Some, None, option_map, map, filter, slice_get, if◌then◌else◌}
use Rattle.std.specs.List.{filter_map}
use Rattle.roc_base.specs.declared.node.Node.{Node}
use Rattle.roc_base.specs.declared.node.Node.TheVariants.{Server, Coord}
use Rattle.roc_base.specs.Node.{is_node}
use Rattle.roc_msg.specs.declared.msg.Msg.{Msg}
use Rattle.roc_msg.specs.declared.msg.Envelope.{Envelope}
use Rattle.roc_msg.specs.declared.outbox.Outgoing.{Outgoing}
use Rattle.roc_law_protocol.specs.declared.event.Event.{Event}
use Rattle.roc_law_protocol.specs.declared.event.Event.TheVariants.{Submit, Deliver, Tick, Stop}
use Rattle.roc_law_protocol.specs.declared.event.Kept.{Kept}
use Rattle.roc_law_world.specs.Run.{Stepped}

-- what makes a node's core take a step: a message comes to it, time has passed for it, a call of a procedure is submitted to it, or it stops, at a
-- message or at none, and starts again
pub data OwnEvent : Type 0 where
  delivered : Msg → OwnEvent
  ticked : OwnEvent
  requested : (proc : ℕ) → List ℤ → OwnEvent
  stopped : Option (Msg × Kept) → OwnEvent

-- ---- in a run of the world

-- a message that comes is an own event of its receiver
abbrev pub heard_by : Node → Option Envelope → Option OwnEvent
heard_by node None = None
heard_by node (Some m) = if is_node m.to node then Some (delivered m.msg) else None

-- the message at which a server stops, and what is kept of it
abbrev pub stopped_at : List Envelope → Option (ℕ × Kept) → Option (Msg × Kept)
stopped_at sent None = None
stopped_at sent (Some (k, kept)) = option_map (λ m. (m.msg, kept)) (slice_get sent (k - 1))

-- what an event of the world is to a node, where these are the messages of the network: nothing, if it is another node's
abbrev pub own_event : Node → List Envelope → Event → Option OwnEvent
own_event node sent (Submit number proc args) = if is_node (Coord number) node then Some (requested proc args) else None
own_event node sent (Deliver k) = heard_by node (slice_get sent (k - 1))
own_event node sent (Tick other) = if is_node other node then Some ticked else None
own_event node sent (Stop shard during) = if is_node (Server shard) node then Some (stopped (stopped_at sent during)) else None

abbrev pub own_step : Node → List Envelope → Option Event → Option OwnEvent
own_step node sent None = None
own_step node sent (Some event) = own_event node sent event

-- a node's own events in a run, in order, where these are the messages of the network at its end
abbrev pub own_events : Node → List Envelope → List Stepped → List OwnEvent
own_events node sent steps = filter_map (λ s. own_step node sent s.event) steps

-- those of the messages that a node sent, in order
abbrev pub messages_of : Node → List Envelope → List Outgoing
messages_of node sent = map (λ m. record { to = m.to; msg = m.msg }) (filter (λ m. is_node m.from node) sent)
