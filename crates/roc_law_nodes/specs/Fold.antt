-- The fold of a node's own step over its own events: docs/PROTOCOL.md, "Running nodes"
use Rattle.std.specs.Prelude.{◌≡◌, ℕ, List, [], ◌∷◌, ◌++◌, Some, None}
use Rattle.roc_base.specs.declared.node.Shard.{Shard}
use Rattle.roc_msg.specs.declared.outbox.Outgoing.{Outgoing}
use Rattle.roc_plan.specs.Groups.{Plan}
use Rattle.roc_step.specs.First.{first_server}
use Rattle.roc_step.specs.Reads.{first_viewing, AnswersReads, ReadStep}
use Rattle.roc_step.specs.Restarts.{without_reads, cut_short, cut_reads}
use Rattle.roc_step.specs.State.{ServerState, ServerStep, Viewing}
use Rattle.roc_step.specs.Step as server
use Rattle.roc_coord.specs.State.{first_coord, CoordState}
use Rattle.roc_coord.specs.Step.{after_message}
use Rattle.roc_coord.specs.Submit.{after_submit}
use Rattle.roc_coord.specs.Tick as coord
use Rattle.roc_law_protocol.specs.declared.event.Kept.TheVariants.{Lost, Sent}
use Rattle.roc_law_nodes.specs.Own.{OwnEvent, delivered, ticked, requested, stopped}

-- ---- servers

-- a server in this state, which keeps this for views, takes an own event, is in that state and keeps that then, and sends these messages: a tick
-- changes nothing, and nothing is submitted to a server. Where it stops it keeps no read for a view, and ticks as it starts again; behind a message
-- whose record was kept it is as that left it, and so many of the messages that come of it were sent
abbrev pub ServerSteps : Plan → ServerState → Viewing → OwnEvent → ServerState → Viewing → List Outgoing → Type 0
ServerSteps plan s v (delivered msg) after kept outs =
    (r : ServerStep) × (q : ReadStep) × server.Handles plan s msg r × AnswersReads plan v msg r q × (after ≡ r.state) × (kept ≡ q.viewing) × (outs ≡ r.sends ++ q.sends)
ServerSteps plan s v ticked after kept outs = (after ≡ s) × (kept ≡ v) × (outs ≡ server.tick_sends s)
ServerSteps plan s v (requested proc args) after kept outs = ⊥
ServerSteps plan s v (stopped None) after kept outs = (after ≡ s) × (kept ≡ without_reads v) × (outs ≡ server.tick_sends s)
ServerSteps plan s v (stopped (Some (msg, Lost))) after kept outs = (after ≡ s) × (kept ≡ without_reads v) × (outs ≡ server.tick_sends s)
ServerSteps plan s v (stopped (Some (msg, Sent many))) after kept outs =
    (r : ServerStep) × (q : ReadStep) × server.Handles plan s msg r × AnswersReads plan v msg r q × (after ≡ r.state) × (kept ≡ without_reads q.viewing)
    × (outs ≡ ((cut_short many r).sends ++ (cut_reads many r q).sends) ++ server.tick_sends r.state)

-- the own events, one by one, lead a server from a state in which it keeps this for views and has sent these messages to another one
pub data IsServerFoldFrom (plan : Plan) (first : ServerState) (keeps : Viewing) (before : List Outgoing) : List OwnEvent → ServerState → Viewing → List Outgoing → Type 0 where
  server_begun : IsServerFoldFrom plan first keeps before [] first keeps before
  server_goes_on : {events : List OwnEvent} {s : ServerState} {v : Viewing} {messages : List Outgoing} (own : OwnEvent) (after : ServerState) (kept : Viewing) (outs : List Outgoing)
      → IsServerFoldFrom plan first keeps before events s v messages → ServerSteps plan s v own after kept outs
      → IsServerFoldFrom plan first keeps before (events ++ own ∷ []) after kept (messages ++ outs)

-- the same of a shard's server from its first state on: these are all the messages that it sends
abbrev pub IsServerFold : Plan → Shard → List OwnEvent → ServerState → Viewing → List Outgoing → Type 0
IsServerFold plan shard events s v messages = IsServerFoldFrom plan (first_server plan shard) first_viewing [] events s v messages

-- ---- coordinators

-- a coordinator in this state takes an own event, is in that one then, and sends these messages: a tick changes no state, nor does a
-- submission that is refused; coordinators do not stop
abbrev pub CoordSteps : Plan → CoordState → OwnEvent → CoordState → List Outgoing → Type 0
CoordSteps plan s (delivered msg) after outs = (after ≡ (after_message plan s msg).state) × (outs ≡ (after_message plan s msg).sends)
CoordSteps plan s ticked after outs = (after ≡ s) × (outs ≡ coord.tick_sends plan s)
CoordSteps plan s (requested proc args) after outs = (after ≡ (after_submit plan s proc args).state) × (outs ≡ (after_submit plan s proc args).sends)
CoordSteps plan s (stopped at) after outs = ⊥

-- the own events, one by one, lead the coordinator of this number from its first state to this one, and it sends these messages in all
pub data IsCoordFold (plan : Plan) (number : ℕ) : List OwnEvent → CoordState → List Outgoing → Type 0 where
  coord_begun : IsCoordFold plan number [] (first_coord number) []
  coord_goes_on : {events : List OwnEvent} {s : CoordState} {messages : List Outgoing} (own : OwnEvent) (after : CoordState) (outs : List Outgoing)
      → IsCoordFold plan number events s messages → CoordSteps plan s own after outs → IsCoordFold plan number (events ++ own ∷ []) after (messages ++ outs)
