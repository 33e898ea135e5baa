-- The records that a shard's server keeps over its own events: docs/PROTOCOL.md, "Running nodes"
use Rattle.std.specs.Prelude.{ℕ, List, [], ◌∷◌, ◌++◌, Some, None}
use Rattle.roc_base.specs.declared.node.Shard.{Shard}
use Rattle.roc_msg.specs.declared.msg.Msg.{Msg}
use Rattle.roc_plan.specs.Groups.{Plan}
use Rattle.roc_step.specs.First.{first_server}
use Rattle.roc_step.specs.Reads.{first_viewing, AnswersReads, ReadStep}
use Rattle.roc_step.specs.Restarts.{without_reads, recorded}
use Rattle.roc_step.specs.State.{ServerState, ServerStep, Viewing}
use Rattle.roc_step.specs.Step as server
use Rattle.roc_law_protocol.specs.declared.event.Kept.TheVariants.{Lost, Sent}
use Rattle.roc_law_nodes.specs.Own.{OwnEvent, delivered, ticked, stopped}

-- the own events, one by one, lead a shard's server from its first state to this one, in which it keeps this for views, and it has a record of
-- each of these messages: of each that it did not ignore, but for reads and for those that it lost as it stopped
pub data IsRecordedFold (plan : Plan) (shard : Shard) : List OwnEvent → List Msg → ServerState → Viewing → Type 0 where
  no_record : IsRecordedFold plan shard [] [] (first_server plan shard) first_viewing
  by_message : {events : List OwnEvent} {records : List Msg} {s : ServerState} {v : Viewing} (msg : Msg) (r : ServerStep) (q : ReadStep) → IsRecordedFold plan shard events records s v
      → server.Handles plan s msg r → AnswersReads plan v msg r q → IsRecordedFold plan shard (events ++ delivered msg ∷ []) (recorded records msg r.answer) r.state q.viewing
  by_tick : {events : List OwnEvent} {records : List Msg} {s : ServerState} {v : Viewing} → IsRecordedFold plan shard events records s v → IsRecordedFold plan shard (events ++ ticked ∷ []) records s v
  by_stop : {events : List OwnEvent} {records : List Msg} {s : ServerState} {v : Viewing} → IsRecordedFold plan shard events records s v
      → IsRecordedFold plan shard (events ++ stopped None ∷ []) records s (without_reads v)
  by_loss : {events : List OwnEvent} {records : List Msg} {s : ServerState} {v : Viewing} (msg : Msg) → IsRecordedFold plan shard events records s v
      → IsRecordedFold plan shard (events ++ stopped (Some (msg, Lost)) ∷ []) records s (without_reads v)
  by_last : {events : List OwnEvent} {records : List Msg} {s : ServerState} {v : Viewing} (msg : Msg) (many : ℕ) (r : ServerStep) (q : ReadStep) → IsRecordedFold plan shard events records s v
      → server.Handles plan s msg r → AnswersReads plan v msg r q
      → IsRecordedFold plan shard (events ++ stopped (Some (msg, Sent many)) ∷ []) (recorded records msg r.answer) r.state (without_reads q.viewing)
