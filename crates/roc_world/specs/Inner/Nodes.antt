-- What comes of an event at one of many nodes, and whether that one has switched behind it
use Rattle.std.specs.Prelude.{◌≡◌, ℕ, ℤ, Bool, List, Option, Some, Result, Ok, Err, IfOk, slice_get, slice_set}
use Rattle.roc_base.specs.declared.id.TxnId.{TxnId}
use Rattle.roc_msg.specs.declared.msg.Msg.{Msg}
use Rattle.roc_msg.specs.Outbox.{Collected, HasSent}
use Rattle.roc_plan.specs.Groups.{Plan}
use Rattle.roc_epoch.specs.declared.file.File.{File}
use Rattle.roc_epoch.specs.declared.next.Next.{Next}
use Rattle.roc_grown.specs.declared.handled.GrownHandled.{GrownHandled}
use Rattle.roc_grown.specs.declared.handled.GrownAnswer.{GrownAnswer}
use Rattle.roc_grown.specs.declared.handled.GrownFault.{GrownFault}
use Rattle.roc_grown.specs.Server.{GrownServerState, GrownStep, GrownHandles, ShowsGrown, restarted, grown_server_tick}
use Rattle.roc_grown.specs.Coord.{GrownCoordState, after_drain, IsDrainStep, after_grown_submit, IsGrownSubmission, after_grown_message, IsGrownOutcome, grown_tick_sends}

-- the server of a shard took a message of a file, and no other changed
pub record ServerTakes (plan : Plan) (next : Option Next) (shard : ℕ) (file : File) (msg : Msg) (answer : GrownHandled) (switched : Bool) (old new : List GrownServerState)
    (before after : Collected) : Type 0 where
  pub server : GrownServerState
  pub there : slice_get old shard ≡ Some server
  pub step : GrownStep
  pub handles : GrownHandles plan next server file msg step
  pub shows : ShowsGrown step answer step.state before after
  pub stands : switched ≡ step.state.switched
  pub others : new ≡ slice_set old shard step.state

-- a coordinator took a message of a file, and no other changed
pub record CoordTakes (plan : Plan) (next : Option Next) (number : ℕ) (file : File) (msg : Msg) (answer : GrownAnswer) (switched : Bool) (old new : List GrownCoordState)
    (before after : Collected) : Type 0 where
  pub coord : GrownCoordState
  pub there : slice_get old number ≡ Some coord
  pub outcome : IsGrownOutcome (after_grown_message plan next coord file msg) answer (after_grown_message plan next coord file msg).state before after
  pub stands : switched ≡ (after_grown_message plan next coord file msg).state.switched
  pub others : new ≡ slice_set old number (after_grown_message plan next coord file msg).state

-- the id that a submission has, or why it has none
abbrev pub answer_of : Result (TxnId × Bool) GrownFault → Result TxnId GrownFault
answer_of (Ok (id, switched)) = Ok id
answer_of (Err fault) = Err fault

-- a transaction or a view was submitted at a coordinator, and no other changed
pub record CoordSubmits (plan : Plan) (next : Option Next) (number proc : ℕ) (args : List ℤ) (taken : Result (TxnId × Bool) GrownFault) (old new : List GrownCoordState)
    (before after : Collected) : Type 0 where
  pub coord : GrownCoordState
  pub there : slice_get old number ≡ Some coord
  pub submitted : IsGrownSubmission (after_grown_submit plan next coord proc args) (answer_of taken) (after_grown_submit plan next coord proc args).state before after
  pub stands : IfOk taken (λ t. t.1 ≡ (after_grown_submit plan next coord proc args).state.switched)
  pub others : new ≡ slice_set old number (after_grown_submit plan next coord proc args).state

-- a coordinator was told to drain, and no other changed
pub record CoordDrains (plan : Plan) (number : ℕ) (switched : Bool) (old new : List GrownCoordState) (before after : Collected) : Type 0 where
  pub coord : GrownCoordState
  pub there : slice_get old number ≡ Some coord
  pub drained : IsDrainStep (after_drain plan coord) (after_drain plan coord).state before after
  pub stands : switched ≡ (after_drain plan coord).state.switched
  pub others : new ≡ slice_set old number (after_drain plan coord).state

-- a tick of a server, which is written again as it was
pub record ServerTicks (shard : ℕ) (switched : Bool) (old new : List GrownServerState) (before after : Collected) : Type 0 where
  pub server : GrownServerState
  pub there : slice_get old shard ≡ Some server
  pub sent : HasSent before after (grown_server_tick server)
  pub stands : switched ≡ server.switched
  pub others : new ≡ slice_set old shard server

-- a server starts again: it keeps its state, and no read for a view
pub record ServerRestarts (shard : ℕ) (old new : List GrownServerState) : Type 0 where
  pub server : GrownServerState
  pub there : slice_get old shard ≡ Some server
  pub others : new ≡ slice_set old shard (restarted server)

-- a tick of a coordinator, likewise
pub record CoordTicks (plan : Plan) (next : Option Next) (number : ℕ) (switched : Bool) (old new : List GrownCoordState) (before after : Collected) : Type 0 where
  pub coord : GrownCoordState
  pub there : slice_get old number ≡ Some coord
  pub sent : HasSent before after (grown_tick_sends plan next coord)
  pub stands : switched ≡ coord.switched
  pub others : new ≡ slice_set old number coord
