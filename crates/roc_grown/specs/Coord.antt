-- A coordinator that may go over to a grown workload, and what comes of a drain, a submission, a message and a tick there: docs/PROTOCOL.md, "Growth"
use Rattle.std.specs.Prelude.{◌≡◌, ℕ, ℤ, Bool, true, false, not, ◌&&◌, ◌||◌, ◌==◌, nat_lt, List, [], ◌∷◌, ◌++◌, Option, Some, None, Result, Ok, Err, map, if◌then◌else◌}
use Rattle.std.specs.List.{list_any, list_all, range_with_len}
use Rattle.roc_base.specs.declared.id.TxnId.{TxnId}
use Rattle.roc_base.specs.declared.node.Shard.{Shard}
use Rattle.roc_base.specs.declared.node.Node.TheVariants.{Server}
use Rattle.roc_base.specs.TxnId.{is_txn}
use Rattle.roc_msg.specs.declared.msg.Msg.{Msg}
use Rattle.roc_msg.specs.declared.msg.Msg.TheVariants.{Drained, Switched}
use Rattle.roc_msg.specs.declared.outbox.Outgoing.{Outgoing}
use Rattle.roc_msg.specs.declared.reason.Reason.{Reason}
use Rattle.roc_msg.specs.declared.reason.Reason.TheVariants.{Foreign, Stale}
use Rattle.roc_msg.specs.Outbox.{Collected, HasSent}
use Rattle.roc_plan.specs.Groups.{Plan}
use Rattle.roc_epoch.specs.declared.file.File.{File}
use Rattle.roc_epoch.specs.declared.next.Next.{Next}
use Rattle.roc_epoch.specs.Files.{is_file, own_file, own_plan}
use Rattle.roc_coord.specs.declared.handled.Handled.{Handled}
use Rattle.roc_coord.specs.declared.handled.Handled.TheVariants as core
use Rattle.roc_coord.specs.declared.handled.SubmitFault.{SubmitFault}
use Rattle.roc_coord.specs.declared.handled.SubmitFault.TheVariants.{NoMemory}
use Rattle.roc_coord.specs.Renewed.{renewed_coord}
use Rattle.roc_coord.specs.State.{CoordState, CoordStep, first_coord}
use Rattle.roc_coord.specs.Step.{after_message}
use Rattle.roc_coord.specs.Submit.{Submission, after_submit, next_id}
use Rattle.roc_coord.specs.Tick.{tick_sends}
use Rattle.roc_grown.specs.declared.handled.GrownAnswer.{GrownAnswer}
use Rattle.roc_grown.specs.declared.handled.GrownAnswer.TheVariants.{Done, Answered, Skipped, Ignored}
use Rattle.roc_grown.specs.declared.handled.GrownFault.{GrownFault}
use Rattle.roc_grown.specs.declared.handled.GrownFault.TheVariants.{Draining, Plain}

pub record GrownCoordState : Type 0 where
  pub core : CoordState
  -- from its drain until it switches
  pub draining : Bool
  -- what its drained told, once one was sent
  pub upto : Option TxnId
  -- the shards whose switched was taken, as they came
  pub at : List Shard
  -- its own file is the second
  pub switched : Bool

-- before any submission
abbrev pub first_grown_coord : ℕ → GrownCoordState
first_grown_coord number = record { core = first_coord number; draining = false; upto = None; at = []; switched = false }

-- ---- drained

abbrev pub is_empty : List TxnId → Bool
is_empty [] = true
is_empty (id ∷ ids) = false

abbrev pub drained_to : TxnId → (shard : ℕ) → Outgoing
drained_to upto shard = record { to = Server (record { 0 = shard }); msg = Drained upto }

-- each shard is told, by number
abbrev pub drained_sends : Plan → TxnId → List Outgoing
drained_sends plan upto = map (drained_to upto) (range_with_len 0 plan.program.shards)

-- it drains, and has nothing unanswered
abbrev pub is_drained : GrownCoordState → Bool
is_drained s = s.draining && is_empty s.core.unanswered

-- it tells that it has answered all before its next id
abbrev pub telling : GrownCoordState → GrownCoordState
telling s = record s { upto = Some (next_id s.core) }

-- ---- a drain

-- the state after it, and what is sent
pub record DrainStep : Type 0 where
  pub state : GrownCoordState
  pub sends : List Outgoing

abbrev pub tell_if_drained : Plan → GrownCoordState → DrainStep
tell_if_drained plan s =
    if is_drained s then record { state = telling s; sends = drained_sends plan (next_id s.core) } else record { state = s; sends = [] }

-- one that drains or has switched does nothing
abbrev pub after_drain : Plan → GrownCoordState → DrainStep
after_drain plan s = if s.draining || s.switched then record { state = s; sends = [] } else tell_if_drained plan (record s { draining = true })

-- the state is now this one, and an outbox has gained what is sent
pub record IsDrainStep (step : DrainStep) (reached : GrownCoordState) (before after : Collected) : Type 0 where
  pub state : reached ≡ step.state
  pub sent : HasSent before after (step.sends)

-- ---- a submission

-- what comes of it: the id or why there is none, the state after it, and what is sent
pub record GrownSubmission : Type 0 where
  pub answer : Result TxnId GrownFault
  pub state : GrownCoordState
  pub sends : List Outgoing

abbrev pub answered_so : Result TxnId SubmitFault → Result TxnId GrownFault
answered_so (Ok id) = Ok id
answered_so (Err fault) = Err (Plain fault)

-- what a coordinator of its own file makes of it
abbrev pub submitted_to_core : GrownCoordState → Submission → GrownSubmission
submitted_to_core s r = record { answer = answered_so r.answer; state = record s { core = r.state }; sends = r.sends }

-- one that drains refuses each, whatever it is
abbrev pub after_grown_submit : Plan → Option Next → GrownCoordState → (proc : ℕ) → List ℤ → GrownSubmission
after_grown_submit plan next s proc args =
    if s.draining then record { answer = Err Draining; state = s; sends = [] } else submitted_to_core s (after_submit (own_plan plan next s.switched) s.core proc args)

-- this was answered, the state is now this one, and an outbox has gained what is sent
pub record IsGrownSubmission (submission : GrownSubmission) (answered : Result TxnId GrownFault) (reached : GrownCoordState) (before after : Collected) : Type 0 where
  pub answer : answered ≡ submission.answer
  pub state : reached ≡ submission.state
  pub sent : HasSent before after (submission.sends)

abbrev pub wants_memory : Result TxnId GrownFault → Bool
wants_memory (Err (Plain NoMemory)) = true
wants_memory answer = false

-- ---- a message

-- what comes of it: the answer, the state after it, and what is sent
pub record GrownCoordStep : Type 0 where
  pub answer : GrownAnswer
  pub state : GrownCoordState
  pub sends : List Outgoing

-- a message of which nothing comes but its answer
abbrev pub unchanged : GrownCoordState → GrownAnswer → GrownCoordStep
unchanged s answer = record { answer = answer; state = s; sends = [] }

abbrev pub handled_so : Handled → GrownAnswer
handled_so core.Done = Done
handled_so (core.Answered id reply) = Answered id reply
handled_so (core.Ignored why) = Ignored why

abbrev pub is_answer : Handled → Bool
is_answer (core.Answered id reply) = true
is_answer answer = false

-- an answer that leaves nothing unanswered, where the coordinator drains, is followed by drained
abbrev pub told_behind : Plan → GrownCoordState → Handled → DrainStep
told_behind plan s answer = if is_answer answer then tell_if_drained plan s else record { state = s; sends = [] }

-- what a coordinator of its own file makes of it
abbrev pub as_core : GrownCoordState → CoordStep → GrownCoordStep
as_core s r = record { answer = handled_so r.answer; state = record s { core = r.state }; sends = r.sends }

-- the same with what is told behind that
abbrev pub of_core : Plan → GrownCoordState → CoordStep → GrownCoordStep
of_core plan s r =
    let told = told_behind plan (record s { core = r.state }) r.answer in
    record { answer = handled_so r.answer; state = told.state; sends = r.sends ++ told.sends }

-- these shards are all that there are
abbrev pub have_all_switched : (shards : ℕ) → List Shard → Bool
have_all_switched shards at = list_all (λ shard. list_any (λ told. told.0 == shard) at) (range_with_len 0 shards)

-- it goes over to the second file: it keeps its number and its next sequence, and drains no longer
abbrev pub gone_over : GrownCoordState → GrownCoordState
gone_over s = record s { core = renewed_coord s.core; draining = false; switched = true }

-- it goes over once all have told
abbrev pub over_if_all : Plan → GrownCoordState → GrownCoordState
over_if_all plan s = if have_all_switched plan.program.shards s.at then gone_over s else s

-- it was told by a drained
abbrev pub was_told : TxnId → Option TxnId → Bool
was_told upto None = false
was_told upto (Some told) = is_txn upto told

-- why a switched is not taken: the first reason that holds
abbrev pub switched_refusal : Plan → GrownCoordState → TxnId → Shard → Option Reason
switched_refusal plan s upto shard =
    if not (nat_lt shard.0 plan.program.shards && was_told upto s.upto) then Some Foreign
    else if list_any (λ told. told.0 == shard.0) s.at then Some Stale
    else None

abbrev pub unless_refused : GrownCoordState → Option Reason → GrownCoordState → GrownCoordStep
unless_refused s (Some reason) taken = unchanged s (Ignored reason)
unless_refused s None taken = unchanged taken Done

abbrev pub after_switched : Plan → GrownCoordState → TxnId → Shard → GrownCoordStep
after_switched plan s upto shard = unless_refused s (switched_refusal plan s upto shard) (over_if_all plan (record s { at = s.at ++ shard ∷ [] }))

-- a message that is no drained or switched
abbrev pub after_filed : Plan → Option Next → GrownCoordState → File → Msg → GrownCoordStep
after_filed plan next s file msg =
    if is_file (own_file s.switched) file then of_core plan s (after_message (own_plan plan next s.switched) s.core msg) else unchanged s Skipped

-- a drained is foreign, one of another file than the coordinator's own is skipped, and one of its own is handled as by a coordinator of it. The plan is
-- that of the first file
abbrev pub after_grown_message : Plan → Option Next → GrownCoordState → File → Msg → GrownCoordStep
after_grown_message plan next s file (Drained upto) = unchanged s (Ignored Foreign)
after_grown_message plan next s file (Switched upto shard) = after_switched plan s upto shard
after_grown_message plan next s file msg = after_filed plan next s file msg

-- this was answered, the state is now this one, and an outbox has gained what is sent
pub record IsGrownOutcome (step : GrownCoordStep) (answered : GrownAnswer) (reached : GrownCoordState) (before after : Collected) : Type 0 where
  pub answer : answered ≡ step.answer
  pub state : reached ≡ step.state
  pub sent : HasSent before after (step.sends)

-- ---- a tick changes nothing; what it sends

abbrev pub told_again : Plan → Option TxnId → List Outgoing
told_again plan None = []
told_again plan (Some upto) = drained_sends plan upto

-- until it switches it tells again what it told
abbrev pub drained_again : Plan → GrownCoordState → List Outgoing
drained_again plan s = if s.draining then told_again plan s.upto else []

abbrev pub grown_tick_sends : Plan → Option Next → GrownCoordState → List Outgoing
grown_tick_sends plan next s = tick_sends (own_plan plan next s.switched) s.core ++ drained_again plan s
