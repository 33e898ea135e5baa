-- What a server holds: what it keeps, what it keeps for views, and what was made ahead, where something was
use Rattle.std.specs.Prelude.{⊤, Option, Some, None, option_map}
use Rattle.roc_base.specs.declared.node.Shard.{Shard}
use Rattle.roc_msg.specs.declared.msg.Msg.{Msg}
use Rattle.roc_msg.specs.Outbox.{Collected}
use Rattle.roc_plan.specs.Groups.{Plan}
use Rattle.roc_server.specs.declared.ahead.Ahead.{Ahead}
use Rattle.roc_server.specs.declared.ahead.Outcome.{Outcome}
use Rattle.roc_server.specs.declared.parts.ServerParts.{ServerParts}
use Rattle.roc_step.specs.declared.handled.Handled.{Handled}
use Rattle.roc_server_reads.specs.declared.views.Views.{Views}
use Rattle.roc_server_reads.specs.Views.{viewing_of, viewing_then, HasRoomToCount}
use Rattle.roc_step.specs.Reads.{AnswersReads, ReadStep}
use Rattle.roc_server.specs.State.{MadeAhead, Serving}
use Rattle.roc_step.specs.State.{ServerState, ServerStep, Viewing}
use Rattle.roc_step.specs.Step.{Handles, Shows}
use Rattle.roc_server.specs.Inner.Parts.{state_behind, state_of, CanRelease, IsIdle, IsSound}

-- ---- a server, of which something may be made ahead

-- what comes of a message, as it was tried
abbrev pub made_of : Shard → ServerParts → Views → Msg → Outcome → MadeAhead
made_of shard k v msg o =
    record { msg = msg; answer = o.answer; state = state_behind shard k; viewing = viewing_then (viewing_of v) o.answer o.sends.ran o.stays; sends = o.sends }

abbrev pub made_ahead : Shard → ServerParts → Views → Ahead → MadeAhead
made_ahead shard k v made = made_of shard k v made.msg.value made.outcome

abbrev pub serving : Shard → ServerParts → Views → Option Ahead → Serving
serving shard k v ahead = record { state = state_of shard k; viewing = viewing_of v; ahead = option_map (made_ahead shard k v) ahead }

-- what was made ahead is tried and can be kept, and where nothing was, nothing is tried
abbrev pub IsTriedFor : ServerParts → Option Ahead → Type 0
IsTriedFor k None = IsIdle k
IsTriedFor k (Some made) = CanRelease k

pub record IsHeld (k : ServerParts) (ahead : Option Ahead) : Type 0 where
  pub sound : IsSound k
  pub tried : IsTriedFor k ahead

-- what was made ahead can be counted
abbrev pub CanCount : Views → Option Ahead → Type 0
CanCount v None = ⊤
CanCount v (Some made) = HasRoomToCount made.outcome.sends.ran v

-- a step was taken: this was answered, is kept, and was added to an outbox
abbrev pub IsServed : Plan → ServerState → Viewing → Msg → Handled → ServerState → Viewing → Collected → Collected → Type 0
IsServed plan s v msg answer state viewing old new = (r : ServerStep) × (q : ReadStep) × Handles plan s msg r × AnswersReads plan v msg r q × Shows r q answer state viewing old new
