-- What a server keeps over a stop, and what its records give: docs/PROTOCOL.md, "Restarts"
use Rattle.std.specs.Prelude.{◌≡◌, ℕ, ◌-◌, Bool, true, false, List, [], ◌∷◌, ◌++◌, length, take, if◌then◌else◌}
use Rattle.roc_base.specs.declared.node.Shard.{Shard}
use Rattle.roc_msg.specs.declared.msg.Msg.{Msg}
use Rattle.roc_msg.specs.declared.msg.Msg.TheVariants.{Read}
use Rattle.roc_plan.specs.Groups.{Plan}
use Rattle.roc_step.specs.declared.handled.Handled.{Handled}
use Rattle.roc_step.specs.declared.handled.Handled.TheVariants.{Done}
use Rattle.roc_step.specs.First.{first_server}
use Rattle.roc_step.specs.Reads.{first_viewing, is_taken, AnswersReads, ReadStep}
use Rattle.roc_step.specs.State.{ServerState, ServerStep, Viewing}
use Rattle.roc_step.specs.Step.{Handles}

-- what is kept for views over a stop: how often cells were written, and no read
abbrev pub without_reads : Viewing → Viewing
without_reads v = record v { reads = [] }

-- the message leaves a record: a read leaves none
abbrev pub is_recorded : Msg → Handled → Bool
is_recorded (Read id round proc group args) answer = false
is_recorded msg answer = is_taken answer

-- messages that a shard's server took, one by one from its first state on, and none that it ignored
pub data IsKeptFold (plan : Plan) (shard : Shard) : List Msg → ServerState → Viewing → Type 0 where
  nothing_kept : IsKeptFold plan shard [] (first_server plan shard) first_viewing
  one_more_kept : {msgs : List Msg} {s : ServerState} {v : Viewing} (msg : Msg) (r : ServerStep) (q : ReadStep) → IsKeptFold plan shard msgs s v
      → Handles plan s msg r → AnswersReads plan v msg r q → is_taken r.answer ≡ true → IsKeptFold plan shard (msgs ++ msg ∷ []) r.state q.viewing

-- a server that keeps this is, kept reads aside, what these records give
pub record StandsFor (plan : Plan) (shard : Shard) (msgs : List Msg) (s : ServerState) (v : Viewing) : Type 0 where
  pub viewing : Viewing
  pub fold : IsKeptFold plan shard msgs s viewing
  pub versions : v.versions ≡ viewing.versions

-- the records behind a message
abbrev pub recorded : List Msg → Msg → Handled → List Msg
recorded msgs msg answer = if is_recorded msg answer then msgs ++ msg ∷ [] else msgs

-- so many of the messages of a step were sent before the server stopped, and what came of the step for reads then
abbrev pub cut_short : ℕ → ServerStep → ServerStep
cut_short many r = record r { answer = Done; sends = take many r.sends }

abbrev pub cut_reads : ℕ → ServerStep → ReadStep → ReadStep
cut_reads many r q = record { viewing = without_reads q.viewing; sends = take (many - length r.sends) q.sends }
