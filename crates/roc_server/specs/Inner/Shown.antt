-- What the core of a step shows, before anything comes of it for reads
use Rattle.std.specs.Prelude.{◌≡◌, ◌++◌}
use Rattle.roc_msg.specs.Outbox.{Collected}
use Rattle.roc_step.specs.declared.handled.Handled.{Handled}
use Rattle.roc_step.specs.Runs.{accesses_of}
use Rattle.roc_step.specs.State.{ServerState, ServerStep}

-- r is what was answered, what is kept, and what was added to an outbox
pub record ShowsStep (r : ServerStep) (answer : Handled) (state : ServerState) (old new : Collected) : Type 0 where
  pub answers : r.answer ≡ answer
  pub keeps : r.state ≡ state
  pub sends : new.messages ≡ old.messages ++ r.sends
  pub decides : new.decided ≡ old.decided ++ r.decided
  pub ran : new.ran ≡ old.ran ++ accesses_of r.ran
