-- A server with what was made ahead: docs/PROTOCOL.md, "Want of memory"
use Rattle.std.specs.Prelude.{Option}
use Rattle.roc_msg.specs.declared.msg.Msg.{Msg}
use Rattle.roc_msg.specs.Outbox.{Collected}
use Rattle.roc_step.specs.declared.handled.Handled.{Handled}
use Rattle.roc_step.specs.State.{ServerState, Viewing}

-- what was made ahead for a message: the answer, the state after it, what is kept for views then, and what is sent
pub record MadeAhead : Type 0 where
  pub msg : Msg
  pub answer : Handled
  pub state : ServerState
  pub viewing : Viewing
  pub sends : Collected

-- a server: what it keeps, and what was made ahead, where something was
pub record Serving : Type 0 where
  pub state : ServerState
  pub viewing : Viewing
  pub ahead : Option MadeAhead
