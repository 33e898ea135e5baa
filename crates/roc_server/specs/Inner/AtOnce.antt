-- What comes of a message that takes no memory
use Rattle.roc_msg.specs.declared.reason.Reason.TheVariants.{Foreign}
use Rattle.roc_step.specs.State.{ignored, ServerState, ServerStep}

-- it is foreign to a server
abbrev pub at_once : ServerState → ServerStep
at_once s = ignored s Foreign
