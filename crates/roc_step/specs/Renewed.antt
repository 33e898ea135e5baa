-- What a server keeps that goes on without what it had: docs/PROTOCOL.md, "Renewed servers"
use Rattle.std.specs.Prelude.{[]}
use Rattle.roc_step.specs.Waits.{none_waiting}
use Rattle.roc_step.specs.State.{ServerState, Viewing}

-- the cells and the watermarks stay
abbrev pub renewed : ServerState → ServerState
renewed s = record s { started = []; lists = record { known = []; links = []; waiting = none_waiting; taken = [] } }

-- and how often cells were written
abbrev pub renewed_viewing : Viewing → Viewing
renewed_viewing v = record v { reads = [] }
