-- A coordinator that goes on with another plan
use Rattle.std.specs.Prelude.{[]}
use Rattle.roc_coord.specs.State.{CoordState}

-- it keeps its number and its next sequence
abbrev pub renewed_coord : CoordState → CoordState
renewed_coord c = record c { pending = []; views = []; unanswered = [] }
