-- Steps of the world: docs/PROTOCOL.md, "World"
use Rattle.std.specs.Prelude.{Option}
use Rattle.roc_law_protocol.specs.declared.event.Event.{Event}
use Rattle.roc_law_protocol.specs.Happens.{Outcome}

-- an event with what came of it; no event, where a choice among no messages did nothing
pub record Stepped : Type 0 where
  pub event : Option Event
  pub outcome : Outcome
