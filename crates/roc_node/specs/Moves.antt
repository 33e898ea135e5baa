-- What turns of a node do to its link
use Rattle.std.specs.Prelude.{◌-◌, ◌<◌, ◌≤◌, List}
use Rattle.roc_io.specs.Call.{LinkView}
use Rattle.roc_io.specs.Link.{LinkEvent, HearsTold, AddsEvents, sends_of, receives_of}
use Rattle.roc_io.specs.Cause.{last_count}
use Rattle.roc_io.specs.Observed.{AddsAllBut}

-- A link was asked for these receives and sends, in this order. Each datagram that a receive gave was the first of the arrivals left, and
-- silence came only where none was left. It took the datagrams that it was given in order, all but at most as many as it counted as lost, as
-- long as that count stays below its last value; and what came of each receive and each send stands at its place here: which of them it lost, too.
pub record Moves (old new : LinkView) (traffic : List LinkEvent) : Type 0 where
  pub arrivals : HearsTold (receives_of traffic) old.arrivals new.arrivals
  pub lost : old.lost ≤ new.lost
  pub sent : new.lost < last_count → AddsAllBut (new.lost - old.lost) old.sent new.sent (sends_of traffic)
  pub events : AddsEvents old.lost new.lost old.sent new.sent old.events new.events traffic
