-- A world with views, and its steps, without what is kept for views alone: so words of roc_law_protocol about worlds are said of it. The messages and the
-- history of views are in it still
use Rattle.std.specs.Prelude.{List, map}
use Rattle.roc_law_protocol.specs.World as transactions
use Rattle.roc_law_protocol.specs.Run as their_runs
use Rattle.roc_law_world.specs.World.{World}
use Rattle.roc_law_world.specs.Run.{Stepped}

abbrev pub bare : World → transactions.World
bare w = record { servers = w.servers; coords = w.coords; sent = w.sent; undelivered = w.undelivered; history = w.history; order = w.order }

abbrev pub bare_step : Stepped → their_runs.Stepped
bare_step x =
    record {
      event = x.event;
      outcome = record { seen = x.outcome.seen; components = x.outcome.components; decided = x.outcome.decided; ran = x.outcome.ran; world = bare x.outcome.world };
    }

abbrev pub bare_steps : List Stepped → List their_runs.Stepped
bare_steps steps = map bare_step steps
