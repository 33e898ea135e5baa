-- Each turn so far took a datagram.
use Rattle.std.proofs.Common.{◌≡◌}
use Rattle.roc_io_memory.specs.Callers.{Drains}
use Rattle.roc_io_memory.specs.declared.callers.Drained.TheVariants.{Turns}
use Rattle.roc_io_memory.proofs.callers.drain.Given as goal

abbrev pub invariant-loop : goal.invariant-loop
invariant-loop g l =
    let L = g.L.Link in
    Drains Turns l.counter (L.arrivals l.fn.link) (L.arrivals l.link) l.fn.into.items l.into.items
    × (L.faults l.link ≡ L.faults l.fn.link)
    × (L.lost l.link ≡ L.lost l.fn.link)
    × (L.bound l.link ≡ L.bound l.fn.link)
    × (L.sent l.link ≡ L.sent l.fn.link)
