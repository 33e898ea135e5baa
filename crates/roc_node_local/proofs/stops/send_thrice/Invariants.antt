-- So many were given to the link.
use Rattle.std.proofs.Common.{◌≡◌, map, replicate}
use Rattle.roc_io.specs.Call.{link_view}
use Rattle.roc_io.specs.Link.{sending}
use Rattle.roc_node.specs.Moves.{Moves}
use Rattle.roc_node_local.proofs.stops.send_thrice.Given as goal

abbrev pub invariant-loop : goal.invariant-loop
invariant-loop g l =
    let L = g.L.Link in
    Moves (link_view L l.fn.link) (link_view L l.link) (map sending (replicate l.counter (record { address = l.to; bytes = l.bytes })))
    × (L.faults l.link ≡ L.faults l.fn.link)
    × (L.bound l.link ≡ L.bound l.fn.link)
    × (L.arrivals l.link ≡ L.arrivals l.fn.link)
