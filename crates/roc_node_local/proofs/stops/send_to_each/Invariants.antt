-- The shards before this one were sent theirs.
use Rattle.std.proofs.Common.{◌≡◌, map, take}
use Rattle.roc_io.specs.Call.{link_view}
use Rattle.roc_io.specs.Link.{sending}
use Rattle.roc_node.specs.Moves.{Moves}
use Rattle.roc_node_local.specs.Stops.{thrice_to_each}
use Rattle.roc_node_local.proofs.stops.send_to_each.Given as goal

abbrev pub invariant-loop-addr : goal.invariant-loop-addr
invariant-loop-addr g l =
    let L = g.L.Link in
    Moves (link_view L l.fn.link) (link_view L l.link) (map sending (thrice_to_each l.bytes (take l.addr-index l.cluster)))
    × (L.faults l.link ≡ L.faults l.fn.link)
    × (L.bound l.link ≡ L.bound l.fn.link)
    × (L.arrivals l.link ≡ L.arrivals l.fn.link)
