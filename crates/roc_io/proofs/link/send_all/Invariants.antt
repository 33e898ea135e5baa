-- The datagrams before this one were sent, all but those that were counted as lost.
use Rattle.std.proofs.Common.{◌≡◌, ◌-◌, ◌<◌, ◌≤◌, map, take}
use Rattle.roc_io.specs.Cause.{last_count}
use Rattle.roc_io.specs.Link.{sending, AddsEvents}
use Rattle.roc_io.specs.Observed.{AddsAllBut}
use Rattle.roc_io.proofs.link.send_all.Given as goal

abbrev pub invariant-loop-datagram : goal.invariant-loop-datagram
invariant-loop-datagram g l =
    let L = g.L.Link in
    (L.lost l.link < last_count → AddsAllBut (L.lost l.link - L.lost l.fn.link) (L.sent l.fn.link) (L.sent l.link) (take l.datagram-index l.datagrams))
    × (L.lost l.fn.link ≤ L.lost l.link)
    × (L.faults l.link ≡ L.faults l.fn.link)
    × (L.bound l.link ≡ L.bound l.fn.link)
    × (L.arrivals l.link ≡ L.arrivals l.fn.link)
    × AddsEvents (L.lost l.fn.link) (L.lost l.link) (L.sent l.fn.link) (L.sent l.link) (L.events l.fn.link) (L.events l.link) (map sending (take l.datagram-index l.datagrams))
