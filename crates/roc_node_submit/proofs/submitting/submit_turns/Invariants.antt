-- The turns so far are those of a run.
use Rattle.std.proofs.Common.{◌≡◌, ◌≤◌, false, length}
use Rattle.roc_base.specs.declared.node.Node.TheVariants as node
use Rattle.roc_coord.specs.Fits.{CoordFits}
use Rattle.roc_node.specs.NodeEvent.{node_setting}
use Rattle.roc_node_submit.specs.Inner.CoordTurn.{CoordRanSo, seen}
use Rattle.roc_node_submit.proofs.submitting.submit_turns.Given as goal

abbrev pub invariant-loop : goal.invariant-loop
invariant-loop g l =
    let L = g.L.Link in
    let S = g.S.Sink in
    let B = g.B.Book in
    CoordRanSo (node_setting l.fn.plan l.fn.tag (node.Coord l.fn.coord) l.fn.cluster) l.fn.logs l.fn.coord l.fn.requests l.counter l.coord_node
    (seen L S B l.fn.link l.fn.out l.fn.book) (seen L S B l.link l.out l.book)
    × CoordFits l.fn.plan l.coord_node.coord
    × (l.coord_node.next ≤ length l.fn.requests)
    × (L.faults l.link ≡ L.faults l.fn.link)
    × (S.faults l.out ≡ S.faults l.fn.out)
    × (L.bound l.link ≡ L.bound l.fn.link)
    × (B.faults l.book ≡ B.faults l.fn.book)
    × (l.fn.logs ≡ false → l.book ≡ l.fn.book)
