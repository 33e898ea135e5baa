-- The turns so far are those of a run
use Rattle.std.proofs.Common.{◌≡◌, ◌≤◌, length}
use Rattle.std.specs.Prelude.{Some}
use Rattle.roc_base.specs.declared.node.Node.TheVariants as node
use Rattle.roc_grown.specs.Fits.{GrownCoordFits}
use Rattle.roc_grown_node.specs.Setting.{grown_node_setting}
use Rattle.roc_grown_submit.specs.Inner.GrownTurn.{GrownRanSo, seen}
use Rattle.roc_grown_submit.proofs.submitting.submit_growing_turns.Given as goal

abbrev pub invariant-loop : goal.invariant-loop
invariant-loop g l =
    let L = g.L.Link in
    let S = g.S.Sink in
    GrownRanSo (grown_node_setting l.fn.plan l.fn.tag l.fn.next (node.Coord l.fn.coord) l.fn.cluster) l.fn.coord l.fn.requests l.fn.later l.counter l.coord_node
    (seen L S l.fn.link l.fn.out) (seen L S l.link l.out)
    × GrownCoordFits l.fn.plan (Some l.fn.next) l.coord_node.coord
    × (l.coord_node.first ≤ length l.fn.requests)
    × (l.coord_node.second ≤ length l.fn.later)
    × (L.faults l.link ≡ L.faults l.fn.link)
    × (S.faults l.out ≡ S.faults l.fn.out)
    × (L.bound l.link ≡ L.bound l.fn.link)
