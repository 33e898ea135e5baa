-- The turns so far are those of a run, and the server may be served on.
use Rattle.std.proofs.Common.{◌≡◌, false}
use Rattle.roc_io.specs.Call.{link_view}
use Rattle.roc_grown_node.specs.Setting.{grown_setting_of}
use Rattle.roc_grown_serve.specs.Inner.GrownTurn.{IsReady, RanSo, bare}
use Rattle.roc_grown_serve.proofs.server_turns.run_turns.Given as goal

abbrev pub invariant-loop : goal.invariant-loop
invariant-loop g l =
    let L = g.L.Link in
    RanSo (grown_setting_of l.fn.setting) (bare l.fn.server_node) l.counter false l.server_node (link_view L l.fn.link) (link_view L l.link)
    × (L.faults l.link ≡ L.faults l.fn.link)
    × (L.bound l.link ≡ L.bound l.fn.link)
    × IsReady (grown_setting_of l.fn.setting) l.server_node
