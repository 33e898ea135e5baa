-- What comes of all requests is what comes of those left, from here.
use Rattle.std.proofs.Common.{◌≡◌, ◌+◌, drop}
use Rattle.roc_coord.specs.Fits.{CoordFits}
use Rattle.roc_node.specs.Setting.{setting_of}
use Rattle.roc_node_submit.specs.Inner.CoordTurn.{gathered}
use Rattle.roc_node_submit.proofs.CoordNodes.{SubmittedSo}
use Rattle.roc_node_submit.proofs.coord_node.submit_some.Given as goal

abbrev pub invariant-loop-request : goal.invariant-loop-request
invariant-loop-request l =
    SubmittedSo (setting_of l.setting) l.setting.logs l.request-items l.request-index l.fn.coord_node.coord l.coord_node.coord
    (gathered l.fn.outbox.messages l.fn.text.items l.fn.log.items) (gathered l.outbox.messages l.text.items l.log.items)
    × (l.request-items ≡ drop l.fn.coord_node.next l.requests)
    × (l.coord_node.next ≡ l.fn.coord_node.next + l.request-index)
    × (l.coord_node.answered ≡ l.fn.coord_node.answered)
    × CoordFits l.setting.plan.now l.coord_node.coord
