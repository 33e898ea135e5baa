-- What comes of all requests is what comes of those left, from here
use Rattle.std.proofs.Common.{◌≡◌}
use Rattle.std.specs.Prelude.{Some}
use Rattle.roc_grown.specs.Fits.{GrownCoordFits}
use Rattle.roc_grown_node.specs.Setting.{grown_setting_of}
use Rattle.roc_grown_submit.specs.Inner.GrownTurn.{gathered}
use Rattle.roc_grown_submit.proofs.Gathered.{SubmittedSo}
use Rattle.roc_grown_submit.proofs.coord_node.submit_some.Given as goal

abbrev pub invariant-loop-request : goal.invariant-loop-request
invariant-loop-request l =
    SubmittedSo (grown_setting_of l.setting) l.requests l.request-index l.fn.coord l.coord (gathered l.fn.outbox.messages l.fn.text.items) (gathered l.outbox.messages l.text.items)
    × (l.count ≡ l.request-index)
    × GrownCoordFits l.setting.plan.now (Some l.setting.next.now) l.coord
