use Rattle.std.proofs.Common.{◌-◌, drop, length, refl, take}
use Rattle.roc_grown_submit.proofs.Gathered.{first_submitted}
use Rattle.roc_grown_submit.proofs.coord_node.submit_first.Goals as goal
use Rattle.roc_node_submit.proofs.CoordNodes.{items_are}

pub returns-in-Ok-clause-submits : goal.returns-in-Ok-clause-submits
returns-in-Ok-clause-submits c =
    let all = c.args.requests.now in
    let n = c.args.coord_node.now.first in
    first_submitted _ _ (take (length all - n) (drop n all)) c.in-Ok.count _ _ _ _ (items_are all n) refl refl refl c.in-Ok.ensures.submits
