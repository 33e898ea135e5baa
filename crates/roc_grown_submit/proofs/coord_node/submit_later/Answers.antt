use Rattle.std.proofs.Common.{◌-◌, drop, length, refl, sym, take}
use Rattle.roc_grown_submit.proofs.Gathered.{later_submitted, later_wait_left, later_wait_plain}
use Rattle.roc_grown_submit.proofs.coord_node.submit_later.Goals as goal
use Rattle.roc_node_submit.proofs.CoordNodes.{items_are}

pub returns-then-not-switched-clause-submits : goal.returns-then-not-switched-clause-submits
returns-then-not-switched-clause-submits c = later_wait_plain _ _ _ _ _ c.if-not-switched.ensures

pub returns-then-not-is_empty-clause-submits : goal.returns-then-not-is_empty-clause-submits
returns-then-not-is_empty-clause-submits c = later_wait_left _ _ _ _ _ c.if-not-switched.ensures c.if-not-is_empty.ensures

pub returns-in-Ok-clause-submits : goal.returns-in-Ok-clause-submits
returns-in-Ok-clause-submits c =
    let all = c.args.later.now in
    let n = c.args.coord_node.now.second in
    later_submitted _ _ _ (take (length all - n) (drop n all)) c.in-Ok.count _ _ _ _ (sym c.if-not-switched.ensures) (sym c.if-not-is_empty.ensures) (items_are all n) refl refl refl c.in-Ok.ensures.submits
