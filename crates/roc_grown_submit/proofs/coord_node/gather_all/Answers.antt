use Rattle.std.proofs.Common.{◌-◌, drop, length, refl, take}
use Rattle.roc_grown_submit.proofs.Gathered.{gathers_told}
use Rattle.roc_grown_submit.proofs.coord_node.gather_all.Goals as goal
use Rattle.roc_node_submit.proofs.CoordNodes.{items_are}

pub returns-clause-gathers : goal.returns-clause-gathers
returns-clause-gathers c =
    let all = c.args.requests.now in
    let old = c.args.coord_node.now in
    let n = old.first in
    let k = c.submit_first.new.coord_node.first in
    gathers_told c.submit_later.result _ all c.args.later.now (take (length all - n) (drop n all)) (take (length all - k) (drop k all)) old
    (record { coord = c.drain_first.new.coord; first = old.first; second = old.second; answered = old.answered }) c.submit_first.new.coord_node c.submit_later.new.coord_node _ _ _ _ (items_are all n)
    c.in_ok-drain_first.ensures.drains refl refl refl c.in_ok-submit_first.ensures.submits (items_are all k) c.submit_later.ensures.submits
