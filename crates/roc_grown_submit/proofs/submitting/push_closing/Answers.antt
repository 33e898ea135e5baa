use Rattle.std.proofs.Common.{ap, arith, length, length-drop}
use Rattle.roc_grown_submit.proofs.Closing.{closing_told}
use Rattle.roc_grown_submit.proofs.submitting.push_closing.Goals as goal
use Rattle.roc_grown_submit.specs.Inner.GrownTurn.{bare_node}
use Rattle.roc_sched.specs.declared.line.Request.{Request}
use Rattle.std.specs.Prelude.{List}
use Rattle.roc_node_submit.proofs.CoordNodes.{items_are}

pub returns : goal.returns
returns c =
    let requests = c.args.requests.now in
    let later = c.args.later.now in
    let first = c.args.coord_node.now.first in
    let second = c.args.coord_node.now.second in
    let a = length-drop first requests in
    let b = length-drop second later in
    let d = ap (λ (l : List Request). length l) (items_are requests first) in
    let e = ap (λ (l : List Request). length l) (items_are later second) in
    closing_told c.append_line.result (bare_node c.args.coord_node.now requests later) c.unanswered-unanswered.result.now _ _ _ _ c.unanswered-unanswered.ensures.ids c.in_ok-push_unanswered.ensures c.append_line.ensures.ok (omega arith)
