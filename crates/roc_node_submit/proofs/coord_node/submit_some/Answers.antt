use Rattle.std.proofs.Common.{refl, arith}
use Rattle.roc_node_submit.proofs.CoordNodes.{so_none, items_are, some_refused, some_all, some_more}
use Rattle.roc_node_submit.proofs.coord_node.submit_some.Goals as goal

pub loop-request-init : goal.loop-request-init
loop-request-init c = (so_none _ _ _ _ _, items_are c.args.requests.now c.args.coord_node.now.next, omega arith, refl, c.requires.fits)

pub returns-then-not-branch-clause-submits : goal.returns-then-not-branch-clause-submits
returns-then-not-branch-clause-submits c =
    let i = c.loop-request.invariant in
    some_refused _ _ _ _ _ c.request-item.result _ c.loop-request.coord_node _ _ _ _ i.1 i.2 i.3 i.0 c.loop-request-test.true c.request-item.is c.in_ok-submit_one.field-0 c.in_ok-submit_one.ensures.submits
    c.if-not-branch.true refl refl

pub loop-request-preserved : goal.loop-request-preserved
loop-request-preserved c =
    let i = c.loop-request.invariant in
    let next = i.2 in (
      some_more _ _ _ _ c.request-item.result _ _ _ _ _ _ c.loop-request-test.true c.request-item.is i.0 c.in_ok-submit_one.field-0 c.in_ok-submit_one.ensures.submits c.if-not-branch.false,
      i.1,
      omega arith,
      i.3,
      c.in_ok-submit_one.ensures.fits,
    )

pub returns-clause-submits : goal.returns-clause-submits
returns-clause-submits c =
    let i = c.loop-request.invariant in
    some_all _ _ _ _ _ _ _ _ _ i.1 i.2 i.3 i.0 c.loop-request-test.false
