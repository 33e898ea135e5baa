use Rattle.std.proofs.Common.{◌+◌, refl, ap}
use Rattle.roc_grown_submit.proofs.Gathered.{so_none, some_refused, some_all, some_more}
use Rattle.roc_grown_submit.proofs.coord_node.submit_some.Goals as goal

pub loop-request-init : goal.loop-request-init
loop-request-init c = (so_none _ _ _ _, refl, c.requires.fits)

pub returns-then-not-branch-clause-submits : goal.returns-then-not-branch-clause-submits
returns-then-not-branch-clause-submits c =
    let i = c.loop-request.invariant in
    some_refused _ _ _ _ c.request-item.result _ c.loop-request.coord _ _ _ _ i.0 c.loop-request-test.true c.request-item.is c.in_ok-submit_one.field-0 c.in_ok-submit_one.ensures.submits c.if-not-branch.true i.1

pub loop-request-preserved : goal.loop-request-preserved
loop-request-preserved c =
    let i = c.loop-request.invariant in (
      some_more _ _ _ c.request-item.result _ _ _ _ _ _ c.loop-request-test.true c.request-item.is i.0 c.in_ok-submit_one.field-0 c.in_ok-submit_one.ensures.submits c.if-not-branch.false,
      ap (λ n. n + 1) i.1,
      c.in_ok-submit_one.ensures.fits,
    )

pub returns-clause-submits : goal.returns-clause-submits
returns-clause-submits c = let i = c.loop-request.invariant in some_all _ _ _ _ _ _ _ _ i.0 c.loop-request-test.false i.1
