use Rattle.std.proofs.Common.{IfSome, subst, ◌∙◌}
use Rattle.std.proofs.lemmas.Result.{IfOk-weaker}
use Rattle.roc_precedence.specs.Orders.{IsLeastOrder}
use Rattle.roc_precedence.specs.Pairs.{IsPaired}
use Rattle.roc_judge.proofs.Rightly.{chains_for, order_for, circle_judged}
use Rattle.roc_judge.proofs.judging.judge_ready.Goals as goal

pub judge_order-requires-clause-least : goal.judge_order-requires-clause-least
judge_order-requires-clause-least c =
    let chains = chains_for c.args.folds.now c.args.all.now c.args.ids.now c.deref.result.now c.requires.members c.requires.ready.decided (c.deref.ensures.value ∙ c.in_ok-pairs.ensures) in
    let least : IsLeastOrder (IsPaired c.deref.result.now) c.args.all.now c.in-Some.order.items =
    subst (λ o. IfSome o (λ order. IsLeastOrder (IsPaired c.deref.result.now) c.args.all.now order.items)) c.in-Some.is c.in_ok-order.ensures.order in
    order_for c.args.folds.now c.args.all.now c.args.ids.now c.in-Some.order.items c.deref.result.now c.requires.members chains least

pub judge_circle-requires-clause-same : goal.judge_circle-requires-clause-same
judge_circle-requires-clause-same c = chains_for c.args.folds.now c.args.all.now c.args.ids.now c.deref-in-None.result.now c.requires.members c.requires.ready.decided
    (c.deref-in-None.ensures.value ∙ c.in_ok-pairs.ensures)

pub returns : goal.returns
returns c = IfOk-weaker c.judge_circle.result _ _
    (λ j h. circle_judged c.args.workload.now c.args.folds.now c.args.all.now j c.requires.members.are c.requires.ready.decided c.requires.ready.submitted h) c.judge_circle.ensures
