use Rattle.std.proofs.Common.{List, subst}
use Rattle.roc_msg.specs.Outbox.{HasSent}
use Rattle.roc_coord.specs.declared.transaction.TakenStart.{TakenStart}
use Rattle.roc_coord.specs.declared.transaction.Transaction.{Transaction}
use Rattle.roc_coord.specs.Step.{sends_after}
use Rattle.roc_coord.proofs.take.take_startok.Goals as goal

pub returns-in-Ok-clause-sent : goal.returns-in-Ok-clause-sent
returns-in-Ok-clause-sent c =
    let with_startoks : List TakenStart → Transaction = λ startoks. record c.args.x.now { startoks = startoks } in
    let are_sent : List TakenStart → Type 0 = λ startoks. HasSent c.args.outbox.now c.send_after_startok.new.outbox (sends_after c.args.plan.now (with_startoks startoks)) in
    subst are_sent c.in_ok-push.ensures.ok c.in-Ok.ensures.sent
