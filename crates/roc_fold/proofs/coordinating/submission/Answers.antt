use Rattle.std.proofs.Common.{ℤ, List, [], ◌++◌, Ok, refl, sym, ap, subst, ◌∙◌}
use Rattle.roc_log.specs.declared.line.LogLine.TheVariants.{Submit}
use Rattle.roc_msg.specs.declared.outbox.Outgoing.{Outgoing}
use Rattle.roc_coord.specs.State.{CoordState}
use Rattle.roc_coord.specs.Submit.{after_submit, IsSubmitted}
use Rattle.roc_log.specs.Sent.{outs_logged}
use Rattle.roc_fold.specs.Fold.{GivenByEvent, coordinating}
use Rattle.roc_fold.specs.Inner.Steps.{folding_of}
use Rattle.roc_fold.proofs.Taking.{takes_by_event, gained}
use Rattle.roc_fold.proofs.coordinating.submission.Goals as goal

pub returns-in-Ok-clause-steps : goal.returns-in-Ok-clause-steps
returns-in-Ok-clause-steps c =
    let s = after_submit c.args.plan.now c.args.coord.now c.args.proc c.args.args.now in
    let step = subst (λ (args : List ℤ). IsSubmitted (after_submit c.args.plan.now c.args.coord.now c.args.proc args)
    (Ok c.in-Ok.field-0) c.submit.new.self c.new-outbox.result c.submit.new.outbox) c.as_slice.ensures c.in-Ok.ensures.step in
    let given : GivenByEvent = record { core = coordinating s.state; due = outs_logged c.args.header.now s.sends; decided = []; ran = [] } in
    let new = c.in_ok-take_outbox-in-Ok.ensures in
    takes_by_event c.args.plan.now c.args.header.now (folding_of (coordinating c.args.coord.now) c.args.gathered.now) (Submit c.args.proc c.args.args.now) _ given c.requires.none
    (c.in-Ok.field-0, sym step.answer, refl)
    (gained (coordinating c.args.coord.now) (coordinating c.submit.new.self) c.args.gathered.now c.take_outbox.new.gathered given _ _ _
    (ap (λ (x : CoordState). coordinating x) step.state) new.due.0 new.due.1 (ap (outs_logged c.args.header.now)
    (step.sent.0 ∙ ap (λ (xs : List Outgoing). xs ++ s.sends) c.new-outbox.ensures.messages))
    new.decided (step.sent.1 ∙ c.new-outbox.ensures.decided) new.ran (step.sent.2 ∙ c.new-outbox.ensures.ran))
