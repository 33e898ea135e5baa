use Rattle.std.proofs.Common.{[], refl, sym, subst, ◌∙◌}
use Rattle.roc_step.specs.Step.{tick_sends}
use Rattle.roc_log.specs.declared.line.LogLine.{LogLine}
use Rattle.roc_log.specs.Sent.{outs_logged}
use Rattle.roc_fold.specs.Fold.{Core, GivenByEvent, Gives, serving}
use Rattle.roc_fold.specs.Inner.Steps.{folding_of}
use Rattle.roc_fold.proofs.Taking.{takes_by_event, same_but_due}
use Rattle.roc_fold.proofs.serving.event.Goals as goal

pub returns-in_ok-tick-in-Tick-clause-steps : goal.returns-in_ok-tick-in-Tick-clause-steps
returns-in_ok-tick-in-Tick-clause-steps c =
    let core : Core = serving c.args.server.now.state c.args.server.now.viewing in
    let f = folding_of core c.args.gathered.now in
    let due = outs_logged c.args.header.now (tick_sends c.args.server.now.state) in
    let given : GivenByEvent = record { core = core; due = due; decided = []; ran = [] } in
    let gives = subst (λ (l : LogLine). Gives c.args.plan.now c.args.header.now core l given) (sym c.in-Tick.is) refl in
    takes_by_event c.args.plan.now c.args.header.now f c.args.line.now (folding_of (serving c.tick.new.server.state c.tick.new.server.viewing) c.tick.new.gathered) given c.requires.none
    gives (c.in_ok-tick-in-Tick.ensures.due ∙ same_but_due f core due)
