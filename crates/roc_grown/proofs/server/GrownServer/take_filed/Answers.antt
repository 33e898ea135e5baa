use Rattle.std.proofs.Common.{◌∙◌, option_copied, sym, ap, subst}
use Rattle.roc_epoch.specs.Files.{is_for}
use Rattle.roc_grown.specs.Server.{GrownServerState, GrownStep, GrownHandles, ShowsGrown}
use Rattle.roc_grown.proofs.Shown.{skipped, owned}
use Rattle.roc_grown.proofs.server.GrownServer.take_filed.Goals as goal

pub returns-then-not-takes-clause-step : goal.returns-then-not-takes-clause-step
returns-then-not-takes-clause-step c =
    skipped c.args.plan.now _ c.args.self.now c.args.file c.args.msg.now c.requires.filed (sym c.takes.ensures ∙ c.if-not-takes.true) c.args.outbox.now

pub returns-clause-step : goal.returns-clause-step
returns-clause-step c =
    let inside = c.self.inside in
    let kept : GrownServerState = record { core = inside.core.state; viewing = inside.core.viewing; drained = inside.drained; switched = inside.switched } in
    let after : GrownServerState = record kept { core = c.handle.new.self.state; viewing = c.handle.new.self.viewing } in
    let its = ap (λ (s : GrownServerState). is_for s.switched c.args.file c.args.msg.now) c.self.view_is ∙ (sym c.takes.ensures ∙ c.if-not-takes.false) in
    let comes : GrownServerState → Type 0 = λ s.
    (g : GrownStep) × GrownHandles c.args.plan.now (option_copied c.args.next) s c.args.file c.args.msg.now g × ShowsGrown g c.handled_so.result after c.args.outbox.now c.handle.new.outbox in
    subst comes c.self.view_is
    (owned c.args.plan.now (option_copied c.args.next) kept c.args.file c.args.msg.now c.requires.filed its c.own_plan-own.result.now c.own_plan-own.ensures c.in_ok-answer.answer c.handled_so.result c.handled_so.ensures
    c.handle.new.self.state c.handle.new.self.viewing c.args.outbox.now c.handle.new.outbox c.in_ok-answer.ensures.step)
