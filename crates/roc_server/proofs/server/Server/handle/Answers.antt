use Rattle.std.proofs.Common.{◌∙◌, ap}
use Rattle.roc_step.specs.State.{ServerState}
use Rattle.roc_server.proofs.GivenOut.{served_from}
use Rattle.roc_server.proofs.server.Server.handle.Goals as goal

pub returns-in-Ok-clause-step : goal.returns-in-Ok-clause-step
returns-in-Ok-clause-step c =
    served_from c.args.plan.now c.ready.new.self.state c.args.self.now.state c.ready.new.self.viewing c.args.self.now.viewing c.args.msg.now c.take_ready.result c.take_ready.new.self.state c.take_ready.new.self.viewing
    c.args.outbox.now c.ready.new.outbox c.take_ready.new.outbox c.ready.ensures.state c.ready.ensures.views c.ready.ensures.same
    (c.take_ready.ensures.step c.args.plan.now c.args.msg.now c.ready.ensures.fits c.in-Ok.ensures.ready)

pub returns-in-Ok-clause-fits : goal.returns-in-Ok-clause-fits
returns-in-Ok-clause-fits c = c.take_ready.ensures.fits c.args.plan.now c.ready.ensures.fits

pub returns-in-Ok-clause-shard : goal.returns-in-Ok-clause-shard
returns-in-Ok-clause-shard c = c.take_ready.ensures.shard ∙ ap (λ (s : ServerState). s.shard) c.ready.ensures.state
