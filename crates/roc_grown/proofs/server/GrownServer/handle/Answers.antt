use Rattle.roc_grown.proofs.Shown.{drained_shown, foreign_shown}
use Rattle.roc_grown.proofs.server.GrownServer.handle.Goals as goal

pub returns-in-Drained-clause-step : goal.returns-in-Drained-clause-step
returns-in-Drained-clause-step c =
    drained_shown c.args.plan.now _ c.args.self.now c.args.file c.args.msg.now c.in-Drained.upto c.in-Drained.is c.take_drained.result c.take_drained.new.self c.args.outbox.now c.take_drained.new.outbox c.take_drained.ensures.step

pub returns-in-Switched-clause-step : goal.returns-in-Switched-clause-step
returns-in-Switched-clause-step c = foreign_shown c.args.plan.now _ c.args.self.now c.args.file c.args.msg.now c.in-Switched.upto c.in-Switched.shard c.in-Switched.is c.args.outbox.now
