use Rattle.roc_kept.proofs.Opened.{takes_again}
use Rattle.roc_kept.proofs.taking.take_again.Goals as goal

pub returns-in-Ok-clause-step : goal.returns-in-Ok-clause-step
returns-in-Ok-clause-step c =
    takes_again c.args.plan.now c.args.msg.now c.args.server.now.state c.args.server.now.viewing c.in-Ok.answer c.handle.new.self.state c.handle.new.self.viewing c.new-outbox.result c.handle.new.outbox _ c.was_taken.ensures c.in-Ok.ensures.step
