use Rattle.std.proofs.Common.{◌∙◌}
use Rattle.roc_server.proofs.handling.make.Goals as goal

pub returns-in-Err-clause-state : goal.returns-in-Err-clause-state
returns-in-Err-clause-state c = c.roll_back.ensures.state c.args.shard ∙ c.try_step.ensures.state
