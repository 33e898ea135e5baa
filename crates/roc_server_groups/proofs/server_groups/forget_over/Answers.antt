use Rattle.roc_server_groups.proofs.Tried.{none_forgotten}
use Rattle.roc_server_groups.proofs.server_groups.forget_over.Goals as goal

pub returns-then-is_empty : goal.returns-then-is_empty
returns-then-is_empty c = none_forgotten c.args.over.now c.is_empty.result c.args.started.now.groups c.is_empty.ensures c.if-is_empty.true
