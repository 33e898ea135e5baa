use Rattle.std.proofs.Common.{is_some, ap, ◌∙◌}
use Rattle.roc_await.proofs.OpenFetches.{shard_where_asked}
use Rattle.roc_server_lists.proofs.missing.was_asked_for.Goals as goal

pub returns : goal.returns
returns c = c.is_some.ensures ∙ ap is_some c.asked.ensures ∙ shard_where_asked c.args.id c.args.waits.now.waiting.asked
