use Rattle.std.proofs.Common.{rules}
use Rattle.roc_auditor.proofs.Serving.{one_more_there}
use Rattle.roc_auditor.proofs.gaps.first_gap.Goals as goal

pub loop-shard-preserved : goal.loop-shard-preserved
loop-shard-preserved c = one_more_there c.args.nodes.now c.loop-shard.shard c.loop-shard.invariant (search rules)
