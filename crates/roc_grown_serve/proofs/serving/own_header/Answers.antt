-- The plan's program is well formed, so it has few shards.
use Rattle.std.proofs.Common.{refl, rules}
use Rattle.roc_grown_serve.proofs.Shards.{last_shard_fits}
use Rattle.roc_grown_serve.proofs.serving.own_header.Goals as goal

pub returns-clause-is : goal.returns-clause-is
returns-clause-is c = refl

pub returns-clause-fits : goal.returns-clause-fits
returns-clause-fits c = (search rules, last_shard_fits _ _ _ c.workload.ensures.program c.shards-shards.ensures.well_formed c.requires)
