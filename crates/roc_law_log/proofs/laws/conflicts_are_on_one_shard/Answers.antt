use Rattle.roc_law_log.proofs.Following.{class, one_shard}
use Rattle.roc_law_log.proofs.laws.conflicts_are_on_one_shard.Goals as goal

pub returns-clause-class : goal.returns-clause-class
returns-clause-class c S start log sound i = class S start (c.runs_stay.ensures.found S.behaviour start) sound log i

pub returns-clause-shard : goal.returns-clause-shard
returns-clause-shard c S start log sound i = one_shard S start (c.runs_stay.ensures.found S.behaviour start) sound log i
