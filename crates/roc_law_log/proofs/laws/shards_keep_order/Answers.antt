use Rattle.roc_law_log.proofs.Settled.{alike, whole_here, mates_alike}
use Rattle.roc_law_log.proofs.laws.shards_keep_order.Goals as goal

pub returns-clause-order : goal.returns-clause-order
returns-clause-order c S start log i = alike S start log i

pub returns-clause-component : goal.returns-clause-component
returns-clause-component c S start log i = whole_here S start log i

pub returns-clause-mates : goal.returns-clause-mates
returns-clause-mates c S start log i = mates_alike S start log i
