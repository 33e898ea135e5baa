use Rattle.roc_depgraph.specs.Deps.{Precedes, PrecedesNow}
use Rattle.roc_law_log.specs.Log.{PrecedesTxn, PrecedesTxnNow}
use Rattle.roc_law_log.proofs.Whole.{ancestor_first}
use Rattle.roc_law_log.proofs.Chained.{chained_first}
use Rattle.roc_law_log.proofs.laws.ancestors_come_first.Goals as goal

pub returns-clause-order : goal.returns-clause-order
returns-clause-order c S start log i = ancestor_first (PrecedesTxn S start log.past) (PrecedesTxnNow S start log.past) log.order i.order

pub returns-clause-taking_order : goal.returns-clause-taking_order
returns-clause-taking_order c known = chained_first (Precedes known) (PrecedesNow known)
