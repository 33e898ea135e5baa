use Rattle.std.proofs.Common.{IsTrue}
use Rattle.roc_law_log.specs.Log.{PrecedesTxn, PrecedesTxnNow, HasGroup}
use Rattle.roc_law_log.specs.Steps.{IsWaived}
use Rattle.roc_law_log.proofs.FromEdges.{taken_order}
use Rattle.roc_law_log.proofs.Settled.{mates_settled}
use Rattle.roc_law_log.proofs.laws.component_order_is_taken.Goals as goal

pub returns : goal.returns
returns c S start log i s edge now members all edges closed order =
    taken_order (PrecedesTxn S start log.past) (PrecedesTxnNow S start log.past) (λ u t. IsTrue (edge u t)) (λ u t. IsTrue (now u t))
    (HasGroup S start log.past.ran s) (IsWaived S start log) (mates_settled S start log) (log.decided s) members all (i.decided s)
    edges.sound edges.sound_now edges.complete edges.complete_now closed order
