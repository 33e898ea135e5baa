use Rattle.roc_law_nodes.proofs.RecordedFolds.{has_records}
use Rattle.roc_law_nodes.proofs.laws.restarts_are_folds.Goals as goal

pub returns : goal.returns
returns c plan coords steps w run shard s there =
    let k = c.world_is_folds.ensures.servers plan coords steps w run shard s there in
    let r = has_records plan shard (c.records_stand.ensures plan shard) (c.restarts_stand.ensures plan shard) k.2 in
    (k.0, k.1, r.0, r.1, r.2)
