use Rattle.std.proofs.Common.{◌≡◌, true, arith, rules}
use Rattle.std.proofs.lemmas.List.Sorted.{IsPartitionPoint-from_clause}
use Rattle.roc_base.specs.TxnId.{txn_lt}
use Rattle.roc_base.proofs.Place.{entry_place-end, entry_place-partition, IsPartitionedBy-rising}
use Rattle.roc_base.proofs.edges.entry_place.Goals as goal

pub returns-clause-place : goal.returns-clause-place
returns-clause-place c =
    entry_place-partition c.args.id c.args.edges.now _ c.partition_point.ensures.bound
    (IsPartitionPoint-from_clause (λ e. txn_lt e.from c.args.id) c.args.edges.now _ c.partition_point.ensures.partitioned
    (IsPartitionedBy-rising c.args.id c.args.edges.now c.requires) (λ a r f h. search rules))

pub returns-then-lt-clause-place : goal.returns-then-lt-clause-place
returns-then-lt-clause-place c =
    let before : txn_lt c.index-edges-len.result.from c.args.id ≡ true = search rules in
    entry_place-end c.args.id c.index-edges-len.result c.args.edges.now c.requires (omega arith) c.index-edges-len.is before
