use Rattle.std.proofs.Common.{◌≡◌, true, false, refl, arith, rules}
use Rattle.std.proofs.lemmas.List.Sorted.{IsPartitionPoint-from_clause}
use Rattle.roc_sequence.proofs.Holds.{has_all}
use Rattle.roc_base.specs.TxnId.{txn_lt}
use Rattle.roc_server_taken.specs.declared.components.Component.{Component}
use Rattle.roc_server_taken.proofs.Rising.{all_front, all_rest, before_through, parted}
use Rattle.roc_server_taken.proofs.components.count_before.Goals as goal

pub returns-clause-before : goal.returns-clause-before
returns-clause-before c =
    let cs = c.args.components.now.items in
    all_front (λ (d : Component). txn_lt d.under c.args.id ≡ true) cs _ (omega (arith, c.partition_point.ensures.bound, c.args.components.now.ok.0))
    (IsPartitionPoint-from_clause (λ (d : Component). txn_lt d.under c.args.id) cs _ c.partition_point.ensures.partitioned
    (parted (λ (d : Component). txn_lt d.under c.args.id) (λ (d : Component). d ≡ d) (λ a b e. before_through c.args.id a b) cs c.requires (has_all (λ (d : Component). d ≡ d) cs (λ d has. refl)))
    (λ a r f h. search rules)).0

pub returns-clause-behind : goal.returns-clause-behind
returns-clause-behind c =
    let cs = c.args.components.now.items in
    all_rest (λ (d : Component). txn_lt d.under c.args.id ≡ false) cs _
    (IsPartitionPoint-from_clause (λ (d : Component). txn_lt d.under c.args.id) cs _ c.partition_point.ensures.partitioned
    (parted (λ (d : Component). txn_lt d.under c.args.id) (λ (d : Component). d ≡ d) (λ a b e. before_through c.args.id a b) cs c.requires (has_all (λ (d : Component). d ≡ d) cs (λ d has. refl)))
    (λ a r f h. search rules)).1
