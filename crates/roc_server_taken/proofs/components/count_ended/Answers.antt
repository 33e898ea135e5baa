use Rattle.std.proofs.Common.{◌≡◌, Bool, true, false, arith, rules}
use Rattle.std.proofs.lemmas.List.Sorted.{IsPartitionPoint-from_clause}
use Rattle.std.specs.List.Sorted.{IsPartitionPoint}
use Rattle.roc_server_taken.specs.declared.components.Component.{Component}
use Rattle.roc_server_taken.specs.Inner.Over.{is_under}
use Rattle.roc_server_taken.specs.Inner.Standing.{part_of}
use Rattle.roc_server_taken.proofs.Ended.{ended_through}
use Rattle.roc_server_taken.proofs.Rising.{all_front, all_rest, front_passes, parted}
use Rattle.roc_server_taken.proofs.components.count_ended.Goals as goal

pub returns-clause-first : goal.returns-clause-first
returns-clause-first c =
    let cs = c.args.components.now.items in
    let under : Component → Bool = is_under c.args.marks.now c.args.coord in
    let point : IsPartitionPoint (λ y. under y ≡ true) (λ y. under y ≡ false) cs c.partition_point.result =
    IsPartitionPoint-from_clause under cs _ c.partition_point.ensures.partitioned
    (parted under (λ (d : Component). part_of d.under ≡ c.args.coord) (ended_through c.args.marks.now c.args.coord c.requires.coord) cs c.requires.part.rising c.requires.part.own)
    (λ a r f h. search rules) in
    front_passes under cs c.partition_point.result
    (all_front (λ d. under d ≡ true) cs _ (omega (arith, c.partition_point.ensures.bound, c.args.components.now.ok.0)) point.0)
    (all_rest (λ d. under d ≡ false) cs _ point.1)
