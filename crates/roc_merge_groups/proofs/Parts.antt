-- The groups of a partition are parts of it
use Rattle.std.proofs.Common.{ℕ, ◌<◌, List, length}
use Rattle.std.specs.Bool.{nat_lt}
use Rattle.std.specs.List.{AllByRecursion}
use Rattle.roc_sequence.specs.Rising.{IsRising}
use Rattle.roc_sequence.proofs.Holds.{all_has, has_all}
use Rattle.roc_merge_groups.specs.Grouping.{IsGrouping}
use Rattle.roc_merge_groups.specs.Parts.{IsPart}

module _ (count : ℕ) (groups : List (List ℕ)) (is : IsGrouping count groups) where
  pub parts_of_grouping : AllByRecursion (IsPart count) groups
  parts_of_grouping = has_all (IsPart count) groups (λ g gs. record {
    some = all_has (λ h. 0 < length h) g groups is.some gs;
    rising = all_has (IsRising nat_lt) g groups is.rising gs;
    below = has_all (λ x. x < count) g (λ x xg. (is.whole x).1 (record { group = g; is = gs; one = xg; other = xg }));
  })
