use Rattle.std.proofs.Common.{◌≡◌, map}
use Rattle.std.specs.List.{flat_map, range_with_len}
use Rattle.roc_merge.specs.Inner.Tables.{holds}
use Rattle.roc_merge.specs.Grouped.{group_from}
use Rattle.roc_merge.proofs.group.groups_by.Given as goal

abbrev pub invariant-loop-piece : goal.invariant-loop-piece
invariant-loop-piece l = map (λ g. g.items) l.groups.items ≡ flat_map (group_from (holds l.core) l.count) (range_with_len 0 l.piece)
