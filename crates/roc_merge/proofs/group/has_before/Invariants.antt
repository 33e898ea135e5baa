use Rattle.std.proofs.Common.{◌≡◌, false}
use Rattle.std.specs.List.{list_any, range_with_len}
use Rattle.roc_merge.specs.Inner.Tables.{holds}
use Rattle.roc_merge.proofs.group.has_before.Given as goal

abbrev pub invariant-loop-before : goal.invariant-loop-before
invariant-loop-before l = list_any (holds l.row) (range_with_len 0 l.before) ≡ false
