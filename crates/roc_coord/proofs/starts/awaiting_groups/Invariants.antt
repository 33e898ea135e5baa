use Rattle.std.proofs.Common.{◌≡◌}
use Rattle.std.specs.List.{filter, range_with_len}
use Rattle.roc_coord.specs.Tick.{awaits_startok}
use Rattle.roc_coord.proofs.starts.awaiting_groups.Given as goal

abbrev pub invariant-loop-group : goal.invariant-loop-group
invariant-loop-group l = l.groups.items ≡ filter (awaits_startok l.x) (range_with_len 0 l.group)
