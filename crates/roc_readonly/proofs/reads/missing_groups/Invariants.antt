use Rattle.std.proofs.Common.{◌≡◌, is_none}
use Rattle.std.specs.List.{filter, range_with_len}
use Rattle.roc_readonly.specs.Round.{find_read}
use Rattle.roc_readonly.proofs.reads.missing_groups.Given as goal

abbrev pub invariant-loop-group : goal.invariant-loop-group
invariant-loop-group l = l.groups.items ≡ filter (λ g. is_none (find_read g l.got)) (range_with_len 0 l.group)
