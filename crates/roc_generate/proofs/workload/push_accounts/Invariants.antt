use Rattle.std.proofs.Common.{◌≡◌, ◌-◌, ◌++◌}
use Rattle.std.specs.List.{flat_map, range_with_len}
use Rattle.std.specs.String.{string_bytes}
use Rattle.roc_generate.specs.WorkloadText.{account_line}
use Rattle.roc_generate.proofs.workload.push_accounts.Given as goal

-- what is left, from here, is everything from the start
abbrev pub invariant-loop-place : goal.invariant-loop-place
invariant-loop-place l =
    string_bytes l.text ++ flat_map account_line (range_with_len l.place-counter (l.shards - l.place-counter)) ≡ string_bytes l.fn.text ++ flat_map account_line (range_with_len 0 l.shards)
