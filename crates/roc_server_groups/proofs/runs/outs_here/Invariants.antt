use Rattle.std.proofs.Common.{◌≡◌, ◌++◌, [], unwrap_or}
use Rattle.std.specs.List.{flat_map}
use Rattle.roc_server_groups.proofs.GroupRuns.{groups_from}
use Rattle.roc_server_groups.proofs.runs.outs_here.Given as goal

-- what was given so far, and what is left
abbrev pub invariant-loop-number : goal.invariant-loop-number
invariant-loop-number l =
    l.outs ++ flat_map (λ e. unwrap_or e.later []) (groups_from l.id l.started.groups l.number l.count) ≡ flat_map (λ e. unwrap_or e.later []) (groups_from l.id l.started.groups 0 l.count)
