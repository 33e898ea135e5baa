use Rattle.std.proofs.Common.{ℕ, ◌≡◌, ◌<◌, false, length, map, get_or}
use Rattle.roc_merge_groups.specs.Accepted.{group_feeds}
use Rattle.roc_merge_accept.proofs.circle.steps_from.Given as goal

abbrev pub invariant-loop-to : goal.invariant-loop-to
invariant-loop-to l =
    ((to : ℕ) → to < l.to → get_or l.row to false ≡ group_feeds l.workload l.proc (map (λ g. g.items) l.groups) l.from to) × (length l.row ≡ 16)
