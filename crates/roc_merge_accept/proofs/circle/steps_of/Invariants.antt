use Rattle.std.proofs.Common.{ℕ, ◌≡◌, ◌<◌, length, map}
use Rattle.roc_merge_groups.specs.Accepted.{group_feeds}
use Rattle.roc_merge_accept.specs.Inner.Paths.{entry}
use Rattle.roc_merge_accept.proofs.circle.steps_of.Given as goal

abbrev pub invariant-loop-from : goal.invariant-loop-from
invariant-loop-from l =
    ((a b : ℕ) → a < l.from → b < length l.groups → entry l.steps a b ≡ group_feeds l.workload l.proc (map (λ g. g.items) l.groups) a b) × (length l.steps ≡ 16)
