use Rattle.std.proofs.Common.{ℕ, suc, ◌<◌, map}
use Rattle.roc_merge_groups.specs.Groups.{group_at, first_piece}
use Rattle.roc_merge_accept.proofs.partition.are_numbered.Given as goal

abbrev pub invariant-loop-at : goal.invariant-loop-at
invariant-loop-at l = (i : ℕ) → suc i < l.at → first_piece (group_at (map (λ g. g.items) l.groups) i) < first_piece (group_at (map (λ g. g.items) l.groups) (suc i))
