use Rattle.std.proofs.Common.{ℕ, ◌≡◌, ◌<◌, ◌&&◌, ◌||◌, length}
use Rattle.roc_merge_accept.specs.Inner.Paths.{entry}
use Rattle.roc_merge_accept.proofs.circle.paths_by.Given as goal

abbrev pub invariant-loop-from : goal.invariant-loop-from
invariant-loop-from l =
    ((a b : ℕ) → a < l.from → b < l.count → entry l.all a b ≡ (entry l.paths a b || (entry l.paths a l.by && entry l.paths l.by b))) × (length l.all ≡ 16)
