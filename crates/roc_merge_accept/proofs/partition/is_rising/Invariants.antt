use Rattle.std.proofs.Common.{ℕ, suc, ◌<◌, get_or}
use Rattle.roc_merge_accept.proofs.partition.is_rising.Given as goal

abbrev pub invariant-loop-at : goal.invariant-loop-at
invariant-loop-at l = (i : ℕ) → suc i < l.at → get_or l.numbers i 0 < get_or l.numbers (suc i) 0
