use Rattle.std.proofs.Common.{◌≡◌, ℕ, ◌<◌, get_or, length}
use Rattle.roc_server_reach.proofs.words.clear_all.Given as goal

abbrev pub invariant-loop-place : goal.invariant-loop-place
invariant-loop-place l = (length l.set.items ≡ length l.fn.set.items) × ((k : ℕ) → k < l.place → get_or l.set.items k 0 ≡ 0)
