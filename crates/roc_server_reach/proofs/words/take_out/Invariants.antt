use Rattle.std.proofs.Common.{◌≡◌, ℕ, ◌<◌, ◌≤◌, get_or, length}
use Rattle.roc_server_reach.proofs.WordBits.{left_at}
use Rattle.roc_server_reach.proofs.words.take_out.Given as goal

abbrev pub invariant-loop-place : goal.invariant-loop-place
invariant-loop-place l =
    (length l.set.items ≡ length l.fn.set.items)
    × ((k : ℕ) → k < l.place → get_or l.set.items k 0 ≡ left_at l.fn.set.items l.stale k)
    × ((k : ℕ) → l.place ≤ k → get_or l.set.items k 0 ≡ get_or l.fn.set.items k 0)
