use Rattle.std.proofs.Common.{◌≡◌, ℕ, ◌<◌, ◌≤◌, get_or, bit_or}
use Rattle.roc_server_reach.proofs.WordBits.{left_at}
use Rattle.roc_server_reach.proofs.words.join_but.Given as goal

abbrev pub invariant-loop-place : goal.invariant-loop-place
invariant-loop-place l =
    ((k : ℕ) → k < l.place → get_or l.set k 0 ≡ bit_or (get_or l.fn.set k 0) (left_at l.added l.stale k))
    × ((k : ℕ) → l.place ≤ k → get_or l.set k 0 ≡ get_or l.fn.set k 0)
