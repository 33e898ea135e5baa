use Rattle.std.proofs.Common.{◌≡◌, ℕ, ◌<◌, ◌≤◌}
use Rattle.roc_server_reach.proofs.WordBits.{left_at}
use Rattle.roc_server_reach.proofs.words.next_from.Given as goal

abbrev pub invariant-loop-place : goal.invariant-loop-place
invariant-loop-place l = (k : ℕ) → l.first ≤ k → k < l.place → left_at l.met l.done k ≡ 0
