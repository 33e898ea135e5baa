use Rattle.std.proofs.Common.{◌≡◌, ◌<◌, ◌≤◌, ◌+◌, ℕ, cond, length, get_or}
use Rattle.roc_server_taken.specs.Inner.Standing.{is_among}
use Rattle.roc_server_taken.proofs.room.count_out.Given as goal

-- the parts so far have one less, and the others are as they were
abbrev pub invariant-loop-at : goal.invariant-loop-at
invariant-loop-at l = record {
  count : length l.wanted ≡ length l.initial.wanted;
  done : (k : ℕ) → k < l.at → get_or l.initial.wanted k 0 ≡ get_or l.wanted k 0 + cond (is_among k l.members) 1 0;
  left : (k : ℕ) → l.at ≤ k → get_or l.wanted k 0 ≡ get_or l.initial.wanted k 0;
}
