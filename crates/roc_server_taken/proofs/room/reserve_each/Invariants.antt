use Rattle.std.proofs.Common.{◌≡◌, ◌<◌, ◌≤◌, ◌+◌, ℕ, map, get_or}
use Rattle.std.specs.VecDeque.{deque_capacity, deque_items}
use Rattle.roc_server_taken.proofs.room.reserve_each.Given as goal

-- the parts so far have room
abbrev pub invariant-loop-at : goal.invariant-loop-at
invariant-loop-at l = record {
  items : map deque_items l.parts ≡ map deque_items l.initial.parts;
  capacity : (k : ℕ) → get_or (map deque_capacity l.initial.parts) k 0 ≤ get_or (map deque_capacity l.parts) k 0;
  room : (k : ℕ) → k < l.at → get_or l.wanted k 0 + l.more ≤ get_or (map deque_capacity l.parts) k 0;
}
