-- Ranges of numbers from 0 on, and what a test passes of them
use Rattle.std.proofs.Common.{ℕ, ◌<◌, Bool, All, arith}
use Rattle.std.proofs.lemmas.List.Elements.{All-from_recursion, All-filter}
use Rattle.std.specs.List.{filter, range_with_len}
use Rattle.roc_sequence.proofs.Ranges.{range_below}

pub All-range : (n : ℕ) → All (λ k. k < n) (range_with_len 0 n)
All-range n = All-from_recursion (λ k. k < n) (range_with_len 0 n) (range_below 0 n n (omega arith))

pub All-filter_range : (p : ℕ → Bool) (n : ℕ) → All (λ k. k < n) (filter p (range_with_len 0 n))
All-filter_range p n = All-filter p (λ k. k < n) (range_with_len 0 n) (All-range n)
