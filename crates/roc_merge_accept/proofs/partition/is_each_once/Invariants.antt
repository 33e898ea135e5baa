use Rattle.std.proofs.Common.{ℕ, ◌≡◌, ◌<◌, count_by}
use Rattle.roc_merge_accept.specs.Inner.Tests.{has_piece}
use Rattle.roc_merge_accept.proofs.partition.is_each_once.Given as goal

abbrev pub invariant-loop-piece : goal.invariant-loop-piece
invariant-loop-piece l = (x : ℕ) → x < l.piece → count_by (λ g. has_piece x g.items) l.groups ≡ 1
