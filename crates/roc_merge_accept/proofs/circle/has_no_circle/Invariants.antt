use Rattle.std.proofs.Common.{ℕ, ◌≢◌, ◌<◌, length, IsTrue}
use Rattle.roc_merge_accept.specs.Inner.Paths.{entry}
use Rattle.roc_merge_accept.proofs.circle.has_no_circle.Given as goal

abbrev pub invariant-loop-one : goal.invariant-loop-one
invariant-loop-one l = (one other : ℕ) → one < l.one → other < length l.groups → one ≢ other → IsTrue (entry l.paths one other) → ¬ IsTrue (entry l.paths other one)
