use Rattle.std.proofs.Common.{ℕ, ◌≢◌, ◌<◌, IsTrue}
use Rattle.roc_merge_accept.specs.Inner.Paths.{entry}
use Rattle.roc_merge_accept.proofs.circle.is_on_circle.Given as goal

abbrev pub invariant-loop-other : goal.invariant-loop-other
invariant-loop-other l = (other : ℕ) → other < l.other → l.one ≢ other → IsTrue (entry l.paths l.one other) → ¬ IsTrue (entry l.paths other l.one)
