use Rattle.std.proofs.Common.{ℕ, ◌<◌, IsTrue}
use Rattle.roc_merge.specs.Inner.Tables.{holds}
use Rattle.roc_merge.proofs.group.meet.Given as goal

abbrev pub invariant-loop-at : goal.invariant-loop-at
invariant-loop-at l = (k : ℕ) → k < l.at → ¬ (IsTrue (holds l.one k) × IsTrue (holds l.other k))
