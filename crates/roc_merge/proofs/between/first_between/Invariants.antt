use Rattle.std.proofs.Common.{ℕ, ◌<◌}
use Rattle.roc_merge.specs.Inner.Tables.{IsClearBy}
use Rattle.roc_merge.proofs.between.first_between.Given as goal

abbrev pub invariant-loop-x : goal.invariant-loop-x
invariant-loop-x l = (c : ℕ) → c < l.x → IsClearBy l.workload l.proc l.contended l.flow l.p l.q c
