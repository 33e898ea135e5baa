use Rattle.std.proofs.Common.{ℕ, ◌<◌}
use Rattle.roc_merge.specs.Inner.Tables.{IsJoinedBy}
use Rattle.roc_merge.proofs.apart.first_behind.Given as goal

abbrev pub invariant-loop-q : goal.invariant-loop-q
invariant-loop-q l = (b : ℕ) → l.p < b → b < l.q → IsJoinedBy l.workload l.proc l.contended l.p b
