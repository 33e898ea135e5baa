use Rattle.std.proofs.Common.{◌≡◌, length}
use Rattle.roc_merge.specs.Inner.Tables.{IsFlow}
use Rattle.roc_merge.proofs.tables.flow_in.Given as goal

abbrev pub invariant-loop-user : goal.invariant-loop-user
invariant-loop-user l = IsFlow l.workload l.proc l.flow l.user × (length l.flow ≡ 16)
