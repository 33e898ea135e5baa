use Rattle.std.proofs.Common.{ℕ, ◌<◌}
use Rattle.roc_conflict.specs.Classes.{is_immediate}
use Rattle.roc_merge.specs.Inner.Firsts.{IsClear}
use Rattle.roc_merge.proofs.between.first_blocked.Given as goal

abbrev pub invariant-loop-proc : goal.invariant-loop-proc
invariant-loop-proc l = (a b c d : ℕ) → a < l.proc → IsClear l.workload (is_immediate l.classes) a b c d
