use Rattle.std.proofs.Common.{ℕ, ◌<◌}
use Rattle.roc_conflict.specs.Classes.{is_immediate}
use Rattle.roc_merge.specs.Inner.Firsts.{IsJoined}
use Rattle.roc_merge.proofs.apart.first_apart.Given as goal

abbrev pub invariant-loop-proc : goal.invariant-loop-proc
invariant-loop-proc l = (a b c : ℕ) → a < l.proc → IsJoined l.workload (is_immediate l.classes) a b c
