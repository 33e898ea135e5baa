use Rattle.std.proofs.Common.{ℕ, ◌<◌}
use Rattle.roc_conflict.specs.Classes.{is_immediate}
use Rattle.roc_merge.specs.Inner.Firsts.{IsClear}
use Rattle.roc_merge.proofs.between.first_in.Given as goal

abbrev pub invariant-loop-p : goal.invariant-loop-p
invariant-loop-p l = (a b c : ℕ) → a < l.p → IsClear l.workload (is_immediate l.classes) l.proc a b c
