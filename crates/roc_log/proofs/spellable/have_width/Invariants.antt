-- Where those left have their width, all have.
use Rattle.std.proofs.Common.{drop, FitsSigned, w64}
use Rattle.std.specs.List.{AllByRecursion}
use Rattle.roc_log.proofs.spellable.have_width.Given as goal

abbrev pub invariant-loop-num : goal.invariant-loop-num
invariant-loop-num l = AllByRecursion (FitsSigned w64) (drop l.num-index l.nums) → AllByRecursion (FitsSigned w64) l.nums
