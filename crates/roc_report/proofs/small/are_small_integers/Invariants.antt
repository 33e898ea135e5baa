-- Where those left are small, all are.
use Rattle.std.proofs.Common.{drop, FitsSigned, w64}
use Rattle.std.specs.List.{AllByRecursion}
use Rattle.roc_report.proofs.small.are_small_integers.Given as goal

abbrev pub invariant-loop-integer : goal.invariant-loop-integer
invariant-loop-integer l = AllByRecursion (FitsSigned w64) (drop l.integer-index l.integers) → AllByRecursion (FitsSigned w64) l.integers
