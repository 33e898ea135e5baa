-- Where those left are small, all are.
use Rattle.std.proofs.Common.{drop}
use Rattle.std.specs.List.{AllByRecursion}
use Rattle.roc_report.specs.ReportLine.{IsSmallId}
use Rattle.roc_report.proofs.small.are_small_ids.Given as goal

abbrev pub invariant-loop-id : goal.invariant-loop-id
invariant-loop-id l = AllByRecursion IsSmallId (drop l.id-index l.ids) → AllByRecursion IsSmallId l.ids
