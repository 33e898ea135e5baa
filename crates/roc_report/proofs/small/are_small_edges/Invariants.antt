-- Where those left are small, all are.
use Rattle.std.proofs.Common.{drop}
use Rattle.std.specs.List.{AllByRecursion}
use Rattle.roc_report.specs.ReportLine.{IsSmallEdge}
use Rattle.roc_report.proofs.small.are_small_edges.Given as goal

abbrev pub invariant-loop-edge : goal.invariant-loop-edge
invariant-loop-edge l = AllByRecursion IsSmallEdge (drop l.edge-index l.edges) → AllByRecursion IsSmallEdge l.edges
