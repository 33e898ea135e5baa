-- Where those left are small, all are.
use Rattle.std.proofs.Common.{drop, map}
use Rattle.std.specs.List.{AllByRecursion}
use Rattle.roc_report.specs.ReportLine.{IsSmallId}
use Rattle.roc_report.proofs.small.are_small_facts.Given as goal

abbrev pub invariant-loop-fact : goal.invariant-loop-fact
invariant-loop-fact l = AllByRecursion IsSmallId (map (λ fact. fact.of) (drop l.fact-index l.facts)) → AllByRecursion IsSmallId (map (λ fact. fact.of) l.facts)
