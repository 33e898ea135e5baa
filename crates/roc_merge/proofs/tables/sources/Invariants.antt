use Rattle.roc_merge.proofs.Flows.{AreSources}
use Rattle.roc_merge.proofs.tables.sources.Given as goal

abbrev pub invariant-loop-source : goal.invariant-loop-source
invariant-loop-source l = AreSources l.workload l.proc l.user l.row l.source
