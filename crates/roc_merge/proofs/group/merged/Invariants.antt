use Rattle.std.proofs.Common.{map}
use Rattle.roc_conflict.specs.Classes.{is_immediate}
use Rattle.roc_merge.proofs.Merged.{AreMerged}
use Rattle.roc_merge.proofs.group.merged.Given as goal

abbrev pub invariant-loop-proc : goal.invariant-loop-proc
invariant-loop-proc l = AreMerged l.workload (is_immediate l.classes) (map (λ groups. map (λ g. g.items) groups.items) l.procedures.items) l.proc
