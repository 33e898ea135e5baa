use Rattle.roc_conflict.specs.Classes.{is_immediate}
use Rattle.roc_merge_groups.specs.Core.{InCore}
use Rattle.roc_merge.proofs.Rows.{IsHeld}
use Rattle.roc_merge.proofs.group.core_of.Given as goal

abbrev pub invariant-loop-piece : goal.invariant-loop-piece
invariant-loop-piece l = IsHeld (InCore l.workload (is_immediate l.classes) l.proc) l.core l.piece
