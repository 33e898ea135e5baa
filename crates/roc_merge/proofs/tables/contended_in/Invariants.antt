use Rattle.std.proofs.Common.{IsTrue}
use Rattle.roc_conflict.specs.Classes.{is_immediate}
use Rattle.roc_conflict.specs.Contended.{is_contended}
use Rattle.roc_merge_groups.specs.Groups.{piece_numbered}
use Rattle.roc_merge.proofs.Rows.{IsHeld}
use Rattle.roc_merge.proofs.tables.contended_in.Given as goal

abbrev pub invariant-loop-piece : goal.invariant-loop-piece
invariant-loop-piece l = IsHeld (λ x. IsTrue (is_contended l.workload (is_immediate l.classes) (piece_numbered l.proc x))) l.row l.piece
