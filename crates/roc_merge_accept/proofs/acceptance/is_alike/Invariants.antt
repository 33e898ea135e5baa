use Rattle.std.proofs.Common.{ℕ, ◌<◌, IsTrue, get_or}
use Rattle.roc_conflict.specs.Classes.{is_immediate}
use Rattle.roc_merge_groups.specs.Groups.{piece_numbered}
use Rattle.roc_merge_groups.specs.Core.{AreCoLocated}
use Rattle.roc_merge_accept.proofs.acceptance.is_alike.Given as goal

abbrev pub invariant-loop-piece : goal.invariant-loop-piece
invariant-loop-piece l =
    (k : ℕ) → k < l.piece-index → IsTrue (is_immediate l.classes (piece_numbered l.proc (get_or l.group k 0))) × AreCoLocated l.workload l.proc (get_or l.group 0 0) (get_or l.group k 0)
