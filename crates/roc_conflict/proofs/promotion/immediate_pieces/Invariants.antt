use Rattle.roc_conflict.specs.Columns.{piece_meets}
use Rattle.roc_conflict.specs.Inner.Marks.{open_marks}
use Rattle.roc_conflict.proofs.Promoting.{IsWalk}
use Rattle.roc_conflict.proofs.promotion.immediate_pieces.Given as goal

abbrev pub invariant-walk : goal.invariant-walk
invariant-walk l = IsWalk l.workload (piece_meets l.workload l.reached) l.taken

abbrev pub decreases-walk : goal.decreases-walk
decreases-walk l = open_marks l.taken
