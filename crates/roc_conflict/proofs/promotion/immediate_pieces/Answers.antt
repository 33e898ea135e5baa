use Rattle.roc_conflict.specs.Columns.{piece_meets}
use Rattle.roc_conflict.proofs.Promoting.{walk_start, walk_more, walk_done, promoted_more}
use Rattle.roc_conflict.proofs.promotion.immediate_pieces.Goals as goal

pub walk-init : goal.walk-init
walk-init c = walk_start c.args.workload.now (piece_meets c.args.workload.now c.none-reached.result) _ (c.none-reached.ensures c.args.workload.now) c.no_marks-taken.ensures

pub walk-preserved : goal.walk-preserved
walk-preserved c =
    let old = piece_meets c.args.workload.now c.walk.reached in
    let new = piece_meets c.args.workload.now c.add.new.self in
    walk_more c.args.workload.now old c.walk.taken c.walk.invariant new c.mark.new.marks c.in-Some.next c.in-Some.ensures.found.0 c.in-Some.ensures.found.1 c.mark.ensures
    (promoted_more c.args.workload.now c.in-Some.next old new c.add.ensures)

pub returns : goal.returns
returns c = walk_done c.args.workload.now (piece_meets c.args.workload.now c.walk.reached) c.walk.taken c.walk.invariant c.in_default.ensures.none
