use Rattle.roc_grown.specs.Coord.{GrownCoordState}
use Rattle.std.proofs.Common.{List, ap, ◌++◌, ◌∙◌}
use Rattle.roc_base.specs.declared.id.TxnId.{TxnId}
use Rattle.roc_world.proofs.Flattened.{flat_more}
use Rattle.roc_world.proofs.reads.unanswered_of.Goals as goal

pub loop-coord-preserved : goal.loop-coord-preserved
loop-coord-preserved c =
    let unanswered : GrownCoordState → List TxnId = λ s. s.core.unanswered in
    let at = c.loop-coord.coord-index in
    c.in_ok-extend_from_slice.ensures.items
    ∙ ap (λ (ids : List TxnId). c.loop-coord.ids.items ++ ids) c.unanswered.ensures.ids
    ∙ ap (λ (ids : List TxnId). ids ++ unanswered c.coord-item.result) c.loop-coord.invariant
    ∙ flat_more unanswered c.args.coords.now at c.coord-item.result c.loop-coord-test.true c.coord-item.is
