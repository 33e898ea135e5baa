use Rattle.std.proofs.Common.{◌∙◌, ap}
use Rattle.std.specs.List.{flat_map}
use Rattle.roc_program.specs.Parts as view
use Rattle.roc_sequence.proofs.Fronts.{front_whole}
use Rattle.roc_plan.specs.Groups.{places_in}
use Rattle.roc_plan.proofs.Taken.{pushed_flat}
use Rattle.roc_plan_make.proofs.replies.outs_of.Goals as goal

pub loop-piece-preserved : goal.loop-piece-preserved
loop-piece-preserved c =
    pushed_flat (places_in (view.procedure c.args.procedure.now)) c.args.pieces.now c.loop-piece.piece-index 0 c.loop-piece.places.items c.push_places.new.places.items c.loop-piece-test.true
    c.in_ok-push_places.ensures c.loop-piece.invariant

pub returns : goal.returns
returns c = c.loop-piece.invariant ∙ ap (flat_map (places_in (view.procedure c.args.procedure.now))) (front_whole c.args.pieces.now c.loop-piece.piece-index c.loop-piece-test.false)
