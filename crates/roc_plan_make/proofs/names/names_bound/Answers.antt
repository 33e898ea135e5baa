use Rattle.std.proofs.Common.{◌∙◌, sym, ap}
use Rattle.std.specs.List.{flat_map}
use Rattle.roc_program.specs.Names.{bindings_of}
use Rattle.roc_program.specs.Parts as view
use Rattle.roc_sequence.proofs.Fronts.{front_whole}
use Rattle.roc_plan.specs.Sized.{piece_at}
use Rattle.roc_plan_make.proofs.BuiltUp.{flat_of_map}
use Rattle.roc_plan_make.proofs.names.names_bound.Goals as goal

pub returns : goal.returns
returns c =
    c.loop-piece.invariant ∙ ap (flat_map (λ k. bindings_of (piece_at (view.procedure c.args.procedure.now) k))) (front_whole c.args.pieces.now c.loop-piece.piece-index c.loop-piece-test.false)
    ∙ sym (flat_of_map bindings_of (piece_at (view.procedure c.args.procedure.now)) c.args.pieces.now)
