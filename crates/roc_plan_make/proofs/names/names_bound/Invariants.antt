use Rattle.std.proofs.Common.{◌≡◌, take}
use Rattle.std.specs.List.{flat_map}
use Rattle.roc_program.specs.Parts as view
use Rattle.roc_program.specs.Names.{bindings_of}
use Rattle.roc_plan.specs.Sized.{piece_at}
use Rattle.roc_plan_make.proofs.names.names_bound.Given as goal

abbrev pub invariant-loop-piece : goal.invariant-loop-piece
invariant-loop-piece l = l.names.items ≡ flat_map (λ k. bindings_of (piece_at (view.procedure l.procedure) k)) (take l.piece-index l.pieces)
