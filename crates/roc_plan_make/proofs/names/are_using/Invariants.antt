use Rattle.std.proofs.Common.{◌≡◌, drop}
use Rattle.std.specs.List.{list_any}
use Rattle.roc_program.specs.Parts as view
use Rattle.roc_program.specs.Names.{piece_uses}
use Rattle.roc_plan.specs.Sized.{piece_at}
use Rattle.roc_plan_make.proofs.names.are_using.Given as goal

abbrev pub invariant-loop-piece : goal.invariant-loop-piece
invariant-loop-piece l =
    list_any (λ k. piece_uses (piece_at (view.procedure l.procedure) k) l.name) (drop l.piece-index l.pieces)
    ≡ list_any (λ k. piece_uses (piece_at (view.procedure l.procedure) k) l.name) l.pieces
