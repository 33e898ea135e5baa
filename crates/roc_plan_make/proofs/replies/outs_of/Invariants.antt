use Rattle.std.proofs.Common.{◌≡◌, take}
use Rattle.std.specs.List.{flat_map}
use Rattle.roc_program.specs.Parts as view
use Rattle.roc_plan.specs.Groups.{places_in}
use Rattle.roc_plan_make.proofs.replies.outs_of.Given as goal

abbrev pub invariant-loop-piece : goal.invariant-loop-piece
invariant-loop-piece l = l.places.items ≡ flat_map (places_in (view.procedure l.procedure)) (take l.piece-index l.pieces)
