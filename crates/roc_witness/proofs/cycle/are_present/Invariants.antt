use Rattle.std.proofs.Common.{take}
use Rattle.std.specs.List.{AllByRecursion}
use Rattle.roc_program.specs.Pieces.{HasPiece}
use Rattle.roc_scgraph.specs.Graph.{piece_id}
use Rattle.roc_witness.proofs.cycle.are_present.Given as goal

abbrev pub invariant-loop-vertex : goal.invariant-loop-vertex
invariant-loop-vertex l = AllByRecursion (λ v. HasPiece l.workload (piece_id v)) (take l.vertex-index l.vertices)
