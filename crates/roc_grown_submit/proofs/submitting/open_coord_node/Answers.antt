use Rattle.std.proofs.Common.{ap}
use Rattle.roc_grown.specs.Coord.{GrownCoordState}
use Rattle.roc_grown_submit.specs.declared.coord_node.CoordNode.{CoordNode}
use Rattle.roc_grown_submit.proofs.submitting.open_coord_node.Goals as goal

pub returns : goal.returns
returns c = ap (λ (s : GrownCoordState). let d : CoordNode = record { coord = s; first = 0; second = 0; answered = 0 } in d) c.new.ensures
