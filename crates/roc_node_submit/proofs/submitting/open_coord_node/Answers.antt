use Rattle.std.proofs.Common.{ap}
use Rattle.roc_coord.specs.State.{CoordState}
use Rattle.roc_node_submit.specs.declared.coord_node.CoordNode.{CoordNode}
use Rattle.roc_node_submit.proofs.submitting.open_coord_node.Goals as goal

pub returns : goal.returns
returns c = ap (λ (s : CoordState). let d : CoordNode = record { coord = s; next = 0; answered = 0 } in d) c.new.ensures
