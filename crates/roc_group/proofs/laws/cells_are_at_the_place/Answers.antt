use Rattle.roc_group.proofs.Placed.{uses_placed}
use Rattle.roc_group.proofs.laws.cells_are_at_the_place.Goals as goal

pub returns : goal.returns
returns c plan call s ok there = uses_placed plan call s ok there
