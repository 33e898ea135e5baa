use Rattle.roc_group.proofs.Steady.{uses_steady}
use Rattle.roc_group.proofs.laws.cells_follow_from_what_is_given.Goals as goal

pub returns : goal.returns
returns c plan call s t ok there deferrable = uses_steady plan call s t ok there deferrable
