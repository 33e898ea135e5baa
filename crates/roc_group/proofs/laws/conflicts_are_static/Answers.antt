use Rattle.roc_group.proofs.Covered.{meet_covered}
use Rattle.roc_group.proofs.laws.conflicts_are_static.Goals as goal

pub returns : goal.returns
returns c = meet_covered
