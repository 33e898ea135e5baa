use Rattle.roc_conflict.proofs.Mirrored.{conflict_mirrored}
use Rattle.roc_conflict.proofs.laws.conflicts_are_symmetric.Goals as goal

pub returns : goal.returns
returns c = conflict_mirrored
