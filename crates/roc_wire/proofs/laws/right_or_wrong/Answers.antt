use Rattle.roc_wire.proofs.OnePair.{one_of}
use Rattle.roc_wire.proofs.laws.right_or_wrong.Goals as goal

pub returns : goal.returns
returns c = one_of
