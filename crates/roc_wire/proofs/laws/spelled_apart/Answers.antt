use Rattle.roc_wire.proofs.OnePair.{one_pair}
use Rattle.roc_wire.proofs.laws.spelled_apart.Goals as goal

pub returns : goal.returns
returns c = one_pair
