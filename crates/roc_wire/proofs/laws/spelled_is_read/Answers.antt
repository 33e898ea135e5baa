use Rattle.roc_wire.proofs.OnePair.{reads_as}
use Rattle.roc_wire.proofs.laws.spelled_is_read.Goals as goal

pub returns : goal.returns
returns c = reads_as
