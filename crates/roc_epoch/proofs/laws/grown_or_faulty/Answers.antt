use Rattle.roc_epoch.proofs.Decided.{grown_or_not}
use Rattle.roc_epoch.proofs.laws.grown_or_faulty.Goals as goal

pub returns : goal.returns
returns c = grown_or_not
