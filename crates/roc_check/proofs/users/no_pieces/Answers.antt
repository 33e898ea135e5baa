use Rattle.roc_check.proofs.Gathered.{none_held}
use Rattle.roc_check.proofs.users.no_pieces.Goals as goal

pub returns : goal.returns
returns c = none_held
