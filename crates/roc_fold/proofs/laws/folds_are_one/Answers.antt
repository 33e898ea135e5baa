use Rattle.roc_fold.specs.Folded.{header_of}
use Rattle.roc_fold.proofs.OneFold.{one_found}
use Rattle.roc_fold.proofs.laws.folds_are_one.Goals as goal

pub returns : goal.returns
returns c plan log a b x y = one_found plan (header_of log) log.node log.lines a b x y
