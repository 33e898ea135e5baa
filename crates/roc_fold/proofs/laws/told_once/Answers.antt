use Rattle.roc_fold.specs.Folded.{header_of}
use Rattle.roc_fold.proofs.ToldOnce.{fold_told_once}
use Rattle.roc_fold.proofs.laws.told_once.Goals as goal

pub returns : goal.returns
returns c plan log folded f = fold_told_once plan (header_of log) log.node log.lines folded f
