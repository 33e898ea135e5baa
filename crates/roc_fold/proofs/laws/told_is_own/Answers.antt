use Rattle.roc_fold.proofs.ToldOnce.{told_by_own}
use Rattle.roc_fold.proofs.laws.told_is_own.Goals as goal

pub returns : goal.returns
returns c log t h = told_by_own log.node log.lines t h
