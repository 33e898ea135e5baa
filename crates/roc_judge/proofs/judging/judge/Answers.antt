use Rattle.std.proofs.Common.{subst}
use Rattle.roc_judge.specs.Judged.{IsAnsweredUndecided, one_missing}
use Rattle.roc_judge.specs.Inner.Found.{IsLeastOrNone}
use Rattle.roc_judge.proofs.Rightly.{none_missing}
use Rattle.roc_judge.proofs.judging.judge.Goals as goal

pub returns-in-Some : goal.returns-in-Some
returns-in-Some c = one_missing c.in-Some.id (subst (IsLeastOrNone (IsAnsweredUndecided c.args.folds.now)) c.in-Some.is c.in_ok-found.ensures.missing)

pub judge_decided-requires-clause-decided : goal.judge_decided-requires-clause-decided
judge_decided-requires-clause-decided c = none_missing c.args.folds.now (subst (IsLeastOrNone (IsAnsweredUndecided c.args.folds.now)) c.in-None.is c.in_ok-found.ensures.missing)
