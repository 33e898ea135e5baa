use Rattle.roc_auditor.proofs.OneVerdict.{one_verdict}
use Rattle.roc_auditor.proofs.laws.verdicts_are_one.Goals as goal

pub returns : goal.returns
returns c = λ plan. one_verdict plan (c.folds_are_one.ensures plan) (c.told_once.ensures plan) c.told_is_own.ensures
