use Rattle.roc_log.proofs.LogLemmas.{one_of_both, not_both}
use Rattle.roc_log.proofs.laws.texts_are_right_or_wrong.Goals as goal

pub returns : goal.returns
returns c = record { one_of_both = one_of_both; not_both = not_both }
