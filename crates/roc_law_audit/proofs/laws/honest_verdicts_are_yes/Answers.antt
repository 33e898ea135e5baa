use Rattle.roc_law_audit.proofs.Verdicts.{no_gap, verdict_yes}
use Rattle.roc_law_audit.proofs.laws.honest_verdicts_are_yes.Goals as goal

pub returns-clause-whole : goal.returns-clause-whole
returns-clause-whole c plan coords steps w accepted run none logs are = no_gap plan logs (c.honest_logs_are_yes.ensures.whole plan coords steps w accepted run none logs are)

pub returns-clause-yes : goal.returns-clause-yes
returns-clause-yes c plan coords steps w accepted run none logs are =
    verdict_yes plan logs (c.folds_are_one.ensures plan) (c.honest_logs_are_yes.ensures.folded plan coords steps w accepted run none logs are)
    (c.honest_logs_are_yes.ensures.judged plan coords steps w accepted run none logs are)
