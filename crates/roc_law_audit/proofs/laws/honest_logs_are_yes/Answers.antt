use Rattle.roc_law_audit.proofs.laws.honest_logs_are_yes.Goals as goal

pub returns-clause-folded : goal.returns-clause-folded
returns-clause-folded c plan coords steps w accepted run none logs are = c.logs_tell_their_run.ensures.folded plan coords steps w run logs are

pub returns-clause-whole : goal.returns-clause-whole
returns-clause-whole c plan coords steps w accepted run none logs are = c.logs_tell_their_run.ensures.whole plan coords steps w run logs are

pub returns-clause-judged : goal.returns-clause-judged
returns-clause-judged c plan coords steps w accepted run none logs are folds of =
    c.honest_folds_are_yes.ensures plan coords steps w accepted run none folds (c.logs_tell_their_run.ensures.told plan coords steps w run logs are folds of)
