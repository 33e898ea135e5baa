use Rattle.roc_law_nodes.proofs.logs.logs_of_nodes_are_yes.Goals as goal

pub returns-clause-whole : goal.returns-clause-whole
returns-clause-whole c plan coords steps w accepted run none logs are =
    c.honest_verdicts_are_yes.ensures.whole plan coords steps w accepted run none logs (c.logs_of_nodes_are_the_runs.ensures plan coords steps w run logs are)

pub returns-clause-yes : goal.returns-clause-yes
returns-clause-yes c plan coords steps w accepted run none logs are =
    c.honest_verdicts_are_yes.ensures.yes plan coords steps w accepted run none logs (c.logs_of_nodes_are_the_runs.ensures plan coords steps w run logs are)
