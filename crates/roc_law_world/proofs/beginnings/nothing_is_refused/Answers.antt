use Rattle.roc_law_world.proofs.NoRefusals.{servers_take, coordinators_ignore}
use Rattle.roc_law_world.proofs.WovenOrder.{called_in, tells, run_beside}
use Rattle.roc_law_world.proofs.beginnings.nothing_is_refused.Goals as goal

pub returns-clause-servers : goal.returns-clause-servers
returns-clause-servers c plan b coords steps w accepted begins run =
    let x = run_beside plan b coords steps w run in
    servers_take plan b coords steps w run accepted (called_in w.history) (tells plan b coords steps w run) x
    (c.nothing_is_refused.ensures.servers plan b.of_transactions coords x.others x.world begins.of_transactions
    (c.accepted_plans_have_schemes_from_any_store.ensures plan b.of_transactions.store accepted) x.run)

pub returns-clause-coordinators : goal.returns-clause-coordinators
returns-clause-coordinators c plan b coords steps w accepted begins run =
    let x = run_beside plan b coords steps w run in
    coordinators_ignore plan b coords steps w run accepted (called_in w.history) (tells plan b coords steps w run) x
    (c.nothing_is_refused.ensures.coordinators plan b.of_transactions coords x.others x.world begins.of_transactions
    (c.accepted_plans_have_schemes_from_any_store.ensures plan b.of_transactions.store accepted) x.run)
