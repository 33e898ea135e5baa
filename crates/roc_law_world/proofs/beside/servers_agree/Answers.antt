use Rattle.std.proofs.Common.{◌≡◌, Some, sym, subst}
use Rattle.std.specs.Prelude.{slice_get}
use Rattle.roc_sequence.specs.Places.{IsListedBefore}
use Rattle.roc_base.specs.TxnId.{is_txn}
use Rattle.roc_law_world.specs.Bare.{bare_steps}
use Rattle.roc_law_world.proofs.Carried.{started_there}
use Rattle.roc_law_world.proofs.TakenAlike.{first_alike}
use Rattle.roc_law_world.proofs.WovenOrder.{is_view, run_beside}
use Rattle.roc_law_world.proofs.beside.servers_agree.Goals as goal

pub returns-clause-components : goal.returns-clause-components
returns-clause-components c plan b coords steps w accepted begins run shard other t d k here too first also =
    let x = run_beside plan b coords steps w run in
    let v = is_view plan b coords steps w run in
    c.servers_agree.ensures.components plan b.of_transactions coords x.others x.world begins.of_transactions (c.accepted_plans_have_schemes_from_any_store.ensures plan b.of_transactions.store accepted) x.run shard other t d k
    (started_there v w x.world x.holds.beside t shard here) (started_there v w x.world x.holds.beside t other too)
    (first_alike (bare_steps steps) x.others x.taken shard t d first) (first_alike (bare_steps steps) x.others x.taken other t k also)

pub returns-clause-order : goal.returns-clause-order
returns-clause-order c plan b coords steps w accepted begins run shard s there y z here too decided also chain before =
    let x = run_beside plan b coords steps w run in
    subst (λ l. IsListedBefore is_txn l y z) x.holds.beside.order (c.servers_agree.ensures.order plan b.of_transactions coords x.others x.world begins.of_transactions (c.accepted_plans_have_schemes_from_any_store.ensures plan b.of_transactions.store accepted) x.run shard s (subst (λ l. slice_get l shard.0 ≡ Some s) (sym x.holds.beside.servers) there) y z here too decided also chain before)
