use Rattle.std.proofs.Common.{◌≡◌, Some, ap, sym, subst}
use Rattle.std.specs.Prelude.{slice_get}
use Rattle.roc_sequence.specs.Places.{IsListed}
use Rattle.roc_sequence.proofs.Members.{has_map}
use Rattle.roc_base.specs.TxnId.{is_txn}
use Rattle.roc_law_world.specs.Bare.{bare_step, bare_steps}
use Rattle.roc_law_world.specs.Beside.{is_of_view}
use Rattle.roc_law_world.proofs.Carried.{sent_there}
use Rattle.roc_law_world.proofs.TakenAlike.{like_of}
use Rattle.roc_law_world.proofs.WovenOrder.{is_view, run_beside}
use Rattle.roc_law_world.proofs.beside.left_out_is_earlier.Goals as goal

pub returns-clause-decided : goal.returns-clause-decided
returns-clause-decided c plan b coords steps w accepted begins run shard s there t d =
    let x = run_beside plan b coords steps w run in
    subst (λ l. IsListed is_txn l t) x.holds.beside.order (c.left_out_is_earlier.ensures.decided plan b.of_transactions coords x.others x.world begins.of_transactions (c.accepted_plans_have_schemes_from_any_store.ensures plan b.of_transactions.store accepted) x.run shard s (subst (λ l. slice_get l shard.0 ≡ Some s) (sym x.holds.beside.servers) there) t d)

pub returns-clause-taken : goal.returns-clause-taken
returns-clause-taken c plan b coords steps w accepted begins run y shard k t has taken member =
    let x = run_beside plan b coords steps w run in
    let q = like_of (bare_steps steps) x.others x.taken (bare_step y) (has_map bare_step y steps has) in
    subst (λ l. IsListed is_txn l t) x.holds.beside.order (c.left_out_is_earlier.ensures.taken plan b.of_transactions coords x.others x.world begins.of_transactions (c.accepted_plans_have_schemes_from_any_store.ensures plan b.of_transactions.store accepted) x.run q.0 shard k t q.1 (q.2.there shard k taken) member)

pub returns-clause-starting : goal.returns-clause-starting
returns-clause-starting c plan b coords steps w accepted begins run shard s there m has to id proc group args inputs is none early listed =
    let x = run_beside plan b coords steps w run in
    c.left_out_is_earlier.ensures.starting plan b.of_transactions coords x.others x.world begins.of_transactions (c.accepted_plans_have_schemes_from_any_store.ensures plan b.of_transactions.store accepted) x.run shard s (subst (λ l. slice_get l shard.0 ≡ Some s) (sym x.holds.beside.servers) there) m
    (sent_there (is_view plan b coords steps w run) w x.world x.holds.beside m (ap is_of_view is) has) to id proc group args inputs is none early
    (subst (λ l. IsListed is_txn l id) (sym x.holds.beside.order) listed)
