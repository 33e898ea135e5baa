use Rattle.std.proofs.Common.{◌≡◌, Some, sym, subst}
use Rattle.std.specs.Prelude.{slice_get}
use Rattle.roc_step.specs.State.{ServerState}
use Rattle.roc_law_world.proofs.WovenOrder.{run_beside}
use Rattle.roc_law_world.proofs.beginnings.cells_are_in_their_place.Goals as goal

pub returns-clause-servers : goal.returns-clause-servers
returns-clause-servers c plan b coords steps w run n few =
    let x = run_beside plan b coords steps w run in
    subst (λ l. (s : ServerState) × (slice_get l n ≡ Some s)) x.holds.beside.servers (c.cells_are_in_their_place.ensures.servers plan b.of_transactions coords x.others x.world x.run n few)

pub returns-clause-apart : goal.returns-clause-apart
returns-clause-apart c plan b coords steps w accepted begins run shard s there =
    let x = run_beside plan b coords steps w run in
    c.cells_are_in_their_place.ensures.apart plan b.of_transactions coords x.others x.world begins.of_transactions
    (c.accepted_plans_have_schemes_from_any_store.ensures plan b.of_transactions.store accepted) x.run
    shard s (subst (λ l. slice_get l shard.0 ≡ Some s) (sym x.holds.beside.servers) there)
