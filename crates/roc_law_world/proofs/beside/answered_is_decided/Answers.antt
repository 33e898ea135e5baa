use Rattle.std.proofs.Common.{◌≡◌, ◌∙◌, Some, sym, subst}
use Rattle.std.specs.Prelude.{slice_get}
use Rattle.roc_law_world.proofs.Carried.{answered_there}
use Rattle.roc_law_world.proofs.WovenOrder.{is_view, tells_them, run_beside}
use Rattle.roc_law_world.proofs.beside.answered_is_decided.Goals as goal

pub returns : goal.returns
returns c plan b coords steps w accepted begins run t proc args submitted plain reply answered shard s there =
    let x = run_beside plan b coords steps w run in
    c.answered_is_decided.ensures plan b.of_transactions coords x.others x.world begins.of_transactions (c.accepted_plans_have_schemes_from_any_store.ensures plan b.of_transactions.store accepted) x.run t reply
    (answered_there (is_view plan b coords steps w run) w x.world x.holds.beside t reply (tells_them plan b coords steps w run t proc args submitted ∙ plain) answered)
    shard s (subst (λ l. slice_get l shard.0 ≡ Some s) (sym x.holds.beside.servers) there)
