use Rattle.std.proofs.Common.{◌≡◌, Some, ap, sym, subst}
use Rattle.std.specs.Prelude.{slice_get}
use Rattle.roc_law_world.specs.Bare.{bare_steps}
use Rattle.roc_law_world.specs.Beside.{is_of_view}
use Rattle.roc_law_world.proofs.Carried.{sent_there, settled_here}
use Rattle.roc_law_world.proofs.TakenAlike.{alike_back, first_alike}
use Rattle.roc_law_world.proofs.WovenOrder.{is_view, run_beside}
use Rattle.roc_law_world.proofs.beside.vanished_is_over.Goals as goal

pub returns : goal.returns
returns c plan b coords steps w accepted begins run shard s there m has t g bound outs edges facts is none =
    let x = run_beside plan b coords steps w run in
    let v = is_view plan b coords steps w run in
    let k =
    c.vanished_is_over.ensures plan b.of_transactions coords x.others x.world begins.of_transactions (c.accepted_plans_have_schemes_from_any_store.ensures plan b.of_transactions.store accepted) x.run shard s
    (subst (λ l. slice_get l shard.0 ≡ Some s) (sym x.holds.beside.servers) there) m (sent_there v w x.world x.holds.beside m (ap is_of_view is) has) t g bound outs edges facts is none in
    (k.0, settled_here v w x.world x.holds.beside t k.1, (k.2.0, first_alike x.others (bare_steps steps) (alike_back (bare_steps steps) x.others x.taken) shard t k.2.0 k.2.1, k.2.2))
