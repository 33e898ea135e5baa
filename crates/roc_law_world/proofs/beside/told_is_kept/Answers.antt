use Rattle.std.proofs.Common.{◌≡◌, Some, ap, sym, subst}
use Rattle.std.specs.Prelude.{slice_get}
use Rattle.roc_law_world.specs.Beside.{is_of_view}
use Rattle.roc_law_world.proofs.Carried.{sent_there}
use Rattle.roc_law_world.proofs.WovenOrder.{is_view, run_beside}
use Rattle.roc_law_world.proofs.beside.told_is_kept.Goals as goal

pub returns : goal.returns
returns c plan b coords steps w accepted begins run shard s there t g e found m has at bound outs edges facts is =
    let x = run_beside plan b coords steps w run in
    c.told_is_kept.ensures plan b.of_transactions coords x.others x.world begins.of_transactions (c.accepted_plans_have_schemes_from_any_store.ensures plan b.of_transactions.store accepted) x.run shard s (subst (λ l. slice_get l shard.0 ≡ Some s) (sym x.holds.beside.servers) there) t g e found m
    (sent_there (is_view plan b coords steps w run) w x.world x.holds.beside m (ap is_of_view is) has) at bound outs edges facts is
