use Rattle.std.proofs.Common.{sym, subst}
use Rattle.roc_law_protocol.specs.Kept.{KeepsWhatRan}
use Rattle.roc_law_world.specs.Bare.{bare, bare_steps}
use Rattle.roc_law_world.proofs.Carried.{ran_alike, keeps_too}
use Rattle.roc_law_world.proofs.WovenOrder.{run_beside}
use Rattle.roc_law_world.proofs.beside.order_keeps_what_ran.Goals as goal

pub returns : goal.returns
returns c plan b coords steps w accepted begins run =
    let x = run_beside plan b coords steps w run in
    subst (KeepsWhatRan plan (bare_steps steps) (bare w)) x.holds.beside.order
    (keeps_too plan x.others (bare_steps steps) x.world (bare w) (sym (ran_alike steps x.others x.stepped)) x.holds.beside.servers x.holds.beside.order x.world.order
    (c.order_keeps_what_ran.ensures plan b.of_transactions coords x.others x.world begins.of_transactions (c.accepted_plans_have_schemes_from_any_store.ensures plan b.of_transactions.store accepted) x.run))
