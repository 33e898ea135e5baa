use Rattle.std.proofs.Common.{◌≡◌, Some, sym, subst}
use Rattle.std.specs.Prelude.{slice_get}
use Rattle.roc_law_world.proofs.AnsweredBelow.{some_group}
use Rattle.roc_law_world.proofs.CalmRuns.{run_calm}
use Rattle.roc_law_world.proofs.GoneSteps.{gone_silent}
use Rattle.roc_law_world.proofs.TakenDecided.{taken_decided}
use Rattle.roc_law_world.proofs.WovenOrder.{is_view, tells_them, run_beside}
use Rattle.roc_law_world.proofs.beside.gone_sends_nothing.Goals as goal

pub returns : goal.returns
returns c plan b coords steps w accepted begins run e o =
    let x = run_beside plan b coords steps w run in
    let v = is_view plan b coords steps w run in
    let tells = tells_them plan b coords steps w run in
    let calm = run_calm plan accepted (some_group plan accepted (c.views_are_apart.ensures.count plan accepted)) b begins.of_transactions coords v steps w run tells in
    gone_silent plan w calm.uncounted calm.calm
    (λ n s there. taken_decided plan b.of_transactions begins.of_transactions (c.accepted_plans_have_schemes_from_any_store.ensures plan b.of_transactions.store accepted)
    (λ S sound. c.machine_laws.ensures.log S b.of_transactions.store sound) c.machine_laws.ensures.stores coords x.others x.world x.run n s
    (subst (λ l. slice_get l n ≡ Some s) (sym x.holds.beside.servers) there)) e o
