use Rattle.std.proofs.Common.{◌≡◌, ◌∙◌, ℤ, List, Some, sym, subst}
use Rattle.std.specs.Prelude.{slice_get}
use Rattle.roc_base.specs.declared.id.TxnId.{TxnId}
use Rattle.roc_audit.specs.History.{WasSubmitted, WasAnswered}
use Rattle.roc_law_world.proofs.LooksLeave.{answered_beside}
use Rattle.roc_law_world.proofs.OneMore.{one_more}
use Rattle.roc_law_world.proofs.WovenOrder.{is_view, tells_them, run_beside}
use Rattle.roc_law_world.proofs.beside.answered_worlds_rest.Goals as goal

pub returns-clause-order : goal.returns-clause-order
returns-clause-order c plan b coords steps w accepted begins run all e o h =
    let m = one_more plan b coords steps w run e o h in
    let x = m.there in
    let f = m.goes in
    let answered = subst (λ l. (t : TxnId) → WasSubmitted l t → (reply : List ℤ) × WasAnswered l t reply) (sym x.holds.beside.history) (answered_beside plan m.viewed w.history m.told all) in
    sym f.holds.beside.order ∙ (c.answered_worlds_rest.ensures.order plan b.of_transactions coords x.others x.world begins.of_transactions (c.accepted_plans_have_schemes_from_any_store.ensures plan b.of_transactions.store accepted) x.run answered f.event f.outcome f.moves ∙ x.holds.beside.order)

pub returns-clause-cells : goal.returns-clause-cells
returns-clause-cells c plan b coords steps w accepted begins run all e o h n s v there after =
    let m = one_more plan b coords steps w run e o h in
    let x = m.there in
    let f = m.goes in
    let answered = subst (λ l. (t : TxnId) → WasSubmitted l t → (reply : List ℤ) × WasAnswered l t reply) (sym x.holds.beside.history) (answered_beside plan m.viewed w.history m.told all) in
    c.answered_worlds_rest.ensures.cells plan b.of_transactions coords x.others x.world begins.of_transactions (c.accepted_plans_have_schemes_from_any_store.ensures plan b.of_transactions.store accepted) x.run answered f.event f.outcome f.moves n s v
    (subst (λ l. slice_get l n ≡ Some s) (sym x.holds.beside.servers) there) (subst (λ l. slice_get l n ≡ Some v) (sym f.holds.beside.servers) after)

pub returns-clause-pending : goal.returns-clause-pending
returns-clause-pending c plan b coords steps w accepted begins run all n s there =
    let x = run_beside plan b coords steps w run in
    let answered = subst (λ l. (t : TxnId) → WasSubmitted l t → (reply : List ℤ) × WasAnswered l t reply) (sym x.holds.beside.history) (answered_beside plan (is_view plan b coords steps w run) w.history (tells_them plan b coords steps w run) all) in
    c.answered_worlds_rest.ensures.pending plan b.of_transactions coords x.others x.world begins.of_transactions (c.accepted_plans_have_schemes_from_any_store.ensures plan b.of_transactions.store accepted) x.run answered n s (subst (λ l. slice_get l n ≡ Some s) (sym x.holds.beside.coords) there)
