use Rattle.std.proofs.Common.{◌≡◌, ◌∙◌, ap, sym, subst}
use Rattle.roc_sequence.specs.Lists.{Has}
use Rattle.roc_sequence.proofs.Listed.{has_listed}
use Rattle.roc_base.specs.declared.id.TxnId.{TxnId}
use Rattle.roc_base.specs.TxnId.{is_txn}
use Rattle.roc_base.specs.Equalities.{is_txn-true, is_txn-same}
use Rattle.roc_whole.specs.Serial.{serial_answers}
use Rattle.roc_audit.specs.History.{WasSubmitted, IsAnsweredBefore}
use Rattle.roc_audit.specs.Witness.{submitted_calls, reply_in, IsSerialWitnessFrom}
use Rattle.roc_law_world.specs.Bare.{bare, bare_steps}
use Rattle.roc_law_world.proofs.Carried.{ran_alike, keeps_too, answered_there}
use Rattle.roc_law_world.proofs.LooksLeave.{same_calls}
use Rattle.roc_law_world.proofs.Numbered.{numbered}
use Rattle.roc_law_world.proofs.Runs.{beside}
use Rattle.roc_law_world.proofs.WovenOrder.{is_view, tells_them, run_beside}
use Rattle.roc_law_world.proofs.beside.kept_orders_are_serial.Goals as goal

pub returns-clause-replies : goal.returns-clause-replies
returns-clause-replies c plan b coords steps w accepted begins run O keeps t proc args submitted plain reply answered =
    let v = is_view plan b coords steps w run in
    let x = run_beside plan b coords steps w run in
    let kept = keeps_too plan (bare_steps steps) x.others (bare w) x.world (ran_alike steps x.others x.stepped) (sym x.holds.beside.servers) (sym x.holds.beside.order) O keeps in
    let serial = c.order_is_serial.ensures plan b.of_transactions coords x.others x.world begins.of_transactions (c.accepted_plans_have_schemes_from_any_store.ensures plan b.of_transactions.store accepted) x.run in
    let was : ((u : TxnId) → Has u O → WasSubmitted x.world.history u) = λ u h. serial.submitted u (kept.from u (has_listed is_txn is_txn-true is_txn-same O u h)) in
    let calls : submitted_calls x.world.history O ≡ submitted_calls w.history O =
    ap (λ h. submitted_calls h O) x.holds.beside.history
    ∙ same_calls plan.program v w.history (numbered plan b coords steps w run).one O (λ u h. subst (λ l. WasSubmitted l u) x.holds.beside.history (was u h)) in
    ap (λ cs. reply_in t (serial_answers plan.program b.of_transactions.store cs)) (sym calls)
    ∙ c.kept_orders_are_serial.ensures.replies plan b.of_transactions coords x.others x.world begins.of_transactions (c.accepted_plans_have_schemes_from_any_store.ensures plan b.of_transactions.store accepted) x.run O kept t reply
    (answered_there v w x.world x.holds.beside t reply (tells_them plan b coords steps w run t proc args submitted ∙ plain) answered)

pub returns-clause-witness : goal.returns-clause-witness
returns-clause-witness c plan b coords steps w accepted begins run O keeps v tells real =
    let x = beside plan b coords v steps w run tells in
    let kept = keeps_too plan (bare_steps steps) x.others (bare w) x.world (ran_alike steps x.others x.stepped) (sym x.holds.beside.servers) (sym x.holds.beside.order) O keeps in
    subst (λ h. IsSerialWitnessFrom plan.program b.of_transactions.store h O) x.holds.beside.history
    (c.kept_orders_are_serial.ensures.witness plan b.of_transactions coords x.others x.world begins.of_transactions (c.accepted_plans_have_schemes_from_any_store.ensures plan b.of_transactions.store accepted) x.run O kept
    (λ t u h. real t u (subst (λ l. IsAnsweredBefore l t u) x.holds.beside.history h)))
