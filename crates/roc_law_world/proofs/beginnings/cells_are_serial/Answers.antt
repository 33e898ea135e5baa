use Rattle.std.proofs.Common.{◌≡◌, ◌∙◌, ℤ, List, Some, sym, ap, subst}
use Rattle.std.specs.Prelude.{slice_get}
use Rattle.roc_sequence.specs.Places.{IsListed}
use Rattle.roc_base.specs.declared.id.TxnId.{TxnId}
use Rattle.roc_base.specs.TxnId.{is_txn}
use Rattle.roc_rows.specs.Store.{Store, read}
use Rattle.roc_plan.specs.Groups.{shard_of}
use Rattle.roc_whole.specs.Serial.{serial_store}
use Rattle.roc_audit.specs.History.{WasSubmitted, WasAnswered}
use Rattle.roc_audit.specs.Witness.{submitted_calls}
use Rattle.roc_audit.specs.Woven.{without_views}
use Rattle.roc_law_world.proofs.LooksLeave.{answered_beside, witness_leaves}
use Rattle.roc_law_world.proofs.WovenOrder.{is_view, tells_them, run_beside}
use Rattle.roc_law_world.proofs.beginnings.cells_are_serial.Goals as goal

pub returns : goal.returns
returns c plan b coords steps w accepted begins run all x s there =
    let v = is_view plan b coords steps w run in
    let tells = tells_them plan b coords steps w run in
    let r = run_beside plan b coords steps w run in
    let schemes = c.accepted_plans_have_schemes_from_any_store.ensures plan b.of_transactions.store accepted in
    let submitted : ((t : TxnId) → IsListed is_txn w.order t → WasSubmitted (without_views v w.history) t) =
    λ t h. subst (λ l. WasSubmitted l t) r.holds.beside.history
    ((c.order_is_serial.ensures plan b.of_transactions coords r.others r.world begins.of_transactions schemes r.run).submitted t (subst (λ l. IsListed is_txn l t) (sym r.holds.beside.order) h)) in
    let answered : ((t : TxnId) → WasSubmitted r.world.history t → (reply : List ℤ) × WasAnswered r.world.history t reply) =
    subst (λ l. (t : TxnId) → WasSubmitted l t → (reply : List ℤ) × WasAnswered l t reply) (sym r.holds.beside.history) (answered_beside plan v w.history tells all) in
    c.cells_are_serial.ensures plan b.of_transactions coords r.others r.world begins.of_transactions schemes r.run answered x s (subst (λ l. slice_get l (shard_of plan x.place) ≡ Some s) (sym r.holds.beside.servers) there)
    ∙ ap (λ (store : Store). read store x)
    ((λ i. serial_store plan.program b.of_transactions.store (submitted_calls (r.holds.beside.history i) (r.holds.beside.order i)))
    ∙ sym (witness_leaves plan b coords v steps w accepted run tells submitted b.of_transactions.store))
