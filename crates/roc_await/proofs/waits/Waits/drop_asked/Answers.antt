use Rattle.std.proofs.Common.{List, not, filter, sym, subst}
use Rattle.roc_sequence.specs.Places.{is_listed}
use Rattle.roc_base.specs.declared.id.TxnId.{TxnId}
use Rattle.roc_base.specs.TxnId.{is_txn}
use Rattle.roc_step.specs.declared.waits.OpenFetch.{OpenFetch}
use Rattle.roc_step.specs.Waits.{AreKept}
use Rattle.roc_await.proofs.OpenFetches.{kept_without_asked}
use Rattle.roc_await.proofs.waits.Waits.drop_asked.Goals as goal

pub invariant_of-self : goal.invariant_of-self
invariant_of-self c =
    let w = c.self.inside in
    let ids : List TxnId = c.args.ids.now in
    let Asked : List OpenFetch → Type 0 = λ xs. AreKept xs w.askers.items c.keep_others-2.new.all.items in
    let Open : List OpenFetch → Type 0 = λ xs. AreKept (filter (λ (a : OpenFetch). not (is_listed is_txn ids a.id)) w.asked.items) w.askers.items xs in
    subst Asked (sym c.keep_others.ensures.items)
    (subst Open (sym c.keep_others-2.ensures.items) (kept_without_asked w.asked.items w.askers.items w.fetches.items c.self.invariant (λ (id : TxnId). is_listed is_txn ids id)))
