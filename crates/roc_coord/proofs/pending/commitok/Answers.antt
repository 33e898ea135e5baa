use Rattle.std.proofs.Common.{ℤ, Bool, not, filter, List, Option, set, sym, ap, subst, ◌∙◌}
use Rattle.std.specs.List.{position, AllByRecursion}
use Rattle.roc_base.specs.declared.id.TxnId.{TxnId}
use Rattle.roc_base.specs.TxnId.{is_txn}
use Rattle.roc_msg.specs.Outbox.{HasSent}
use Rattle.roc_coord.specs.declared.marks.Rise.{Rise}
use Rattle.roc_coord.specs.declared.handled.Handled.TheVariants.{Answered}
use Rattle.roc_coord.specs.declared.transaction.Transaction.{Transaction}
use Rattle.roc_coord.specs.Fits.{IsTransactionOf}
use Rattle.roc_coord.specs.State.{find_transaction, CoordState}
use Rattle.roc_coord.specs.Step.{IsOutcome, after_commitok, commitok_refusal}
use Rattle.roc_coord.specs.Inner.Kept.{kept_state}
use Rattle.roc_coord.specs.Inner.Rises.{rise_sends, reply_sends}
use Rattle.roc_coord.proofs.Among.{place_found}
use Rattle.roc_coord.proofs.Keeping.{kept_set, kept_without, all_filter}
use Rattle.roc_sequence.proofs.Holds.{same_element, all_set}
use Rattle.roc_coord.proofs.Outcomes.{commitok_absent, commitok_refused, commitok_done, commitok_answered}
use Rattle.roc_coord.proofs.pending.commitok.Goals as goal

pub returns-in_default-clause-step : goal.returns-in_default-clause-step
returns-in_default-clause-step c =
    let is_own : Transaction → Bool = λ x. is_txn x.id c.args.id in
    let place = ap (position is_own) (sym c.deref.ensures.value) ∙ sym c.place_of.ensures ∙ c.in_default.is in
    λ views absent. commitok_absent c.args.plan.now (kept_state c.args.ids.now c.args.pending.now.items views) c.args.id c.args.ok c.args.absent c.args.outbox.now place absent

pub returns-in-Some-2-clause-step : goal.returns-in-Some-2-clause-step
returns-in-Some-2-clause-step c =
    let is_own : Transaction → Bool = λ x. is_txn x.id c.args.id in
    let place = ap (position is_own) (sym c.deref.ensures.value) ∙ sym c.place_of.ensures ∙ c.in-Some.is in
    λ views absent.
    commitok_refused c.args.plan.now (kept_state c.args.ids.now c.args.pending.now.items views) c.args.id c.in-Some.at place c.index.result.now c.index.ensures c.args.ok c.args.outbox.now c.in-Some-2.reason
    (sym c.in_ok-reason.ensures ∙ c.in-Some-2.is)

pub returns-in_err-take_commitok-clause-kept : goal.returns-in_err-take_commitok-clause-kept
returns-in_err-take_commitok-clause-kept c =
    λ views kept. kept_set _ _ _ c.args.pending.now.items views kept c.in-Some.at c.index_mut.result.now c.take_commitok.new.x c.index_mut.ensures.value c.take_commitok.ensures.id

pub returns-in-None-clause-step : goal.returns-in-None-clause-step
returns-in-None-clause-step c =
    let is_own : Transaction → Bool = λ x. is_txn x.id c.args.id in
    let xs = c.args.pending.now.items in
    let place = ap (position is_own) (sym c.deref.ensures.value) ∙ sym c.place_of.ensures ∙ c.in-Some.is in
    let one = same_element xs c.in-Some.at c.index_mut.result.now c.index.result.now ((place_found is_own xs c.in-Some.at place).within) c.index_mut.ensures.value c.index.ensures in
    let none = ap (λ x. commitok_refusal c.args.plan.now x c.args.ok) one ∙ sym c.in_ok-reason.ensures ∙ c.in_default-2.is in
    let are_sent : Option (List ℤ) → Type 0 = λ reply. HasSent c.args.outbox.now c.take_commitok.new.outbox (reply_sends c.args.plan.now c.rise_of-rise.result reply) in
    λ views absent.
    commitok_done c.args.plan.now (kept_state c.args.ids.now xs views) c.args.id c.in-Some.at place c.index_mut.result.now c.index_mut.ensures.value c.args.ok c.args.outbox.now c.take_commitok.new.outbox c.take_commitok.new.x
    c.requires.rising none c.in_ok-take_commitok.ensures.kept (sym c.in_ok-take_commitok.ensures.reply ∙ c.in-None.is) (subst are_sent c.in-None.is c.in_ok-take_commitok.ensures.sent)

pub returns-in-None-clause-kept : goal.returns-in-None-clause-kept
returns-in-None-clause-kept c =
    λ views kept. kept_set _ _ _ c.args.pending.now.items views kept c.in-Some.at c.index_mut.result.now c.take_commitok.new.x c.index_mut.ensures.value c.take_commitok.ensures.id

pub returns-in-Some-3-clause-step : goal.returns-in-Some-3-clause-step
returns-in-Some-3-clause-step c =
    let is_own : Transaction → Bool = λ x. is_txn x.id c.args.id in
    let plan = c.args.plan.now in
    let xs = c.args.pending.now.items in
    let at = c.in-Some.at in
    let y = c.take_commitok.new.x in
    let place = ap (position is_own) (sym c.deref.ensures.value) ∙ sym c.place_of.ensures ∙ c.in-Some.is in
    let one = same_element xs at c.index_mut.result.now c.index.result.now ((place_found is_own xs at place).within) c.index_mut.ensures.value c.index.ensures in
    let none = ap (λ x. commitok_refusal plan x c.args.ok) one ∙ sym c.in_ok-reason.ensures ∙ c.in_default-2.is in
    let are_sent : Option (List ℤ) → Type 0 = λ reply. HasSent c.args.outbox.now c.take_commitok.new.outbox (reply_sends plan c.rise_of-rise.result reply) in
    let are_told : Rise → Type 0 = λ rise. HasSent c.args.outbox.now c.take_commitok.new.outbox (rise_sends plan rise) in
    λ views absent.
    let s : CoordState = kept_state c.args.ids.now xs views in
    let is_outcome : List Transaction → List TxnId → Type 0 = λ rest ids. IsOutcome (after_commitok plan s c.args.id (find_transaction c.args.id xs) c.args.ok) (Answered c.args.id c.in-Some-3.reply) (record s { pending = rest; unanswered = ids }) c.args.outbox.now c.take_commitok.new.outbox in
    let others = filter (λ u. not (is_txn u c.args.id)) c.args.ids.now.unanswered.items in
    subst (λ ids. is_outcome c.drop_transaction.new.pending.items ids) (sym c.drop_id.ensures)
    (subst (λ rest. is_outcome rest others) (sym c.drop_transaction.ensures)
    (commitok_answered plan s c.args.id at place c.index_mut.result.now c.index_mut.ensures.value c.args.ok c.args.outbox.now c.take_commitok.new.outbox y c.in-Some-3.reply none c.in_ok-take_commitok.ensures.kept
    (sym c.in_ok-take_commitok.ensures.reply ∙ c.in-Some-3.is) (subst are_told c.rise_of-rise.ensures (subst are_sent c.in-Some-3.is c.in_ok-take_commitok.ensures.sent))))

pub returns-in-Some-3-clause-kept : goal.returns-in-Some-3-clause-kept
returns-in-Some-3-clause-kept c =
    λ views kept.
    let changed = kept_set _ _ _ c.args.pending.now.items views kept c.in-Some.at c.index_mut.result.now c.take_commitok.new.x c.index_mut.ensures.value c.take_commitok.ensures.id in
    kept_without _ _ c.args.ids.now.unanswered.items (set c.args.pending.now.items c.in-Some.at c.take_commitok.new.x) views changed c.args.id _ c.drop_id.ensures _ c.drop_transaction.ensures

pub returns-in-Some-3-clause-fits : goal.returns-in-Some-3-clause-fits
returns-in-Some-3-clause-fits c =
    let is_of : Transaction → Type 0 = λ x. IsTransactionOf c.args.plan.now x in
    let are_of : List Transaction → Type 0 = λ xs. AllByRecursion is_of xs in
    let changed = set c.args.pending.now.items c.in-Some.at c.take_commitok.new.x in
    subst are_of (sym c.drop_transaction.ensures) (all_filter is_of (λ x. not (is_txn x.id c.args.id)) changed (all_set is_of c.args.pending.now.items c.in-Some.at c.take_commitok.new.x c.requires.fits c.take_commitok.ensures.fits))
