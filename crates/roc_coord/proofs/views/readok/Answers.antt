use Rattle.std.proofs.Common.{Bool, not, filter, List, set, refl, sym, ap, subst, ◌∙◌}
use Rattle.std.specs.List.{position, AllByRecursion}
use Rattle.roc_base.specs.declared.id.TxnId.{TxnId}
use Rattle.roc_base.specs.TxnId.{is_txn}
use Rattle.roc_msg.specs.Outbox.{HasSent}
use Rattle.roc_readonly.specs.declared.view.View.{View}
use Rattle.roc_readonly.specs.Fits.{IsViewOf}
use Rattle.roc_readonly.specs.Round.{readok_refusal, round_of, with_readok}
use Rattle.roc_coord.specs.declared.marks.Rise.{Rise}
use Rattle.roc_coord.specs.declared.handled.Handled.TheVariants.{Answered}
use Rattle.roc_coord.specs.State.{find_view, CoordState}
use Rattle.roc_coord.specs.Step.{IsOutcome, after_readok}
use Rattle.roc_coord.specs.Inner.Kept.{kept_state}
use Rattle.roc_coord.specs.Inner.Reads.{round_sends}
use Rattle.roc_coord.proofs.Among.{place_found, set-same}
use Rattle.roc_coord.proofs.Keeping.{on_err, views_set, views_without, all_filter}
use Rattle.roc_sequence.proofs.Holds.{same_element, all_at, all_set}
use Rattle.roc_coord.proofs.Outcomes.{readok_absent, readok_refused, readok_done, readok_answered}
use Rattle.roc_coord.proofs.views.readok.Goals as goal

pub returns-in_default-clause-step : goal.returns-in_default-clause-step
returns-in_default-clause-step c =
    let is_own : View → Bool = λ v. is_txn v.id c.args.id in
    let place = ap (position is_own) (sym c.deref.ensures.value) ∙ sym c.place_of.ensures ∙ c.in_default.is in
    λ pending absent. readok_absent c.args.plan.now (kept_state c.args.ids.now pending c.args.views.now.items) c.args.id c.args.round c.args.ok c.args.shard c.args.absent c.args.outbox.now place absent

pub returns-in-Some-2-clause-step : goal.returns-in-Some-2-clause-step
returns-in-Some-2-clause-step c =
    let is_own : View → Bool = λ v. is_txn v.id c.args.id in
    let place = ap (position is_own) (sym c.deref.ensures.value) ∙ sym c.place_of.ensures ∙ c.in-Some.is in
    λ pending absent.
    readok_refused c.args.plan.now (kept_state c.args.ids.now pending c.args.views.now.items) c.args.id c.in-Some.at place c.index.result.now c.index.ensures c.args.round c.args.ok c.args.shard c.args.outbox.now c.in-Some-2.reason
    (sym c.in_ok-reason.ensures ∙ c.in-Some-2.is)

pub take_readok-requires : goal.take_readok-requires
take_readok-requires c =
    let is_own : View → Bool = λ v. is_txn v.id c.args.id in
    let vs = c.args.views.now.items in
    let v = c.index_mut.result.now in
    let is_of : View → Type 0 = λ v. IsViewOf c.args.plan.now v in
    let place = ap (position is_own) (sym c.deref.ensures.value) ∙ sym c.place_of.ensures ∙ c.in-Some.is in
    subst is_of (sym c.index_mut.ensures.value) (all_at is_of vs c.in-Some.at v c.requires.fits ((place_found is_own vs c.in-Some.at place).within))

pub returns-in_err-take_readok-clause-err : goal.returns-in_err-take_readok-clause-err
returns-in_err-take_readok-clause-err c =
    let same = set-same c.args.views.now.items c.in-Some.at c.index_mut.result.now c.take_readok.new.v c.index_mut.ensures.value c.in_err-take_readok.ensures.err.0 in
    on_err c.from_residual-in_err-take_readok.result (refl, same, c.in_err-take_readok.ensures.err.1)

pub returns-in_err-take_readok-clause-kept : goal.returns-in_err-take_readok-clause-kept
returns-in_err-take_readok-clause-kept c =
    λ pending kept. views_set _ _ _ pending c.args.views.now.items kept c.in-Some.at c.index_mut.result.now c.take_readok.new.v c.index_mut.ensures.value c.take_readok.ensures.id

pub returns-in-None-clause-step : goal.returns-in-None-clause-step
returns-in-None-clause-step c =
    let is_own : View → Bool = λ v. is_txn v.id c.args.id in
    let plan = c.args.plan.now in
    let vs = c.args.views.now.items in
    let v = c.index_mut.result.now in
    let place = ap (position is_own) (sym c.deref.ensures.value) ∙ sym c.place_of.ensures ∙ c.in-Some.is in
    let one = same_element vs c.in-Some.at v c.index.result.now ((place_found is_own vs c.in-Some.at place).within) c.index_mut.ensures.value c.index.ensures in
    let none = ap (λ x. readok_refusal plan x c.args.round c.args.ok c.args.shard) one ∙ sym c.in_ok-reason.ensures ∙ c.in_default-2.is in
    let are_sent : Rise → Type 0 = λ rise. HasSent c.args.outbox.now c.take_readok.new.outbox (round_sends plan rise (round_of plan (with_readok v c.args.ok)) (with_readok v c.args.ok)) in
    λ pending absent.
    readok_done plan (kept_state c.args.ids.now pending vs) c.args.id c.in-Some.at place v c.index_mut.ensures.value c.args.round c.args.ok c.args.shard c.args.outbox.now c.take_readok.new.outbox c.take_readok.new.v
    c.requires.rising none c.in_ok-take_readok.ensures.kept (sym c.in_ok-take_readok.ensures.reply ∙ c.in-None.is) (subst are_sent c.rise_of-rise.ensures c.in_ok-take_readok.ensures.sent)

pub returns-in-None-clause-kept : goal.returns-in-None-clause-kept
returns-in-None-clause-kept c =
    λ pending kept. views_set _ _ _ pending c.args.views.now.items kept c.in-Some.at c.index_mut.result.now c.take_readok.new.v c.index_mut.ensures.value c.take_readok.ensures.id

pub returns-in-Some-3-clause-step : goal.returns-in-Some-3-clause-step
returns-in-Some-3-clause-step c =
    let is_own : View → Bool = λ v. is_txn v.id c.args.id in
    let plan = c.args.plan.now in
    let vs = c.args.views.now.items in
    let v = c.index_mut.result.now in
    let place = ap (position is_own) (sym c.deref.ensures.value) ∙ sym c.place_of.ensures ∙ c.in-Some.is in
    let one = same_element vs c.in-Some.at v c.index.result.now ((place_found is_own vs c.in-Some.at place).within) c.index_mut.ensures.value c.index.ensures in
    let none = ap (λ x. readok_refusal plan x c.args.round c.args.ok c.args.shard) one ∙ sym c.in_ok-reason.ensures ∙ c.in_default-2.is in
    let are_sent : Rise → Type 0 = λ rise. HasSent c.args.outbox.now c.take_readok.new.outbox (round_sends plan rise (round_of plan (with_readok v c.args.ok)) (with_readok v c.args.ok)) in
    λ pending absent.
    let s : CoordState = kept_state c.args.ids.now pending vs in
    let is_outcome : List View → List TxnId → Type 0 = λ rest ids. IsOutcome (after_readok plan s c.args.id (find_view c.args.id vs) c.args.round c.args.ok c.args.shard) (Answered c.args.id c.in-Some-3.reply) (record s { views = rest; unanswered = ids }) c.args.outbox.now c.take_readok.new.outbox in
    let others = filter (λ u. not (is_txn u c.args.id)) c.args.ids.now.unanswered.items in
    subst (λ ids. is_outcome c.drop_view.new.views.items ids) (sym c.drop_id.ensures)
    (subst (λ rest. is_outcome rest others) (sym c.drop_view.ensures)
    (readok_answered plan s c.args.id c.in-Some.at place v c.index_mut.ensures.value c.args.round c.args.ok c.args.shard c.args.outbox.now c.take_readok.new.outbox c.take_readok.new.v c.in-Some-3.reply none c.in_ok-take_readok.ensures.kept
    (sym c.in_ok-take_readok.ensures.reply ∙ c.in-Some-3.is) (subst are_sent c.rise_of-rise.ensures c.in_ok-take_readok.ensures.sent)))

pub returns-in-Some-3-clause-kept : goal.returns-in-Some-3-clause-kept
returns-in-Some-3-clause-kept c =
    λ pending kept.
    let changed = views_set _ _ _ pending c.args.views.now.items kept c.in-Some.at c.index_mut.result.now c.take_readok.new.v c.index_mut.ensures.value c.take_readok.ensures.id in
    views_without _ _ c.args.ids.now.unanswered.items pending (set c.args.views.now.items c.in-Some.at c.take_readok.new.v) changed c.args.id _ c.drop_id.ensures _ c.drop_view.ensures

pub returns-in-Some-3-clause-fits : goal.returns-in-Some-3-clause-fits
returns-in-Some-3-clause-fits c =
    let is_of : View → Type 0 = λ v. IsViewOf c.args.plan.now v in
    let are_of : List View → Type 0 = λ vs. AllByRecursion is_of vs in
    let changed = set c.args.views.now.items c.in-Some.at c.take_readok.new.v in
    subst are_of (sym c.drop_view.ensures) (all_filter is_of (λ v. not (is_txn v.id c.args.id)) changed (all_set is_of c.args.views.now.items c.in-Some.at c.take_readok.new.v c.requires.fits c.take_readok.ensures.fits))
