use Rattle.std.proofs.Common.{Bool, sym, ap, ◌∙◌}
use Rattle.std.specs.List.{position}
use Rattle.roc_base.specs.TxnId.{is_txn}
use Rattle.roc_coord.specs.declared.transaction.Transaction.{Transaction}
use Rattle.roc_coord.specs.Inner.Kept.{kept_state}
use Rattle.roc_coord.specs.Step.{startok_refusal}
use Rattle.roc_coord.proofs.Among.{place_found}
use Rattle.roc_coord.proofs.Keeping.{kept_set}
use Rattle.roc_sequence.proofs.Holds.{same_element}
use Rattle.roc_coord.proofs.Outcomes.{startok_absent, startok_refused, startok_done}
use Rattle.roc_coord.proofs.pending.startok.Goals as goal

pub returns-in_default-clause-step : goal.returns-in_default-clause-step
returns-in_default-clause-step c =
    let is_own : Transaction → Bool = λ x. is_txn x.id c.args.id in
    let place = ap (position is_own) (sym c.deref.ensures.value) ∙ sym c.place_of.ensures ∙ c.in_default.is in
    λ ids views absent. startok_absent c.args.plan.now (kept_state ids c.args.pending.now.items views) c.args.id c.args.ok c.args.shard c.args.absent c.args.outbox.now place absent

pub returns-in-Some-startok_refusal-clause-step : goal.returns-in-Some-startok_refusal-clause-step
returns-in-Some-startok_refusal-clause-step c =
    let is_own : Transaction → Bool = λ x. is_txn x.id c.args.id in
    let place = ap (position is_own) (sym c.deref.ensures.value) ∙ sym c.place_of.ensures ∙ c.in-Some.is in
    λ ids views absent.
    startok_refused c.args.plan.now (kept_state ids c.args.pending.now.items views) c.args.id c.in-Some.at place c.index.result.now c.index.ensures c.args.ok c.args.shard c.args.outbox.now c.in-Some-startok_refusal.reason
    (sym c.startok_refusal.ensures.reason ∙ c.in-Some-startok_refusal.is)

pub returns-in_err-take_startok-clause-kept : goal.returns-in_err-take_startok-clause-kept
returns-in_err-take_startok-clause-kept c =
    λ ids views kept. kept_set ids.number ids.next ids.unanswered.items c.args.pending.now.items views kept c.in-Some.at c.index_mut.result.now c.take_startok.new.x c.index_mut.ensures.value c.take_startok.ensures.id

pub returns-clause-step : goal.returns-clause-step
returns-clause-step c =
    let is_own : Transaction → Bool = λ x. is_txn x.id c.args.id in
    let xs = c.args.pending.now.items in
    let place = ap (position is_own) (sym c.deref.ensures.value) ∙ sym c.place_of.ensures ∙ c.in-Some.is in
    let one = same_element xs c.in-Some.at c.index_mut.result.now c.index.result.now ((place_found is_own xs c.in-Some.at place).within) c.index_mut.ensures.value c.index.ensures in
    let none = ap (λ x. startok_refusal c.args.plan.now x c.args.ok c.args.shard) one ∙ sym c.startok_refusal.ensures.reason ∙ c.in_default-startok_refusal.is in
    λ ids views absent.
    startok_done c.args.plan.now (kept_state ids xs views) c.args.id c.in-Some.at place c.index_mut.result.now c.index_mut.ensures.value c.args.ok c.args.shard c.args.outbox.now c.take_startok.new.outbox c.take_startok.new.x c.requires.rising none
    c.in_ok-take_startok.ensures.kept c.take_startok.ensures.id c.in_ok-take_startok.ensures.sent

pub returns-clause-kept : goal.returns-clause-kept
returns-clause-kept c =
    λ ids views kept. kept_set ids.number ids.next ids.unanswered.items c.args.pending.now.items views kept c.in-Some.at c.index_mut.result.now c.take_startok.new.x c.index_mut.ensures.value c.take_startok.ensures.id
