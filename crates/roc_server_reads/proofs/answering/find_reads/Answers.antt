use Rattle.std.proofs.Common.{◌≡◌, ◌∙◌, ◌++◌, Bool, List, Option, not, map, filter, Some, sym, ap, subst, append-nil}
use Rattle.std.specs.Prelude.{IsSome}
use Rattle.std.specs.List.{AllByRecursion}
use Rattle.roc_msg.specs.Outbox.{HasSent}
use Rattle.roc_server_index.specs.declared.group_ref.GroupRef.{GroupRef}
use Rattle.roc_step.specs.declared.kept_read.KeptRead.{KeptRead}
use Rattle.roc_step.specs.Fits.{AreReadsOf, IsReadOf}
use Rattle.roc_server_reads.specs.Answering.{read_in, readok_over}
use Rattle.roc_server_reads.specs.Behind.{is_free_behind, AreHolders}
use Rattle.roc_server_reads.specs.Inner.Parts.{one_more, unless_kept}
use Rattle.roc_server_reads.specs.Views.{viewing_of}
use Rattle.roc_step.specs.Reads.{in_turn, reads_with, with_accesses}
use Rattle.roc_server_reads.proofs.Parting.{none_unheld}
use Rattle.roc_server_reads.proofs.ReadsOfPlan.{reads_are, some_hold, with_fits}
use Rattle.roc_server_reads.proofs.ReadSteps.{none_ignored, finds_none, finds_reads}
use Rattle.roc_server_reads.proofs.answering.find_reads.Goals as goal

pub returns-then-not-is_taken-clause-step : goal.returns-then-not-is_taken-clause-step
returns-then-not-is_taken-clause-step g c =
    none_ignored c.args.plan.now c.args.shard c.args.behind.now (viewing_of c.args.views.now) c.args.msg.now c.args.answer c.args.sends.now (sym c.is_taken.ensures ∙ c.if-not-is_taken.true)

pub returns-then-all_stay-clause-step : goal.returns-then-all_stay-clause-step
returns-then-all_stay-clause-step g c =
    let stay = c.all_stay.ensures c.if-all_stay.true in
    let plan = c.args.plan.now in
    let b = c.args.behind.now in
    let msg = c.args.msg.now in
    let answer = c.args.answer in
    let reads = c.args.views.now.reads.items in
    let new_is : c.unless_kept-new.result ≡ unless_kept reads (read_in msg answer) = c.unless_kept-new.ensures ∙ (λ i. unless_kept (c.as_slice.ensures.value i) (c.in_ok-read.ensures i)) in
    let holders = c.in_ok-holders.holders.items in
    let are : AreHolders plan b reads holders = subst (λ qs. AreHolders plan b qs holders) c.as_slice-2.ensures.value c.in_ok-holders.ensures.holders in
    finds_none plan c.args.shard b (viewing_of c.args.views.now) msg answer c.args.sends.now
    (reads_are msg answer reads ∙ ap (λ (n : Option KeptRead). reads ++ one_more n) (sym new_is ∙ stay.0) ∙ append-nil reads)
    (none_unheld plan b reads holders are (subst (λ (hs : List (Option GroupRef)). AllByRecursion IsSome hs) c.as_slice-4.ensures.value stay.1))
    (sym c.is_taken.ensures ∙ c.if-not-is_taken.false)

pub answer_free-requires : goal.answer_free-requires
answer_free-requires g c =
    let plan = c.args.plan.now in
    let free = is_free_behind plan c.args.behind.now in
    let msg = c.args.msg.now in
    let answer = c.args.answer in
    let reads = c.args.views.now.reads.items in
    let new_is : c.unless_kept-new.result ≡ unless_kept reads (read_in msg answer) = c.unless_kept-new.ensures ∙ (λ i. unless_kept (c.as_slice.ensures.value i) (c.in_ok-read.ensures i)) in
    subst (AreReadsOf plan)
    (ap (filter free) (reads_are msg answer reads ∙ (λ i. sym c.as_slice-5.ensures.value i ++ one_more (sym new_is i))) ∙ sym c.in_ok-free.ensures.free)
    (some_hold (IsReadOf plan) free (reads_with msg answer reads) (with_fits plan msg answer reads c.requires.taken c.requires.fits))

pub returns-clause-step : goal.returns-clause-step
returns-clause-step g c =
    let plan = c.args.plan.now in
    let b = c.args.behind.now in
    let free = is_free_behind plan b in
    let msg = c.args.msg.now in
    let answer = c.args.answer in
    let reads = c.args.views.now.reads.items in
    let new_is : c.unless_kept-new.result ≡ unless_kept reads (read_in msg answer) = c.unless_kept-new.ensures ∙ (λ i. unless_kept (c.as_slice.ensures.value i) (c.in_ok-read.ensures i)) in
    let all = c.as_slice-5.result.now ++ one_more c.unless_kept-new.result in
    let old = c.args.sends.now in
    finds_reads plan c.args.shard b (viewing_of c.args.views.now) msg answer old c.answer_free.new.sends (Some c.in_ok-free.field-0.stays) all
    (reads_are msg answer reads ∙ (λ i. sym c.as_slice-5.ensures.value i ++ one_more (sym new_is i))) c.in_ok-free.ensures.stays
    (subst (λ counts. HasSent old c.answer_free.new.sends (map (readok_over plan c.args.shard b.store (with_accesses counts old.ran)) (in_turn (filter free all)))) c.reserve_counts.ensures.same
    (subst (λ qs. HasSent old c.answer_free.new.sends (map (readok_over plan c.args.shard b.store (with_accesses c.reserve_counts.new.versions.counts old.ran)) (in_turn qs)))
    c.in_ok-free.ensures.free c.in_ok-answer_free.ensures))
    (sym c.is_taken.ensures ∙ c.if-not-is_taken.false)

pub returns-clause-fits : goal.returns-clause-fits
returns-clause-fits g c =
    let plan = c.args.plan.now in
    let stays : KeptRead → Bool = λ q. not (is_free_behind plan c.args.behind.now q) in
    let msg = c.args.msg.now in
    let answer = c.args.answer in
    let reads = c.args.views.now.reads.items in
    let new_is : c.unless_kept-new.result ≡ unless_kept reads (read_in msg answer) = c.unless_kept-new.ensures ∙ (λ i. unless_kept (c.as_slice.ensures.value i) (c.in_ok-read.ensures i)) in
    subst (AreReadsOf plan)
    (ap (filter stays) (reads_are msg answer reads ∙ (λ i. sym c.as_slice-5.ensures.value i ++ one_more (sym new_is i))) ∙ sym c.in_ok-free.ensures.stays)
    (some_hold (IsReadOf plan) stays (reads_with msg answer reads) (with_fits plan msg answer reads c.requires.taken c.requires.fits))
