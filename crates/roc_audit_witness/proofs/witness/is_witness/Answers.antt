use Rattle.std.proofs.Common.{◌∙◌, List, ap, sym, map}
use Rattle.std.proofs.lemmas.Bool.{false≢true}
use Rattle.roc_audit_witness.specs.declared.runs.Replied.{Replied}
use Rattle.roc_audit_witness.specs.Inner.Tests.{answer_of}
use Rattle.roc_audit_witness.proofs.Words.{test_from_once, test_from_all_submitted, all_times}
use Rattle.roc_audit_witness.proofs.Serial.{witness_from_tests, test_replies}
use Rattle.roc_audit_witness.proofs.witness.is_witness.Goals as goal

pub returns-then-not-is_once : goal.returns-then-not-is_once
returns-then-not-is_once c = (λ e. absurd (false≢true e), λ is. absurd (false≢true (sym c.if-not-is_once.true ∙ (c.is_once.ensures ∙ test_from_once c.args.order.now is.once))))

pub returns-then-not-are_submitted : goal.returns-then-not-are_submitted
returns-then-not-are_submitted c =
    (λ e. absurd (false≢true e), λ is. absurd (false≢true (sym c.if-not-are_submitted.true ∙ (c.are_submitted.ensures ∙ test_from_all_submitted c.args.history.now c.args.order.now is.submitted))))

pub returns-then-not-keeps_real_time : goal.returns-then-not-keeps_real_time
returns-then-not-keeps_real_time c =
    (λ e. absurd (false≢true e), λ is. absurd (false≢true (sym c.if-not-keeps_real_time.true ∙ (c.keeps_real_time.ensures ∙ all_times c.args.order.now c.args.history.now is.real_time))))

pub returns : goal.returns
returns c =
    let ran = ap (λ (rs : List Replied). map answer_of rs) c.deref.ensures.value ∙ c.in_ok-replies.ensures in (
      λ e. witness_from_tests c.args.workload.now c.args.history.now c.args.order.now c.deref.result.now ran
          (sym c.is_once.ensures ∙ c.if-not-is_once.false) (sym c.are_submitted.ensures ∙ c.if-not-are_submitted.false) (sym c.keeps_real_time.ensures ∙ c.if-not-keeps_real_time.false) (sym c.are_replies.ensures ∙ e),
      λ is. c.are_replies.ensures ∙ test_replies c.args.workload.now c.args.history.now c.args.order.now c.deref.result.now ran is,
    )
