use Rattle.std.proofs.Common.{sym, ◌∙◌}
use Rattle.std.proofs.lemmas.Bool.{false≢true}
use Rattle.roc_witness.proofs.Tests.{first_again, first_once}
use Rattle.roc_witness.proofs.cycle.are_distinct.Goals as goal

pub returns-then-is_among : goal.returns-then-is_among
returns-then-is_among c = (
  λ h. absurd (false≢true h),
  λ once. absurd (first_again c.in-Some.first.now c.in-Some.behind.now c.loop-first.rest.now c.in-Some.ensures.cases.0 (sym c.is_among.ensures ∙ c.if-is_among.true) (c.loop-first.invariant.0 once)),
)

pub loop-first-preserved : goal.loop-first-preserved
loop-first-preserved c =
    let step = first_once c.in-Some.first.now c.in-Some.behind.now c.loop-first.rest.now c.in-Some.ensures.cases.0 (sym c.is_among.ensures ∙ c.if-is_among.false) in
    (λ once. step.0 (c.loop-first.invariant.0 once), λ once. c.loop-first.invariant.1 (step.1 once))
