use Rattle.std.proofs.Common.{◌≡◌, ◌∙◌, length, arith, sym, subst}
use Rattle.roc_sequence.proofs.Fronts.{no_elements}
use Rattle.roc_component.specs.Inner.Search.{IsSearchOver, IsStep}
use Rattle.roc_component.proofs.search.Search.advance.Goals as goal

pub returns-in-Some-2 : goal.returns-in-Some-2
returns-in-Some-2 c known S s =
    let p = subst (λ l. IsSearchOver known S c.args.met.now c.steps.self l) c.in-Some.ensures.items (c.steps.invariant known S s) in
    subst (IsStep known S c.args.met.now c.step.new.self) c.in-Some-2.is (c.in_ok-new.ensures.search known S p)

pub steps-preserved : goal.steps-preserved
steps-preserved c known S s =
    let p = subst (λ l. IsSearchOver known S c.args.met.now c.steps.self l) c.in-Some.ensures.items (c.steps.invariant known S s) in
    subst (IsStep known S c.args.met.now c.step.new.self) c.in_default-2.is (c.in_ok-new.ensures.search known S p)

pub returns : goal.returns
returns c known S s =
    let old : length c.steps.self.path.items ≡ 0 = omega (arith, c.steps.self.path.ok, c.in_default.ensures.cases.0) in
    let new : length c.pop.new.self.items ≡ 0 = omega (arith, c.pop.new.self.ok, c.in_default.ensures.cases.1) in
    let e = no_elements c.pop.new.self.items new in
    (subst (λ l. IsSearchOver known S c.args.met.now c.steps.self l) (no_elements c.steps.self.path.items old ∙ sym e) (c.steps.invariant known S s), e)
