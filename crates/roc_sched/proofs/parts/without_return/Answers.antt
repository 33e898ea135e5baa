use Rattle.std.proofs.Common.{sym, ap, ◌∙◌, rules, tests}
use Rattle.roc_sched.specs.Lines.{without_return}
use Rattle.roc_sched.proofs.Cuts.{without_return-cr, without_return-other}
use Rattle.roc_sched.proofs.parts.without_return.Goals as goal

pub returns-then-last-eq13 : goal.returns-then-last-eq13
returns-then-last-eq13 c = sym (ap without_return c.in-Some.ensures.cases.0 ∙ without_return-cr c.in-Some.front.now c.in-Some.last.now (search (rules, tests)))

pub returns-else-last-eq13 : goal.returns-else-last-eq13
returns-else-last-eq13 c =
    let whole = c.in-Some.ensures.cases.0 in
    whole ∙ sym (ap without_return whole ∙ without_return-other c.in-Some.front.now c.in-Some.last.now (search (rules, tests)))
