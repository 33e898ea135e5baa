use Rattle.std.proofs.Common.{◌≡◌, ℕ, List, length, take, sym, subst, ◌∙◌}
use Rattle.std.specs.Borrow.{Bor}
use Rattle.roc_log.specs.Words.{without_empty_last}
use Rattle.roc_log.specs.Inner.Given.{views}
use Rattle.roc_log.proofs.LineParts.{empty_last, full_last}
use Rattle.roc_log.proofs.parts.line_count.Goals as goal

pub returns-then-is_empty-clause-lines : goal.returns-then-is_empty-clause-lines
returns-then-is_empty-clause-lines c =
    subst (λ (all : List (Bor (List ℕ))). take (length c.in-Some.front.now) (views all) ≡ without_empty_last (views all)) (sym c.in-Some.ensures.cases.0)
    (empty_last c.in-Some.front.now c.in-Some.last.now (sym c.is_empty.ensures ∙ c.if-is_empty.true))

pub returns-else-is_empty-clause-lines : goal.returns-else-is_empty-clause-lines
returns-else-is_empty-clause-lines c =
    subst (λ (all : List (Bor (List ℕ))). take (length all) (views all) ≡ without_empty_last (views all)) (sym c.in-Some.ensures.cases.0)
    (full_last c.in-Some.front.now c.in-Some.last.now (sym c.is_empty.ensures ∙ c.if-is_empty.false))
