use Rattle.std.proofs.Common.{◌∷◌, sym, ap, ◌∙◌, rules, tests}
use Rattle.roc_sched.specs.Lines.{lines_of}
use Rattle.roc_sched.specs.Inner.Reading.{parts_behind}
use Rattle.roc_sched.proofs.Cuts.{lines_more, lines_last, lines_end}
use Rattle.roc_sched.proofs.parts.first_line.Goals as goal

pub returns-in-Some-clause-lines : goal.returns-in-Some-clause-lines
returns-in-Some-clause-lines c =
    let parts = c.cut.ensures.parts ∙ ap (λ behind. c.cut.result.0.now ∷ parts_behind 10 behind) c.in-Some.is in
    lines_more c.args.text.now c.cut.result.0.now c.in-Some.rest.now parts ∙ ap (λ line. line ∷ lines_of c.in-Some.rest.now) (sym c.without_return.ensures)

pub returns-then-is_empty-clause-lines : goal.returns-then-is_empty-clause-lines
returns-then-is_empty-clause-lines c =
    let parts = c.cut.ensures.parts ∙ ap (λ behind. c.cut.result.0.now ∷ parts_behind 10 behind) c.in-None.is in
    lines_end c.args.text.now c.cut.result.0.now parts (search (rules, tests))

pub returns-else-is_empty-clause-lines : goal.returns-else-is_empty-clause-lines
returns-else-is_empty-clause-lines c =
    let parts = c.cut.ensures.parts ∙ ap (λ behind. c.cut.result.0.now ∷ parts_behind 10 behind) c.in-None.is in
    lines_last c.args.text.now c.cut.result.0.now parts (search (rules, tests))
