use Rattle.std.proofs.Common.{◌∷◌, ◌+◌, drop, refl, sym, ap, ◌∙◌}
use Rattle.std.proofs.lemmas.Bool.{false≢true}
use Rattle.roc_sequence.proofs.Fronts.{rest_at}
use Rattle.roc_log.specs.declared.line.LogLine.{LogLine}
use Rattle.roc_fold.specs.Inner.Steps.{folding_of}
use Rattle.roc_fold.proofs.Taking.{takes_by_due, refuses_other}
use Rattle.roc_fold.proofs.due.take_due.Goals as goal

pub returns-then-is_same : goal.returns-then-is_same
returns-then-is_same c plan header core =
    let g = c.args.gathered.now in
    let rest = drop (g.at + 1) g.due.items in
    let there = rest_at g.due.items g.at c.index.result.now c.requires ∙ ap (λ (x : LogLine). x ∷ rest) (sym c.index.ensures ∙ sym (c.is_same.ensures.0 c.if-is_same.true)) in
    takes_by_due plan header (folding_of core g) c.args.line.now _ rest there refl

pub returns : goal.returns
returns c plan header core =
    let g = c.args.gathered.now in
    let rest = drop (g.at + 1) g.due.items in
    let there = rest_at g.due.items g.at c.index.result.now c.requires ∙ ap (λ (x : LogLine). x ∷ rest) (sym c.index.ensures) in
    refuses_other plan header (folding_of core g) c.args.line.now c.index.result.now rest there (λ e. false≢true (sym c.if-is_same.false ∙ c.is_same.ensures.1 e))
