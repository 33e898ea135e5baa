use Rattle.std.proofs.Common.{◌+◌, ◌∷◌, take, sym, ap, ◌∙◌}
use Rattle.std.proofs.lemmas.List.{take_rest}
use Rattle.roc_sched.specs.Lines.{parts_of}
use Rattle.roc_sched.proofs.Cuts.{cut_found, cut_none}
use Rattle.roc_sched.proofs.parts.cut.Goals as goal

pub returns-in-Some-clause-parts : goal.returns-in-Some-clause-parts
returns-in-Some-clause-parts c =
    let text = c.args.text.now in
    let found = cut_found c.args.separator c.in-Some.at text (sym c.in-Some.ensures) in
    found ∙ ap (λ rest. take c.in-Some.at text ∷ parts_of c.args.separator rest) (sym (take_rest text (c.in-Some.at + 1)))

pub returns-in-None-clause-parts : goal.returns-in-None-clause-parts
returns-in-None-clause-parts c = cut_none c.args.separator c.args.text.now (sym c.in-None.ensures)
