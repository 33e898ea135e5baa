use Rattle.std.proofs.Common.{◌∙◌, sym}
use Rattle.roc_server_taken.proofs.Ended.{none_first}
use Rattle.roc_server_taken.proofs.components.starts_ended.Goals as goal

pub returns-in-Some-clause-none : goal.returns-in-Some-clause-none
returns-in-Some-clause-none c = λ not_under.
    none_first c.args.marks.now c.args.coord c.requires.coord c.args.components.now.items c.in-Some.component.now c.in-Some.ensures.lookup c.requires.part (sym c.is_under.ensures ∙ not_under)
