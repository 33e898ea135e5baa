use Rattle.std.proofs.Common.{List, [], ◌∷◌, ◌++◌, refl, ap, ◌∙◌}
use Rattle.roc_base.specs.declared.node.Node.{Node}
use Rattle.roc_auditor.proofs.Taking.{taken_past}
use Rattle.roc_auditor.proofs.auditor.Auditor.note.Goals as goal

pub returns-in-Some-clause-ok : goal.returns-in-Some-clause-ok
returns-in-Some-clause-ok c = λ logs taken.
    taken_past c.args.plan.now logs c.args.log.now c.args.self.now _ c.in-Some.field-0 c.in-Some.is refl
    (c.put.ensures ∙ ap (λ (ns : List Node). ns ++ c.args.log.now.node ∷ []) c.in_ok-reserve.ensures.items) taken
