use Rattle.std.proofs.Common.{List, sym, subst, ◌++◌, [], ◌∷◌}
use Rattle.roc_judge.specs.declared.folded.Folded.{Folded}
use Rattle.roc_auditor.specs.Verdict.{AreFolded}
use Rattle.roc_auditor.proofs.Taking.{folded_behind}
use Rattle.roc_auditor.proofs.auditor.fold_behind.Goals as goal

pub returns-in_ok-push-in-Ok-Ok-clause-ok : goal.returns-in_ok-push-in-Ok-Ok-clause-ok
returns-in_ok-push-in-Ok-Ok-clause-ok c = λ logs are at.
    subst (λ (fs : List Folded). AreFolded c.args.plan.now (logs ++ c.args.log.now ∷ []) fs) (sym c.in_ok-push-in-Ok-Ok.ensures.items)
    (folded_behind c.args.plan.now logs c.args.folds.now.items c.args.log.now c.in-Ok-Ok.folded are (rw c.in-Ok-Ok.field-0-is at c.in-Ok-Ok.ensures))
