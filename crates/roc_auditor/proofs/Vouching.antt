-- Behind a yes the order vouches for what the logs tell
use Rattle.std.proofs.Common.{◌≡◌, ℕ, List, [], ◌∷◌, map, refl, ap, subst, ◌∙◌}
use Rattle.roc_base.specs.declared.id.TxnId.{TxnId}
use Rattle.roc_plan.specs.Groups.{Plan}
use Rattle.roc_log.specs.declared.line.Log.{Log}
use Rattle.roc_audit.specs.declared.entry.Entry.{Entry}
use Rattle.roc_judge.specs.declared.folded.Folded.{Folded}
use Rattle.roc_judge.specs.declared.judgement.Judgement.TheVariants.{Yes}
use Rattle.roc_judge.specs.Vouched.{IsVouched}
use Rattle.roc_judge.proofs.Vouching.{yes_vouches}
use Rattle.roc_fold.specs.Told.{told_of}
use Rattle.roc_auditor.specs.declared.verdict.Verdict.TheVariants.{Judged}
use Rattle.roc_auditor.specs.Verdict.{AreFolded, IsVerdict, a_judgement}

-- what the folds tell is what the logs' lines tell
pub told_alike : (plan : Plan) (logs : List Log) (folds : List Folded) → AreFolded plan logs folds → map (λ f. f.told) folds ≡ map told_of logs
told_alike plan [] [] are = refl
told_alike plan [] (fold ∷ folds) are = absurd are
told_alike plan (log ∷ logs) [] are = absurd are
told_alike plan (log ∷ logs) (fold ∷ folds) are =
    ap (λ (h : List Entry). h ∷ map (λ (f : Folded). f.told) folds) are.0.told ∙ ap (λ (hs : List (List Entry)). told_of log ∷ hs) (told_alike plan logs folds are.1)

pub vouches_for_logs : (plan : Plan) (logs : List Log) (order : List TxnId) (n : ℕ) → IsVerdict plan logs (Judged (Yes order n)) → IsVouched plan.program (map told_of logs) order
vouches_for_logs plan logs order n (a_judgement folds _ are is) =
    subst (λ (hs : List (List Entry)). IsVouched plan.program hs order) (told_alike plan logs folds are) (yes_vouches plan.program folds order n is)
