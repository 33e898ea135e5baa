-- From what an auditor has to a verdict
use Rattle.std.proofs.Common.{◌≡◌, ℕ, List, Option, Some, None, Result, Ok, Err, IfOk, IfErr, subst, ◌∙◌}
use Rattle.roc_base.specs.declared.node.Node.{Node}
use Rattle.roc_program.specs.Program.{Workload}
use Rattle.roc_plan.specs.Groups.{Plan}
use Rattle.roc_log.specs.declared.line.Log.{Log}
use Rattle.roc_judge.specs.declared.folded.Folded.{Folded}
use Rattle.roc_judge.specs.declared.judgement.Judgement.{Judgement}
use Rattle.roc_judge.specs.Judged.{IsJudged}
use Rattle.roc_auditor.specs.declared.auditor.Auditor.{Auditor}
use Rattle.roc_auditor.specs.declared.verdict.Verdict.{Verdict}
use Rattle.roc_auditor.specs.declared.verdict.Verdict.TheVariants.{Judged}
use Rattle.roc_auditor.specs.declared.verdict.AuditFault.{AuditFault}
use Rattle.roc_auditor.specs.Taken.{HasFound, HasTaken}
use Rattle.roc_auditor.specs.Verdict.{HaveAllServers, AreFolded, IsFirstMismatch, IsVerdict, a_judgement, IsAuditedAs}

-- what was found is a mismatch, or that all fold
pub found_mismatch : (plan : Plan) (logs : List Log) (a : Auditor) (found : ℕ × ℕ) → a.mismatch ≡ Some found → HasTaken plan logs a → IsFirstMismatch plan logs found.0 found.1
found_mismatch plan logs a found e taken = subst (λ (m : Option (ℕ × ℕ)). HasFound plan logs a.folds.items m) e taken.found

pub found_folds : (plan : Plan) (logs : List Log) (a : Auditor) → a.mismatch ≡ None → HasTaken plan logs a → AreFolded plan logs a.folds.items
found_folds plan logs a e taken = subst (λ (m : Option (ℕ × ℕ)). HasFound plan logs a.folds.items m) e taken.found

-- a verdict where each server has a log
pub audited : (plan : Plan) (a : Auditor) (nodes : List Node) (shards : ℕ) (r : Result Verdict AuditFault) → nodes ≡ a.nodes.items → shards ≡ plan.program.shards → HaveAllServers nodes shards
    → IfOk r (λ v. (logs : List Log) → HasTaken plan logs a → IsVerdict plan logs v) → IfOk r (λ v. (logs : List Log) → HasTaken plan logs a → IsAuditedAs plan logs v)
audited plan a nodes shards (Err fault) same count all h = tt
audited plan a nodes shards (Ok v) same count all h = λ logs taken. record {
  whole = subst (λ (ns : List Node). HaveAllServers ns plan.program.shards) (same ∙ taken.nodes) (subst (λ n. HaveAllServers nodes n) count all);
  is = h logs taken;
}

-- what holds of all logs that were taken holds of these
pub ok_of_these : {A E L : Type 0} (P : L → Type 0) (Q : L → A → Type 0) (l : L) (r : Result A E) → P l → IfOk r (λ a. (k : L) → P k → Q k a) → IfOk r (Q l)
ok_of_these P Q l (Ok a) is h = h l is
ok_of_these P Q l (Err e) is h = tt

pub err_of_these : {A E L : Type 0} (P : L → Type 0) (Q : L → E → Type 0) (l : L) (r : Result A E) → P l → IfErr r (λ e. (k : L) → P k → Q k e) → IfErr r (Q l)
err_of_these P Q l (Ok a) is h = tt
err_of_these P Q l (Err e) is h = h l is

-- what was judged where all fold
pub judged_so : (plan : Plan) (logs : List Log) (a : Auditor) (program : Workload) (folds : List Folded) (j : Judgement) → a.mismatch ≡ None → program ≡ plan.program → folds ≡ a.folds.items
    → IsJudged program folds j → HasTaken plan logs a → IsVerdict plan logs (Judged j)
judged_so plan logs a program folds j none same kept is taken =
    a_judgement a.folds.items j (found_folds plan logs a none taken) (subst (λ (fs : List Folded). IsJudged plan.program fs j) kept (subst (λ (w : Workload). IsJudged w folds j) same is))
