-- What an auditor has of the logs that it took
use Rattle.std.specs.Prelude.{◌≡◌, ℕ, List, Option, Some, None}
use Rattle.roc_plan.specs.Groups.{Plan}
use Rattle.roc_log.specs.declared.line.Log.{Log}
use Rattle.roc_judge.specs.declared.folded.Folded.{Folded}
use Rattle.roc_auditor.specs.declared.auditor.Auditor.{Auditor}
use Rattle.roc_auditor.specs.Verdict.{nodes_of, AreFolded, IsFirstMismatch}

-- what each of the logs tells, or the first that does not fold and its line
abbrev pub HasFound : Plan → List Log → List Folded → Option (ℕ × ℕ) → Type 0
HasFound plan logs folds None = AreFolded plan logs folds
HasFound plan logs folds (Some found) = IsFirstMismatch plan logs found.0 found.1

-- the auditor took these logs under this plan, in order
pub record HasTaken (plan : Plan) (logs : List Log) (auditor : Auditor) : Type 0 where
  pub nodes : auditor.nodes.items ≡ nodes_of logs
  pub found : HasFound plan logs auditor.folds.items auditor.mismatch
