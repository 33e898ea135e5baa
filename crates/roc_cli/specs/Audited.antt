-- What an audit is of, how it comes to its logs, and what was found: docs/FORMATS.md, "The program", and docs/PROTOCOL.md, "Auditing"
use Rattle.std.specs.Prelude.{◌≡◌, ℕ, Bool, true, false, List, ◌∷◌, ◌++◌, map}
use Rattle.roc_io.specs.Observed.{Adds}
use Rattle.roc_base.specs.declared.id.TxnId.{TxnId}
use Rattle.roc_plan.specs.Groups.{Plan}
use Rattle.roc_log.specs.declared.line.Log.{Log}
use Rattle.roc_judge.specs.declared.judgement.Judgement.TheVariants.{Yes}
use Rattle.roc_judge.specs.Vouched.{IsVouched}
use Rattle.roc_fold.specs.Told.{told_of}
use Rattle.roc_auditor.specs.declared.verdict.Verdict.{Verdict}
use Rattle.roc_auditor.specs.declared.verdict.Verdict.TheVariants.{Judged}
use Rattle.roc_auditor.specs.Verdict.{HaveNoGap, IsVerdict}
use Rattle.roc_auditor.specs.VerdictText.{verdict_text}
use Rattle.roc_cli_files.specs.Held.{HoldsPlan, HoldLogs}
use Rattle.roc_cli_files.specs.NodeNames.{tag_of_bytes}
use Rattle.roc_cli_nodes.specs.Call.{RunCall}
use Rattle.roc_cli_nodes.specs.Words.{IsAudit}

-- the words ask for an audit of files with these names, and name a workload that has this plan
pub record IsAuditUnder (call : RunCall) (plan : Plan) (names : List (List ℕ)) : Type 0 where
  pub workload : List ℕ
  pub given : IsAudit call.words workload names
  pub of_workload : HoldsPlan call.files.content workload plan

-- the tag of that workload
abbrev pub tag_under : {call : RunCall} {plan : Plan} {names : List (List ℕ)} → IsAuditUnder call plan names → List ℕ
tag_under asked = tag_of_bytes asked.of_workload.bytes

-- the files hold these logs of it, among them one of the server of each shard
pub record IsAuditOf (call : RunCall) (plan : Plan) (logs : List Log) : Type 0 where
  pub names : List (List ℕ)
  pub asked : IsAuditUnder call plan names
  pub held : HoldLogs call.files.content names plan (tag_under asked) logs
  pub whole : HaveNoGap plan logs

-- an audit comes to the file of this name behind files that hold these logs
pub record ComesToLog (call : RunCall) (name : List ℕ) (plan : Plan) (logs : List Log) : Type 0 where
  pub before : List (List ℕ)
  pub behind : List (List ℕ)
  pub asked : IsAuditUnder call plan (before ++ name ∷ behind)
  pub held : HoldLogs call.files.content before plan (tag_under asked) logs

-- one order explains what the logs tell
abbrev pub is_yes : Verdict → Bool
is_yes (Judged (Yes order answered)) = true
is_yes _ = false

-- standard output took an order and how many answers it explains: it explains all that the named logs tell, whoever made them, and is the verdict over
-- them
pub record Audits (call : RunCall) : Type 0 where
  pub plan : Plan
  pub logs : List Log
  pub asked : IsAuditOf call plan logs
  pub order : List TxnId
  pub answered : ℕ
  pub verdict : IsVerdict plan logs (Judged (Yes order answered))
  pub taken : Adds call.out.old call.out.new (verdict_text asked.names (Judged (Yes order answered)))
  pub vouched : IsVouched plan.program (map told_of logs) order

-- standard output took the verdict over the named logs, which are not explained
pub record Refutes (call : RunCall) : Type 0 where
  pub plan : Plan
  pub logs : List Log
  pub asked : IsAuditOf call plan logs
  pub verdict : Verdict
  pub is : IsVerdict plan logs verdict
  pub refuted : is_yes verdict ≡ false
  pub taken : Adds call.out.old call.out.new (verdict_text asked.names verdict)
