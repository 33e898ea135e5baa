-- How an audit ends whose workload was read, and how a verdict is told
use Rattle.std.specs.Prelude.{◌≡◌, ◌⊎◌, true, false, ℕ, List, Option, Result, Ok, Err}
use Rattle.roc_io.specs.Observed.{Adds, AddsFront}
use Rattle.roc_plan.specs.Groups.{Plan}
use Rattle.roc_log.specs.declared.line.Log.{Log}
use Rattle.roc_auditor.specs.declared.verdict.Verdict.{Verdict}
use Rattle.roc_auditor.specs.declared.verdict.AuditFault.{AuditFault}
use Rattle.roc_auditor.specs.declared.verdict.AuditFault.TheVariants as audit_fault
use Rattle.roc_auditor.specs.VerdictText.{verdict_text}
use Rattle.roc_cli_files.specs.declared.fault.Fault.{Fault}
use Rattle.roc_cli_files.specs.declared.fault.Fault.TheVariants.{Gap, Memory, Sink, Refuted}
use Rattle.roc_cli_files.specs.Held.{HoldLogs}
use Rattle.roc_cli_files.specs.Listed.{LogsFail}
use Rattle.roc_cli.specs.Audited.{is_yes}
use Rattle.roc_cli.specs.Inner.Ends.{AuditEnds}

-- what was written of a verdict
abbrev pub VerdictEnds : (names : List (List ℕ)) → Verdict → (old new : Option (List ℕ)) → Result Unit Fault → Type 0
VerdictEnds names verdict old new (Ok done) = (is_yes verdict ≡ true) × Adds old new (verdict_text names verdict)
VerdictEnds names verdict old new (Err Refuted) = (is_yes verdict ≡ false) × Adds old new (verdict_text names verdict)
VerdictEnds names verdict old new (Err Sink) = AddsFront old new (verdict_text names verdict)
VerdictEnds names verdict old new (Err Memory) = new ≡ old
VerdictEnds names verdict old new _ = ⊥

-- how it is told that there is no verdict
abbrev pub fault_of_audit : AuditFault → Fault
fault_of_audit (audit_fault.Gap shard) = Gap shard
fault_of_audit audit_fault.NoMemory = Memory

-- the files of these names hold no logs, and this is why
abbrev pub UnheldEnds : (content : List ℕ → Option (List ℕ)) → (names : List (List ℕ)) → Plan → (tag : List ℕ) → (old new : Option (List ℕ)) → Result Unit Fault → Type 0
UnheldEnds content names plan tag old new (Ok done) = ⊥
UnheldEnds content names plan tag old new (Err fault) = LogsFail content names plan tag fault × (new ≡ old)

-- the files of these names hold logs, whose audit ended so; or they hold none, and nothing was written
abbrev pub LogsEnd : (content : List ℕ → Option (List ℕ)) → (names : List (List ℕ)) → Plan → (tag : List ℕ) → (old new : Option (List ℕ)) → Result Unit Fault → Type 0
LogsEnd content names plan tag old new result =
    ((logs : List Log) × HoldLogs content names plan tag logs × AuditEnds plan logs names old new result) ⊎ UnheldEnds content names plan tag old new result
