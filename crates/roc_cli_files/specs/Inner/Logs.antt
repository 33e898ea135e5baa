-- What comes of reading the log that a file holds, and of its bytes
use Rattle.std.specs.Prelude.{◌≡◌, ℕ, List, [], ◌∷◌, ◌++◌, Option, Result, Ok, Err}
use Rattle.roc_plan.specs.Groups.{Plan}
use Rattle.roc_log.specs.declared.line.Log.{Log as NodeLog}
use Rattle.roc_log.specs.Logs.{IsLog, IsLogFault}
use Rattle.roc_auditor.specs.declared.auditor.Auditor.{Auditor}
use Rattle.roc_auditor.specs.Verdict.{nodes_of}
use Rattle.roc_auditor.specs.Taken.{HasTaken}
use Rattle.roc_cli_files.specs.declared.fault.Fault.{Fault}
use Rattle.roc_cli_files.specs.declared.fault.Fault.TheVariants.{Log, Memory}
use Rattle.roc_cli_files.specs.Held.{HoldsLog}
use Rattle.roc_cli_files.specs.Listed.{LogFails}

-- behind these logs the auditor took the one that the file holds, or why it took none
abbrev pub TakesOne : (List ℕ → Option (List ℕ)) → (name : List ℕ) → Plan → (tag : List ℕ) → List NodeLog → Auditor → Result Unit Fault → Type 0
TakesOne content name plan tag logs auditor (Ok done) =
    (log : NodeLog) × HoldsLog content name plan.program tag (nodes_of logs) log × HasTaken plan (logs ++ log ∷ []) auditor
TakesOne content name plan tag logs auditor (Err fault) = LogFails content name plan.program tag (nodes_of logs) fault

-- the same of the bytes that a file holds
abbrev pub TextFailsAsLog : (bytes name : List ℕ) → Plan → (tag : List ℕ) → List NodeLog → Fault → Type 0
TextFailsAsLog bytes name plan tag logs (Log file line what) = (file.now ≡ name) × IsLogFault plan.program tag (nodes_of logs) bytes line what
TextFailsAsLog bytes name plan tag logs Memory = Unit {0}
TextFailsAsLog bytes name plan tag logs _ = ⊥

abbrev pub TakesText : (bytes name : List ℕ) → Plan → (tag : List ℕ) → List NodeLog → Auditor → Result Unit Fault → Type 0
TakesText bytes name plan tag logs auditor (Ok done) = (log : NodeLog) × IsLog plan.program tag (nodes_of logs) bytes log × HasTaken plan (logs ++ log ∷ []) auditor
TakesText bytes name plan tag logs auditor (Err fault) = TextFailsAsLog bytes name plan tag logs fault
