-- The one line on standard error: docs/FORMATS.md, "The program"
use Rattle.std.specs.Prelude.{ℕ, List, [], ◌∷◌, ◌++◌, Option, Some, None, codes}
use Rattle.std.specs.Fmt.{decimal}
use Rattle.roc_io.specs.declared.sink.Written.{Written}
use Rattle.roc_io.specs.declared.sink.Sink.{Ghosts as SinkOf}
use Rattle.roc_io.specs.Call.{SinkCall, sink_call}
use Rattle.roc_io.specs.Cause.{HasCause}
use Rattle.roc_io.specs.Sink.{write_failed, Takes}

-- what standard error took before and after a call, as far as that is told, and how many of its writes failed
pub record Errors : Type 0 where
  pub taken : SinkCall
  pub faults_old : ℕ
  pub faults_new : ℕ

abbrev pub errors : {E : Type 0} → SinkOf E → (old new : E) → Errors
errors E old new = record { taken = sink_call E old new; faults_old = E.faults old; faults_new = E.faults new }

-- `words`, `memory`, `sink`, or the name of a value
abbrev pub word_line : List ℕ → List ℕ
word_line word = word ++ 10 ∷ []

-- `file FILE`
abbrev pub file_line : List ℕ → List ℕ
file_line file = codes "file " ++ file ++ 10 ∷ []

-- `FILE: limit`, where a file is too long
abbrev pub long_line : List ℕ → List ℕ
long_line file = file ++ codes ": limit" ++ 10 ∷ []

-- `FILE: journal`, where a server does not take what a journal holds
abbrev pub journal_line : List ℕ → List ℕ
journal_line file = file ++ codes ": journal" ++ 10 ∷ []

-- `FILE: growth WORD`, where a workload is no grown one, or nodes could not tell it from the one before it
abbrev pub growth_line : (file word : List ℕ) → List ℕ
growth_line file word = file ++ codes ": growth " ++ word ++ 10 ∷ []

-- `LOGS: gap N`, where no log is of the server of a shard
abbrev pub gap_line : (shard : ℕ) → List ℕ
gap_line shard = codes "LOGS: gap " ++ decimal shard ++ 10 ∷ []

-- `FILE: TEXT`, of a cluster file
abbrev pub text_line : (file text : List ℕ) → List ℕ
text_line file text = file ++ codes ": " ++ text ++ 10 ∷ []

-- `FILE:LINE: WHAT`
abbrev pub fault_line : List ℕ → ℕ → List ℕ → List ℕ
fault_line file number what = file ++ codes ":" ++ decimal number ++ codes ": " ++ what ++ 10 ∷ []

-- `child N`, and `child N STATUS` where there is a status
abbrev pub child_line : (shard : ℕ) → (status : Option ℕ) → List ℕ
child_line shard None = codes "child " ++ decimal shard ++ 10 ∷ []
child_line shard (Some status) = codes "child " ++ decimal shard ++ codes " " ++ decimal status ++ 10 ∷ []

-- `disk FILE`
abbrev pub disk_line : List ℕ → List ℕ
disk_line file = codes "disk " ++ file ++ 10 ∷ []

-- `full FILE`
abbrev pub full_line : List ℕ → List ℕ
full_line file = codes "full " ++ file ++ 10 ∷ []

-- `log FILE`
abbrev pub book_line : List ℕ → List ℕ
book_line file = codes "log " ++ file ++ 10 ∷ []

-- standard error takes this line, or a front of it at a fault of its own, which is counted
pub record Says (err : Errors) (line : List ℕ) : Type 0 where
  pub answer : Written
  pub takes : Takes answer err.taken.old err.taken.new line
  pub cause : HasCause (write_failed answer) err.faults_old err.faults_new
