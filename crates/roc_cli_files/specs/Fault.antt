-- The status and the line of each fault: docs/FORMATS.md, "The program"
use Rattle.std.specs.Prelude.{◌≡◌, ◌⊎◌, ℕ, Bool, true, false, List, [], ◌∷◌, Option, Result, Ok, Err, codes, string_bytes}
use Rattle.roc_io.specs.Observed.{Adds}
use Rattle.roc_lang_scope.specs.FaultText.{what_text}
use Rattle.roc_cluster.specs.FaultText.{fault_text as cluster_text}
use Rattle.roc_log.specs.FaultText.{what_text as log_text}
use Rattle.roc_epoch.specs.declared.fault.GrowthFault.{GrowthFault}
use Rattle.roc_epoch.specs.declared.fault.GrowthFault.TheVariants.{Shards, Table, Init, Proc}
use Rattle.roc_cli_words.specs.FaultText.{value_text}
use Rattle.roc_cli_files.specs.declared.fault.Fault.{Fault}
use Rattle.roc_cli_files.specs.declared.fault.Fault.TheVariants.{Refused, Value, NoShard, TooLong, At, Scope, Cluster, Growth, Same, Journal, Log, Gap, Rejected}
use Rattle.roc_cli_files.specs.declared.fault.Fault.TheVariants.{Memory, Unanswered, File, Sink, Link, Child, Disk, Full, Refuted, Book}
use Rattle.roc_cli_files.specs.Says.{word_line, long_line, text_line, fault_line, growth_line, journal_line, gap_line, file_line, child_line, disk_line, full_line, book_line, Errors, Says}

-- what is wrong with a workload that is no grown one
abbrev pub growth_word : GrowthFault → List ℕ
growth_word Shards = codes "shards"
growth_word Table = codes "table"
growth_word Init = codes "init"
growth_word Proc = codes "proc"

-- the line on standard error; there is none where the workload is not acceptable, requests are unanswered, or logs are not explained
abbrev pub line_of : Fault → List ℕ
line_of (Refused text) = string_bytes text
line_of (Value name) = word_line (value_text name)
line_of NoShard = word_line (codes "shard")
line_of (TooLong file) = long_line file.now
line_of (At file line what) = fault_line file.now line what.now
line_of (Scope file line what) = fault_line file.now line (what_text what)
line_of (Cluster file fault) = text_line file.now (cluster_text fault)
line_of (Growth file fault) = growth_line file.now (growth_word fault)
line_of (Same file) = growth_line file.now (codes "same")
line_of (Journal file) = journal_line file.now
line_of (Log file line what) = fault_line file.now line (log_text what)
line_of (Gap shard) = gap_line shard.0
line_of Rejected = []
line_of Unanswered = []
line_of Memory = word_line (codes "memory")
line_of (File file) = file_line file.now
line_of Sink = word_line (codes "sink")
line_of Link = word_line (codes "link")
line_of (Child shard status) = child_line shard.0 status
line_of (Disk file) = disk_line file.now
line_of (Full file) = full_line file.now
line_of Refuted = []
line_of (Book file) = book_line file.now

-- the program ends with this status, and standard error takes this line
abbrev pub EndsWith : (wanted : ℕ) → (line : List ℕ) → (status : ℕ) → Errors → Type 0
EndsWith wanted line status err = (status ≡ wanted) × Says err line

-- how each fault is told: that of a refused file, of a gap or of a child as want of memory, where there is none for the text of its line
abbrev pub IsTold : Fault → (status : ℕ) → Errors → Type 0
IsTold Rejected status err = status ≡ 1
IsTold Unanswered status err = status ≡ 5
IsTold NoShard status err = EndsWith 2 (line_of NoShard) status err
IsTold (Refused text) status err = EndsWith 2 (line_of (Refused text)) status err
IsTold (Value name) status err = EndsWith 2 (line_of (Value name)) status err
IsTold (Growth file fault) status err = EndsWith 3 (line_of (Growth file fault)) status err
IsTold (Same file) status err = EndsWith 3 (line_of (Same file)) status err
IsTold (Journal file) status err = EndsWith 3 (line_of (Journal file)) status err
IsTold Memory status err = EndsWith 4 (line_of Memory) status err
IsTold (File file) status err = EndsWith 6 (line_of (File file)) status err
IsTold Sink status err = EndsWith 7 (line_of Sink) status err
IsTold Link status err = EndsWith 8 (line_of Link) status err
IsTold (Child shard own) status err = EndsWith 9 (line_of (Child shard own)) status err ⊎ EndsWith 4 (line_of Memory) status err
IsTold (Disk file) status err = EndsWith 10 (line_of (Disk file)) status err
IsTold (Full file) status err = EndsWith 11 (line_of (Full file)) status err
IsTold Refuted status err = status ≡ 12
IsTold (Book file) status err = EndsWith 13 (line_of (Book file)) status err
IsTold fault status err = EndsWith 3 (line_of fault) status err ⊎ EndsWith 4 (line_of Memory) status err

-- a file could not be read
abbrev pub blames_file : Fault → Bool
blames_file (File file) = true
blames_file _ = false

-- standard output could not be written
abbrev pub blames_sink : Fault → Bool
blames_sink Sink = true
blames_sink _ = false

-- the link could not be bound, or a receive failed
abbrev pub blames_link : Fault → Bool
blames_link Link = true
blames_link _ = false

-- a call of the journal's disk failed
abbrev pub blames_disk : Fault → Bool
blames_disk (Disk file) = true
blames_disk _ = false

-- a call of the log's book failed
abbrev pub blames_book : Fault → Bool
blames_book (Book file) = true
blames_book _ = false

-- ---- answers

-- the fault is one of these
abbrev pub fails_by : {A : Type 0} → (Fault → Bool) → Result A Fault → Bool
fails_by test (Ok value) = false
fails_by test (Err fault) = test fault

-- the names whose reads failed grow by the name that the fault blames, and by no other
abbrev pub Blames : (old new : Option (List (List ℕ))) → Fault → Type 0
Blames old new (File file) = Adds old new (file.now ∷ [])
Blames old new _ = new ≡ old

-- the same of an answer
abbrev pub ReadsBut : {A : Type 0} → (old new : Option (List (List ℕ))) → Result A Fault → Type 0
ReadsBut old new (Ok value) = new ≡ old
ReadsBut old new (Err fault) = Blames old new fault
