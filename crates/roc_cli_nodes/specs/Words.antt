-- The words of the command line, and the files that they name: docs/FORMATS.md, "The program"
use Rattle.std.specs.Prelude.{◌≡◌, ℕ, Bool, List, Option, Some, None, is_some, option_map}
use Rattle.roc_cli_words.specs.declared.value.Part.{Part}
use Rattle.roc_cli_words.specs.Commands.{Command, check, print, replay, serve, submit, stop, local, gen, audit}
use Rattle.roc_cli_words.specs.Answer.{AreWordsOf}
use Rattle.roc_cli_files.specs.Held.{NodeFiles}

-- ---- which command

-- `replay`, and the names of a workload and a schedule; and that of a workload to grow to, with a count of coordinators, where there is one
abbrev pub IsReplay : List (List ℕ) → (workload schedule : List ℕ) → (growth : Option (List ℕ × ℕ)) → Type 0
IsReplay words workload schedule growth = AreWordsOf words (replay workload schedule growth)

-- `print`, and the name of a workload
abbrev pub IsPrint : List (List ℕ) → (workload : List ℕ) → Type 0
IsPrint words workload = AreWordsOf words (print workload)

-- `check`, and the name of a workload
abbrev pub IsCheck : List (List ℕ) → (workload : List ℕ) → Type 0
IsCheck words workload = AreWordsOf words (check workload)

-- `gen`, a seed, how many shards and transactions there are to be, and which part
abbrev pub IsGen : List (List ℕ) → (seed shards txns : ℕ) → Part → Type 0
IsGen words seed shards txns part = AreWordsOf words (gen seed shards txns part)

-- `audit`, the name of a workload, and those of logs
abbrev pub IsAudit : List (List ℕ) → (workload : List ℕ) → (logs : List (List ℕ)) → Type 0
IsAudit words workload logs = AreWordsOf words (audit workload logs)

-- the words are those of a replay
abbrev pub AreReplayWords : List (List ℕ) → Type 0
AreReplayWords words = (workload schedule : List ℕ) × (growth : Option (List ℕ × ℕ)) × IsReplay words workload schedule growth

-- the words are those of a print
abbrev pub ArePrintWords : List (List ℕ) → Type 0
ArePrintWords words = (workload : List ℕ) × IsPrint words workload

-- the words are those of a check
abbrev pub AreCheckWords : List (List ℕ) → Type 0
AreCheckWords words = (workload : List ℕ) × IsCheck words workload

-- the words are those of generated load
abbrev pub AreGenWords : List (List ℕ) → Type 0
AreGenWords words = (seed shards txns : ℕ) × (part : Part) × IsGen words seed shards txns part

-- the words are those of an audit
abbrev pub AreAuditWords : List (List ℕ) → Type 0
AreAuditWords words = (workload : List ℕ) × (logs : List (List ℕ)) × IsAudit words workload logs

-- the words are those of a server
abbrev pub AreServeWords : List (List ℕ) → Type 0
AreServeWords words =
    (workload cluster : List ℕ) × (shard turns : ℕ) × (counts : Bool) × (journal log : Option (List ℕ)) × (growth : Option (List ℕ × ℕ))
    × AreWordsOf words (serve workload cluster shard turns counts journal log growth)

-- the words are those of a coordinator
abbrev pub AreSubmitWords : List (List ℕ) → Type 0
AreSubmitWords words =
    (workload cluster requests : List ℕ) × (coord turns : ℕ) × (log : Option (List ℕ)) × (growth : Option (List ℕ × List ℕ))
    × AreWordsOf words (submit workload cluster requests coord turns log growth)

-- the words ask to stop servers
abbrev pub AreStopWords : List (List ℕ) → Type 0
AreStopWords words = (workload cluster : List ℕ) × AreWordsOf words (stop workload cluster)

-- the words are those of a coordinator that starts its servers
abbrev pub AreLocalWords : List (List ℕ) → Type 0
AreLocalWords words = (workload cluster requests : List ℕ) × (turns : ℕ) × AreWordsOf words (local workload cluster requests turns)

-- the words are those of a command
abbrev pub AreCommandWords : List (List ℕ) → Type 0
AreCommandWords words = (command : Command) × AreWordsOf words command

-- ---- which files

-- the workload to grow to of a coordinator, which reads no count of coordinators, and is handed 16; and the requests to submit then
abbrev pub next_to_submit : (growth : Option (List ℕ × List ℕ)) → Option (List ℕ × ℕ)
next_to_submit growth = option_map (λ g. (g.0, 16)) growth

abbrev pub later_to_submit : (growth : Option (List ℕ × List ℕ)) → Option (List ℕ)
later_to_submit growth = option_map (λ g. g.1) growth

-- the files of a command with nodes
abbrev pub node_files : Command → Option NodeFiles
node_files (serve workload cluster shard turns counts journal log growth) =
    Some (record { workload = workload; cluster = cluster; requests = None; next = growth; later = None; shard = Some shard })
node_files (submit workload cluster requests coord turns log growth) =
    Some (record { workload = workload; cluster = cluster; requests = Some requests; next = next_to_submit growth; later = later_to_submit growth; shard = None })
node_files (stop workload cluster) = Some (record { workload = workload; cluster = cluster; requests = None; next = None; later = None; shard = None })
node_files (local workload cluster requests turns) =
    Some (record { workload = workload; cluster = cluster; requests = Some requests; next = None; later = None; shard = None })
node_files (check workload) = None
node_files (print workload) = None
node_files (replay workload schedule growth) = None
node_files (gen seed shards txns part) = None
node_files (audit workload logs) = None

-- the command is one with nodes
abbrev pub needs_nodes : Command → Bool
needs_nodes command = is_some (node_files command)

-- the workload whose names have to be in scope
abbrev pub program_of : Command → Option (List ℕ)
program_of (check workload) = Some workload
program_of (print workload) = None
program_of (replay workload schedule growth) = Some workload
program_of (serve workload cluster shard turns counts journal log growth) = Some workload
program_of (submit workload cluster requests coord turns log growth) = Some workload
program_of (stop workload cluster) = Some workload
program_of (local workload cluster requests turns) = Some workload
program_of (gen seed shards txns part) = None
program_of (audit workload logs) = Some workload

-- the workload
abbrev pub workload_of : Command → Option (List ℕ)
workload_of (print workload) = Some workload
workload_of (check workload) = Some workload
workload_of (replay workload schedule growth) = Some workload
workload_of (serve workload cluster shard turns counts journal log growth) = Some workload
workload_of (submit workload cluster requests coord turns log growth) = Some workload
workload_of (stop workload cluster) = Some workload
workload_of (local workload cluster requests turns) = Some workload
workload_of (gen seed shards txns part) = None
workload_of (audit workload logs) = Some workload

-- the workload to grow to
abbrev pub next_of : Command → Option (List ℕ)
next_of (replay workload schedule growth) = option_map (λ g. g.0) growth
next_of (print workload) = None
next_of (check workload) = None
next_of (serve workload cluster shard turns counts journal log growth) = option_map (λ g. g.0) growth
next_of (submit workload cluster requests coord turns log growth) = option_map (λ g. g.0) growth
next_of (stop workload cluster) = None
next_of (local workload cluster requests turns) = None
next_of (gen seed shards txns part) = None
next_of (audit workload logs) = None

-- the journal of a server
abbrev pub journal_of : Command → Option (List ℕ)
journal_of (serve workload cluster shard turns counts journal log growth) = journal
journal_of (submit workload cluster requests coord turns log growth) = None
journal_of (stop workload cluster) = None
journal_of (local workload cluster requests turns) = None
journal_of (check workload) = None
journal_of (print workload) = None
journal_of (replay workload schedule growth) = None
journal_of (gen seed shards txns part) = None
journal_of (audit workload logs) = None

-- the log of a node
abbrev pub log_of : Command → Option (List ℕ)
log_of (serve workload cluster shard turns counts journal log growth) = log
log_of (submit workload cluster requests coord turns log growth) = log
log_of (stop workload cluster) = None
log_of (local workload cluster requests turns) = None
log_of (check workload) = None
log_of (print workload) = None
log_of (replay workload schedule growth) = None
log_of (gen seed shards txns part) = None
log_of (audit workload logs) = None

-- the words are those of a command of which this is what they name
abbrev pub Name : {A : Type 0} → (Command → Option A) → List (List ℕ) → A → Type 0
Name of words name = (command : Command) × AreWordsOf words command × (of command ≡ Some name)

-- the words name a workload whose names have to be in scope
abbrev pub NamesProgram : List (List ℕ) → (workload : List ℕ) → Type 0
NamesProgram words workload = Name program_of words workload

-- the words name a workload
abbrev pub NamesWorkload : List (List ℕ) → (workload : List ℕ) → Type 0
NamesWorkload words workload = Name workload_of words workload

-- the words name a workload to grow to
abbrev pub NamesNext : List (List ℕ) → (workload : List ℕ) → Type 0
NamesNext words workload = Name next_of words workload

-- the words name these files of a command with nodes
abbrev pub NamesNodeFiles : List (List ℕ) → NodeFiles → Type 0
NamesNodeFiles words files = Name node_files words files

-- the words name a journal
abbrev pub NamesJournal : List (List ℕ) → (name : List ℕ) → Type 0
NamesJournal words name = Name journal_of words name

-- the words name a log that a node is to keep
abbrev pub NamesLog : List (List ℕ) → (name : List ℕ) → Type 0
NamesLog words name = Name log_of words name

-- the words are those of a command with nodes
abbrev pub NamesNodes : List (List ℕ) → Type 0
NamesNodes words = (files : NodeFiles) × NamesNodeFiles words files
