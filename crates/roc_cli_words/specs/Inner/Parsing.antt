-- What `clap` makes of words
use Rattle.std.specs.Prelude.{◌≡◌, ◌≢◌, List, Result, Ok, Err}
use Rattle.clap.specs.Words.{Text, subcommand_of, subcommand_rows_of}
use Rattle.clap.specs.declared.ArgMatches.{ArgMatches}
use Rattle.clap.specs.declared.error.ErrorKind.{ErrorKind}
use Rattle.clap.specs.declared.error.ErrorKind.TheVariants.{OutOfMemory}
use Rattle.roc_cli_words.specs.declared.answer.WordsFault.{WordsFault}
use Rattle.roc_cli_words.specs.declared.answer.WordsFault.TheVariants.{Refused, Value, NoMemory}
use Rattle.roc_cli_words.specs.Program.{program_app, IsTakenByClap}

-- the fault of an error of this kind; there may be no memory for its text
abbrev pub IsFaultOfKind : ErrorKind → WordsFault → Type 0
IsFaultOfKind kind (Refused text) = kind ≢ OutOfMemory
IsFaultOfKind kind (Value name) = ⊥
IsFaultOfKind kind NoMemory = Unit {0}

abbrev pub ParsesWords : List Text → Result ArgMatches WordsFault → Type 0
ParsesWords words (Ok matches) = IsTakenByClap words × (subcommand_rows_of matches ≡ subcommand_of program_app words)
ParsesWords words (Err (Refused text)) = IsTakenByClap words → ⊥
ParsesWords words (Err (Value name)) = ⊥
ParsesWords words (Err NoMemory) = Unit {0}
