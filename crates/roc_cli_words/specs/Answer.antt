-- What `ask` answers of words
use Rattle.std.specs.Prelude.{◌≡◌, ◌≢◌, List, [], ◌∷◌, Some, Result, Ok, Err}
use Rattle.clap.specs.Words.{Text}
use Rattle.roc_cli_words.specs.declared.value.ValueName.{ValueName}
use Rattle.roc_cli_words.specs.declared.answer.WordsFault.{WordsFault}
use Rattle.roc_cli_words.specs.declared.answer.WordsFault.TheVariants.{Refused, Value, NoMemory}
use Rattle.roc_cli_words.specs.declared.command.Asked.{Asked}
use Rattle.roc_cli_words.specs.Program.{IsTakenByClap}
use Rattle.roc_cli_words.specs.Commands.{Command, command_of, command_by}

-- `clap` takes the words, and they ask for this command
pub record AreWordsOf (words : List Text) (command : Command) : Type 0 where
  pub taken : IsTakenByClap words
  pub asked : command_by words ≡ Some (Ok command)

-- `clap` takes the words, but the value of this name is none: no number, none in its range, a log beside a journal, a workload to grow to without its partner or the other way round, or
-- one beside a journal or a log; each before it is one
pub record HaveNoValue (words : List Text) (name : ValueName) : Type 0 where
  pub taken : IsTakenByClap words
  pub asked : command_by words ≡ Some (Err name)

-- the words ask for no command
abbrev pub AreNoCommand : List Text → Type 0
AreNoCommand words = (command : Command) → AreWordsOf words command → ⊥

abbrev pub AnswersWords : List Text → Result Asked WordsFault → Type 0
AnswersWords words (Ok asked) = AreWordsOf words (command_of asked)
AnswersWords words (Err (Refused text)) = IsTakenByClap words → ⊥
AnswersWords words (Err (Value name)) = HaveNoValue words name
AnswersWords words (Err NoMemory) = Unit {0}

-- whatever the fault is, but want of memory, no command is asked for
abbrev pub RefusesWords : List Text → Result Asked WordsFault → Type 0
RefusesWords words (Ok asked) = Unit {0}
RefusesWords words (Err NoMemory) = Unit {0}
RefusesWords words (Err fault) = AreNoCommand words

-- a word that is not empty and does not begin with a dash (45)
abbrev pub IsPlainWord : Text → Type 0
IsPlainWord [] = ⊥
IsPlainWord (b ∷ bs) = b ≢ 45
