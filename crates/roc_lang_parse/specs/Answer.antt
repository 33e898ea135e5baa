-- What `parse` answers: the tree of a workload text, or the first fault of what is none.
use Rattle.std.specs.Prelude.{◌≡◌, ℕ, List, Result, Ok, Err}
use Rattle.roc_lang.specs.Syntax.{Tree}
use Rattle.roc_lang.specs.declared.source.Source.{Source}
use Rattle.roc_lang.specs.declared.fault.LangError.{LangError}
use Rattle.roc_lang.specs.declared.fault.LangError.TheVariants.{At, NoMemory}
use Rattle.roc_lang_parse.specs.Fault.{IsFirstFault}

-- a source of this tree, unless memory ran out
abbrev pub IsSourceOf : Tree → Result Source LangError → Type 0
IsSourceOf t (Ok source) = source ≡ t
IsSourceOf t (Err NoMemory) = Unit {0}
IsSourceOf t (Err (At line what)) = ⊥

-- an error that is no want of memory is the first fault
abbrev pub TellsFirstFault : List ℕ → LangError → Type 0
TellsFirstFault bytes NoMemory = Unit {0}
TellsFirstFault bytes (At line what) = IsFirstFault bytes line what
