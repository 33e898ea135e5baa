-- How the answer comes from what was read.
use Rattle.std.specs.Prelude.{◌≡◌, ℕ, Bool, if◌then◌else◌, List, [], ◌∷◌, Option, Some, None, Result, Ok, Err}
use Rattle.roc_lang.specs.Syntax.{Tree}
use Rattle.roc_lang.specs.Tokens as tokens
use Rattle.roc_lang.specs.declared.source.Source.{Source}
use Rattle.roc_lang.specs.declared.fault.LangError.{LangError}
use Rattle.roc_lang.specs.declared.fault.LangError.TheVariants.{At, NoMemory}
use Rattle.roc_lang.specs.declared.fault.What.{What}
use Rattle.roc_lang.specs.declared.fault.What.TheVariants.{Word, Token, Limit, End}
use Rattle.roc_lang_parse.specs.Stuck.{Stuck}
use Rattle.roc_lang_parse.specs.Fault.{is_above, last_line}

abbrev pub what_of : (past : Bool) → tokens.Kind → What
what_of past kind = if past then Limit else if is_above kind then Word else Token

-- the fault where reading stops before these tokens; behind them the text ends, or is broken on a line
abbrev pub stop_fault : List ℕ → Option ℕ → (past : Bool) → List tokens.Token → LangError
stop_fault bytes None past [] = At (last_line bytes) End
stop_fault bytes (Some line) past [] = At line Word
stop_fault bytes broken past (t ∷ ts) = At t.line (what_of past t.kind)

abbrev pub answer_of : List ℕ → Option ℕ → Result Tree Stuck → Result Tree LangError
answer_of bytes None (Ok t) = Ok t
answer_of bytes (Some line) (Ok t) = Err (At line Word)
answer_of bytes broken (Err s) = Err (stop_fault bytes broken s.past s.rest)

-- an answer, unless memory ran out
abbrev pub IsAnswer : Result Source LangError → Result Tree LangError → Type 0
IsAnswer (Ok source) a = a ≡ Ok source
IsAnswer (Err NoMemory) a = Unit {0}
IsAnswer (Err (At line what)) a = a ≡ Err (At line what)
