-- What the reading functions of the code return, seen without where it lies in memory.
use Rattle.std.specs.Prelude.{◌≡◌, ℕ, List, [], map, Option, Some, None, Result, Ok, Err}
use Rattle.std.specs.Option.{option_map, option_to_list}
use Rattle.std.specs.String.{string_bytes}
use lib.Chars.{codes}
use Rattle.roc_lang.specs.Syntax.{Expression}
use Rattle.roc_lang.specs.Syntax as syntax
use Rattle.roc_lang.specs.Tree.{expression_tree, table_tree, init_tree, procedure_tree}
use Rattle.roc_lang.specs.Tokens as tokens
use Rattle.roc_lang_parse.specs.declared.lexer.TokenStep.{TokenStep}
use Rattle.roc_lang_parse.specs.declared.token.Token.{Token}
use Rattle.roc_lang_parse.specs.declared.token.Kind.{Kind}
use Rattle.roc_lang_parse.specs.declared.token.Kind.TheVariants as kinds
use Rattle.roc_lang_parse.specs.declared.declaration.Parts.{Parts}
use Rattle.roc_lang_parse.specs.declared.refusal.Refusal.{Refusal}
use Rattle.roc_lang_parse.specs.declared.refusal.Refusal.TheVariants as refusals
use Rattle.roc_lang_parse.specs.declared.deep.Deep.{Deep}
use Rattle.roc_lang_parse.specs.declared.deep.Function.{Function}
use Rattle.roc_lang_parse.specs.declared.deep.Function.TheVariants as functions
use Rattle.roc_lang_parse.specs.Lexed.{IsLexed, IsBroken}
use Rattle.roc_lang_parse.specs.Stuck.{Stuck}
use Rattle.roc_lang_parse.specs.Reading as reading

abbrev pub kind_view : Kind → tokens.Kind
kind_view (kinds.Word word) = tokens.Word (string_bytes word)
kind_view (kinds.Integer n) = tokens.Integer n
kind_view (kinds.Mark b) = tokens.Mark b

abbrev pub token_view : Token → tokens.Token
token_view t = record { kind = kind_view t.kind; line = t.line }

abbrev pub token_views : List Token → List tokens.Token
token_views ts = map token_view ts

-- What a function returned, seen by view, is what reading gives, unless memory ran out.
abbrev pub StopsAs : {Y : Type 0} → Refusal → Result Y Stuck → Type 0
StopsAs refusals.NoMemory read = Unit {0}
StopsAs (refusals.At is_limit rest) read = read ≡ Err (record { past = is_limit; rest = token_views rest.now })

abbrev pub ReadsAs : {X Y : Type 0} → (X → Y) → Result X Refusal → Result Y Stuck → Type 0
ReadsAs view (Ok x) read = read ≡ Ok (view x)
ReadsAs view (Err e) read = StopsAs e read

-- an expression that was read, with its depth
abbrev pub deep_view : Deep → reading.Deep
deep_view d = (expression_tree d.expression, d.depth)

abbrev pub function_word : Function → List ℕ
function_word functions.Minimum = codes "min"
function_word functions.Maximum = codes "max"
function_word functions.Less = codes "less"

abbrev pub function_of : Function → Expression → Expression → Expression
function_of functions.Minimum = syntax.Minimum
function_of functions.Maximum = syntax.Maximum
function_of functions.Less = syntax.Less

-- the parts of a text
abbrev pub parts_tree : Parts → syntax.Tree
parts_tree p = record {
  shards = p.shards;
  shards_line = p.shards_line;
  tables = map table_tree p.tables.items;
  inits = map init_tree p.inits.items;
  procedures = map procedure_tree p.procedures.items;
}

-- the tokens of a step, and the line and the bytes behind it
abbrev pub step_view : TokenStep → List tokens.Token × ℕ × List ℕ
step_view s = (option_to_list (option_map token_view s.token), s.line, s.rest.now)

-- the tokens of a text: all of them, or those up to the place where the text is broken, by its line
abbrev pub IsScanned : List ℕ → List tokens.Token → Option ℕ → Type 0
IsScanned text tokens None = (line : ℕ) × IsLexed 1 text tokens line []
IsScanned text tokens (Some line) = (rest : List ℕ) × IsLexed 1 text tokens line rest × IsBroken line rest
