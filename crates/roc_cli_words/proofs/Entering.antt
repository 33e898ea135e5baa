-- What `clap` makes of a command's name and the words behind it, of which some are written out and the others are names.
use Rattle.std.proofs.Common.{◌≡◌, ℕ, List, [], ◌∷◌, ◌++◌, Option, Some, None, Bool, true, false, if◌then◌else◌, refl, ap, ap₂, ◌∙◌}
use Rattle.std.specs.Prelude.{fold, find, unwrap_or, option_and_then, option_map, is_some, Result}
use Rattle.std.specs.Option.{option_map_or}
use Rattle.clap.specs.Words.{App, Row, Rule, Shape, Text, built, subcommand_of}
use Rattle.clap.specs.Walk.{Held, Step, Waiting, Walk, after_step, answers_to, finished, nothing_held, plain_word, rows_after, settled, value, walk, walk_from, walked, walked_from, word_met, idle, option, positional}
use Rattle.clap.specs.Simple.{entered, label_of, names_of, new_shape, rows_at}
use Rattle.clap.specs.Faults.{fault_of, level_fault, turn_fault, step_fault, word_fault, walk_fault, settle_fault, defaults_fault, check_fault, entered_fault}
use Rattle.clap.specs.Kinds.{Kinds, or_else}
use Rattle.clap.proofs.OnLiterals.{clap_on_literals}
use Rattle.roc_cli_words.specs.Program.{program_app}
use Rattle.roc_cli_words.specs.Commands.{Command, command_by, command_in}
use Rattle.roc_cli_words.specs.Answer.{AreWordsOf}
use Rattle.roc_cli_words.proofs.Taken.{taken}
use Rattle.roc_cli_words.proofs.Several.{IsName, stopped_at, stopped_walk, stopped_fault, nothing_behind}

-- ---- words behind a command's name

-- a word that is written out, or one of which only is known that it is a name
pub data Word : Type 0 where
  written : Text → Word
  given : Text → Word

abbrev pub text_of : Word → Text
text_of (written text) = text
text_of (given text) = text

abbrev pub texts_of : List Word → List Text
texts_of [] = []
texts_of (word ∷ words) = text_of word ∷ texts_of words

abbrev pub IsKnown : Word → Type 0
IsKnown (written text) = Unit {0}
IsKnown (given text) = IsName text

abbrev pub AreKnown : List Word → Type 0
AreKnown [] = Unit {0}
AreKnown (word ∷ words) = IsKnown word × AreKnown words

-- what a name is, before it goes to a positional
abbrev name_met : List Rule → Bool → Waiting → Text → Held → Held × Step
name_met c is_trailing waiting word h = if is_trailing then (h, value) else plain_word c waiting word h

abbrev name_from : List Rule → Option (Text × List Text) → Walk → Text → Walk
name_from c (Some p) w word = record w { stopped = Some (p.0, p.1 ++ word ∷ []) }
name_from c None w word = let met = name_met c w.is_trailing w.waiting word w.held in after_step c word w met.0 met.1

-- the walk after one more word
abbrev stepped : List Rule → Walk → Word → Walk
stepped c w (written text) = walked c [] w text
stepped c w (given text) = name_from c w.stopped w text

met_is : (c : List Rule) (is_trailing : Bool) (waiting : Waiting) (position : ℕ) (word : Text) (h : Held) → IsName word
    → word_met c [] is_trailing waiting position word h ≡ name_met c is_trailing waiting word h
met_is c true waiting position word h is = refl
met_is c false idle position word h is = simp (is.no_end, is.no_flag)
met_is c false (option id) position word h is = simp (is.no_end, is.no_flag)
met_is c false positional position word h is = simp (is.no_end, is.no_flag)

from_is : (c : List Rule) (stopped : Option (Text × List Text)) (w : Walk) (word : Text) → IsName word → walked_from c [] stopped w word ≡ name_from c stopped w word
from_is c (Some p) w word is = refl
from_is c None w word is = ap (λ (met : Held × Step). after_step c word w met.0 met.1) (met_is c w.is_trailing w.waiting w.position word w.held is)

step_is : (c : List Rule) (w : Walk) (word : Word) → IsKnown word → walked c [] w (text_of word) ≡ stepped c w word
unfolding walked
step_is c w (written text) is = refl
step_is c w (given text) is = from_is c w.stopped w text is

abbrev pub steps : List Rule → Walk → List Word → Walk
steps c w [] = w
steps c w (word ∷ words) = steps c (stepped c w word) words

walk_is : (c : List Rule) (w : Walk) (words : List Word) → AreKnown words → fold (walked c []) w (texts_of words) ≡ steps c w words
walk_is c w [] are = refl
walk_is c w (word ∷ words) are = ap (λ v. fold (walked c []) v (texts_of words)) (step_is c w word are.0) ∙ walk_is c (stepped c w word) words are.1

-- ---- their faults

name_is_clear : (s : Shape) (is_trailing : Bool) (waiting : Waiting) (word : Text) (h : Held) → IsName word → word_fault s [] is_trailing waiting word h ≡ []
name_is_clear s true waiting word h is = refl
name_is_clear s false idle word h is = simp (is.no_end, is.no_flag)
name_is_clear s false (option id) word h is = simp (is.no_end, is.no_flag)
name_is_clear s false positional word h is = simp (is.no_end, is.no_flag)

abbrev name_fault : Shape → Walk → Text → Kinds
name_fault s w word =
    let met = name_met s.rules w.is_trailing w.waiting word w.held in
    if is_some w.stopped then [] else step_fault s w.position met.0 met.1

abbrev stepped_fault : Shape → Walk → Word → Kinds
stepped_fault s w (written text) = turn_fault s [] w text
stepped_fault s w (given text) = name_fault s w text

turn_is : (s : Shape) (w : Walk) (word : Word) → IsKnown word → turn_fault s [] w (text_of word) ≡ stepped_fault s w word
turn_is s w (written text) is = refl
turn_is s w (given text) is =
    ap₂ (λ (k : Kinds) (met : Held × Step). if is_some w.stopped then [] else or_else k (step_fault s w.position met.0 met.1))
    (name_is_clear s w.is_trailing w.waiting text w.held is) (met_is s.rules w.is_trailing w.waiting w.position text w.held is)

abbrev pub steps_fault : Shape → Walk → List Word → Kinds
steps_fault s w [] = []
steps_fault s w (word ∷ words) = or_else (stepped_fault s w word) (steps_fault s (stepped s.rules w word) words)

walk_fault_is : (s : Shape) (w : Walk) (words : List Word) → AreKnown words → walk_fault s [] w (texts_of words) ≡ steps_fault s w words
unfolding walk_fault
walk_fault_is s w [] are = refl
walk_fault_is s w (word ∷ words) are =
    ap₂ (λ (k : Kinds) (v : Walk). or_else k (walk_fault s [] v (texts_of words))) (turn_is s w word are.0) (step_is s.rules w word are.0)
    ∙ ap (or_else (stepped_fault s w word)) (walk_fault_is s (stepped s.rules w word) words are.1)

abbrev begun : Walk
begun = walk_from nothing_held

-- what comes behind the walk, by where it ended
abbrev pub behind : Shape → Held → Kinds
behind s held = or_else (settle_fault s.rules s.args_override_self held)
    (or_else (defaults_fault (settled s.rules held).rows s.rules) (check_fault s (finished s.rules held) false))

abbrev pub words_fault : Shape → List Word → Kinds
words_fault s words = or_else (steps_fault s begun words) (behind s (steps s.rules begun words).held)

abbrev pub words_rows : Shape → List Word → List Row
words_rows s words = finished s.rules (steps s.rules begun words).held

level_is : (s : Shape) (words : List Word) → AreKnown words → level_fault s [] nothing_held (texts_of words) false [] ≡ words_fault s words
level_is s words are =
    ap₂ (λ (k : Kinds) (w : Walk). or_else k (behind s w.held)) (walk_fault_is s begun words are) (walk_is s.rules begun words are)

-- ---- the command's name

abbrev program : App
program = built program_app

-- the command of this name
abbrev pub shape_named : Text → Shape
shape_named command = unwrap_or (find (λ s. answers_to command (label_of s)) program.subs) (new_shape [])

pub record IsEntered (command : Text) : Type 0 where
  pub stops : walked program.top.rules (names_of program) begun command ≡ stopped_at program.top (names_of program) begun command []
  pub clear : turn_fault program.top (names_of program) begun command ≡ []
  pub found : find (λ s. answers_to command (label_of s)) program.subs ≡ Some (shape_named command)
  pub named : (shape_named command).name ≡ command

module _ (command : Text) (is : IsEntered command) (rest : List Text) where
  abbrev end : Walk
  end = walk program.top.rules (names_of program) nothing_held (command ∷ rest)

  whole_walk : end ≡ stopped_at program.top (names_of program) begun command rest
  whole_walk = ap (λ v. fold (walked program.top.rules (names_of program)) v rest) is.stops ∙ stopped_walk program.top (names_of program) begun command [] rest

  walk_clear : walk_fault program.top (names_of program) begun (command ∷ rest) ≡ []
  unfolding walk_fault
  walk_clear =
      ap₂ (λ (k : Kinds) (v : Walk). or_else k (walk_fault program.top (names_of program) v rest)) is.clear is.stops
      ∙ stopped_fault program.top (names_of program) begun command [] rest

  abbrev top_behind : Bool → Held → Kinds
  top_behind entered held = or_else (settle_fault program.top.rules program.top.args_override_self held)
      (or_else (defaults_fault (settled program.top.rules held).rows program.top.rules) (check_fault program.top (finished program.top.rules held) entered))

  top_is_clear : top_behind true nothing_held ≡ []
  unfolding clap_on_literals program_app
  top_is_clear = refl

  abbrev found_fault : Option Shape → Kinds
  found_fault found = or_else (option_map_or (λ s. level_fault s [] nothing_held rest false []) found []) (top_behind (is_some (option_map (λ s. rows_at s rest) found)) nothing_held)

  -- the program finds no fault but that of the command
  pub fault_entered : fault_of program_app (command ∷ rest) ≡ level_fault (shape_named command) [] nothing_held rest false []
  unfolding program_app
  fault_entered =
      ap (λ k. or_else k (or_else (entered_fault program end.stopped) (top_behind (is_some (entered program end.stopped)) end.held))) walk_clear
      ∙ ap (λ (w : Walk). or_else (entered_fault program w.stopped) (top_behind (is_some (entered program w.stopped)) w.held)) whole_walk
      ∙ ap found_fault is.found
      ∙ ap (or_else (level_fault (shape_named command) [] nothing_held rest false [])) top_is_clear
      ∙ nothing_behind _

  pub rows_entered : subcommand_of program_app (command ∷ rest) ≡ Some ((shape_named command).name, rows_after (shape_named command).rules [] rest)
  unfolding program_app
  rows_entered = ap (λ (w : Walk). entered program w.stopped) whole_walk ∙ ap (λ found. option_map (λ s. rows_at s rest) found) is.found

-- a command's name and the words behind it are taken and ask for what is found in them
pub entering : (command : Text) → IsEntered command → (words : List Word) → AreKnown words → (asked : Command)
    → words_fault (shape_named command) words ≡ [] → command_in (command, words_rows (shape_named command) words) ≡ Some (Result.Ok asked)
    → AreWordsOf (command ∷ texts_of words) asked
unfolding command_by
entering command is words are asked clear asks = record {
  taken = taken _ (fault_entered command is (texts_of words) ∙ level_is (shape_named command) words are ∙ clear);
  asked =
      ap (option_and_then command_in) (rows_entered command is (texts_of words))
      ∙ ap (λ (w : Walk). command_in ((shape_named command).name, finished (shape_named command).rules w.held)) (walk_is (shape_named command).rules begun words are)
      ∙ ap (λ label. command_in (label, words_rows (shape_named command) words)) is.named
      ∙ asks;
}
