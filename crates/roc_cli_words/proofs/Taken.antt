-- What `clap` says of the program's words.
use Rattle.std.proofs.Common.{◌≡◌, ◌⊎◌, inl, inr, List, [], ◌∷◌, Option, Some, None, Result, Ok, Err, Bool, true, false, refl, ap, subst, sym, ◌∙◌}
use Rattle.std.specs.Prelude.{option_map, option_and_then, is_some, find, ◌&&◌, not}
use Rattle.std.specs.Result.{result_map_both}
use Rattle.std.specs.List.{AllByRecursion, list_any}
use Rattle.clap.specs.Words.{App, Row, Shape, Text, is_simple, built, subcommand_of, subcommand_rows_of}
use Rattle.clap.specs.Simple.{entered, label_of, names_of, argument_words}
use Rattle.clap.specs.Walk.{Held, Names, answers_to, rows_after, finished, nothing_held, settled, walk, walk_from}
use Rattle.clap.specs.Facts.{explicit_source}
use Rattle.clap.specs.Takes.{is_given}
use Rattle.clap.specs.Faults.{fault_of, is_simple_and_free, level_fault, check_fault, walk_fault, settle_fault, defaults_fault, entered_fault}
use Rattle.clap.specs.Kinds.{IsAmong, Kinds, or_else, check_kinds}
use Rattle.clap.specs.declared.ArgMatches.{ArgMatches}
use Rattle.clap.specs.declared.error.ErrorKind.{ErrorKind}
use Rattle.clap.specs.declared.error.ErrorKind.TheVariants.{OutOfMemory}
use Rattle.clap.proofs.OnLiterals.{clap_on_literals}
use Rattle.roc_cli_words.specs.declared.value.ValueName.{ValueName}
use Rattle.roc_cli_words.specs.declared.answer.WordsFault.{WordsFault}
use Rattle.roc_cli_words.specs.declared.answer.WordsFault.TheVariants.{Refused, Value, NoMemory}
use Rattle.roc_cli_words.specs.declared.command.Ask.{Ask}
use Rattle.roc_cli_words.specs.Program.{program_app, IsTakenByClap}
use Rattle.roc_cli_words.specs.Commands.{Command, command_by, command_in, command_with}
use Rattle.roc_cli_words.specs.Answer.{AreWordsOf, AreNoCommand, HaveNoValue}
use Rattle.roc_cli_words.specs.Inner.Parsing.{ParsesWords, IsFaultOfKind}

pub program_is_simple : is_simple program_app ≡ true
unfolding clap_on_literals program_app
program_is_simple = refl

pub program_is_free : is_simple_and_free program_app ≡ true
unfolding clap_on_literals program_app
program_is_free = refl

pub taken : (words : List Text) → fault_of program_app words ≡ [] → IsTakenByClap words
unfolding IsTakenByClap
taken words none = none

pub refused : (words : List Text) (k : ErrorKind) (fault : WordsFault) → IsFaultOfKind k fault → (k ≡ OutOfMemory) ⊎ IsAmong k (fault_of program_app words)
    → ParsesWords words (Err fault)
unfolding IsTakenByClap
refused words k NoMemory is h = tt
refused words k (Value name) is h = is
refused words k (Refused text) is (inl memory) = absurd (is memory)
refused words k (Refused text) is (inr among) = λ none. subst (IsAmong k) none among

-- ---- words that are taken ask for something

or_else_none : (a b : Kinds) → or_else a b ≡ [] → (a ≡ []) × (b ≡ [])
or_else_none [] b e = (refl, e)
or_else_none (k ∷ ks) b e = absurd cc

no_missing : (help missing argument : Bool) → check_kinds help missing argument ≡ [] → missing ≡ false
no_missing true missing argument e = absurd cc
no_missing false true argument e = absurd cc
no_missing false false argument e = refl

entered_if : (has required : Bool) → required ≡ true → (not has && required) ≡ false → has ≡ true
entered_if true required is e = refl
entered_if false required is e = absurd (let t : true ≡ false = sym is ∙ e in cc)

level_checks : (s : Shape) (names : Names) (h : Held) (words : List Text) (has : Bool) (below : Kinds) → level_fault s names h words has below ≡ []
    → check_fault s (finished s.rules (walk s.rules names h words).held) has ≡ []
level_checks s names h words has below none =
    let end = (walk s.rules names h words).held in
    let checks = check_fault s (finished s.rules end) has in
    let defaults = defaults_fault (settled s.rules end).rows s.rules in
    let settles = settle_fault s.rules s.args_override_self end in
    let one = or_else_none (walk_fault s names (walk_from h) words) (or_else below (or_else settles (or_else defaults checks))) none in
    let two = or_else_none below (or_else settles (or_else defaults checks)) one.1 in
    let three = or_else_none settles (or_else defaults checks) two.1 in
    (or_else_none defaults checks three.1).1

check_missing : (s : Shape) (rows : List Row) (has : Bool) → check_fault s rows has ≡ [] → (not has && s.subcommand_required) ≡ false
check_missing s rows has none = no_missing (not has && (s.arg_required_else_help && not (list_any (λ r. explicit_source r.source) rows)))
    (not has && s.subcommand_required) (not (s.subcommand_negates_reqs && has) && list_any (λ a. a.required && not (is_given a.id rows)) s.rules) none

-- words without a fault enter a subcommand, where one is required
enters : (a : App) (words : List Text) → (built a).top.subcommand_required ≡ true → fault_of a words ≡ [] → is_some (subcommand_of a words) ≡ true
enters a words is none =
    let b = built a in
    let given = argument_words a words in
    let stop = (walk b.top.rules (names_of b) nothing_held given).stopped in
    let has = is_some (entered b stop) in
    let checks = level_checks b.top (names_of b) nothing_held given has (entered_fault b stop) none in
    entered_if has b.top.subcommand_required is (check_missing b.top (finished b.top.rules (walk b.top.rules (names_of b) nothing_held given).held) has checks)

abbrev with_rows : (Shape → List Row) → Shape → Text × List Row
with_rows rows s = (s.name, rows s)

-- whatever is given to this subcommand, it asks for something
abbrev IsOurs : Shape → Type 0
IsOurs s = (rows : List Row) → is_some (command_in (s.name, rows)) ≡ true

found_asks : (test : Shape → Bool) (rows : Shape → List Row) (subs : List Shape) → AllByRecursion IsOurs subs
    → is_some (option_map (with_rows rows) (find test subs)) ≡ true → is_some (option_and_then command_in (option_map (with_rows rows) (find test subs))) ≡ true
found_asks test rows [] all e = e
found_asks test rows (s ∷ subs) all e = go (test s) refl (found_asks test rows subs all.1)
  where
    go : (b : Bool) → test s ≡ b
        → (is_some (option_map (with_rows rows) (find test subs)) ≡ true → is_some (option_and_then command_in (option_map (with_rows rows) (find test subs))) ≡ true)
        → is_some (option_and_then command_in (option_map (with_rows rows) (find test (s ∷ subs)))) ≡ true
    go true t next = rw t (all.0 (rows s))
    go false t next = rw t (next (rw t at e))

asks : (a : App) (stop : Option (Text × List Text)) → AllByRecursion IsOurs a.subs
    → is_some (entered a stop) ≡ true → is_some (option_and_then command_in (entered a stop)) ≡ true
asks a None all e = e
asks a (Some p) all e = found_asks (λ s. answers_to p.0 (label_of s)) (λ s. rows_after s.rules [] p.1) a.subs all e

requires_one : (built program_app).top.subcommand_required ≡ true
unfolding clap_on_literals program_app
requires_one = refl

all_are_ours : AllByRecursion IsOurs (built program_app).subs
unfolding clap_on_literals program_app
all_are_ours = ((λ r. refl), ((λ r. refl), ((λ r. refl), ((λ r. refl), ((λ r. refl), ((λ r. refl), ((λ r. refl), ((λ r. refl), ((λ r. refl), tt)))))))))

taken_asks : (words : List Text) → IsTakenByClap words → is_some (command_by words) ≡ true
unfolding IsTakenByClap command_by
taken_asks words none = asks (built program_app) _ all_are_ours (enters program_app words requires_one none)

-- ---- what `ask` answers

abbrev commands : (logs : List Text) → Option (Result Ask ValueName) → Option (Result Command ValueName)
commands logs o = option_map (λ r. result_map_both (command_with logs) (λ name. name) r) o

module _ (words : List Text) (m : ArgMatches) (logs : List Text) (o : Option (Result Ask ValueName)) (given : ParsesWords words (Ok m)) (found : commands logs o ≡ option_and_then command_in (subcommand_rows_of m)) where
  -- what the words ask for was read off them
  asks_for : commands logs o ≡ command_by words
  unfolding command_by
  asks_for = found ∙ ap (option_and_then command_in) given.1

  pub asked : (ask : Ask) → o ≡ Some (Ok ask) → AreWordsOf words (command_with logs ask)
  asked ask is = record { taken = given.0; asked = sym asks_for ∙ ap (commands logs) is }

  pub no_value : (name : ValueName) → o ≡ Some (Err name) → HaveNoValue words name
  no_value name is = record { taken = given.0; asked = sym asks_for ∙ ap (commands logs) is }

  pub never_nothing : o ≡ None → ⊥
  never_nothing is =
      let nothing : is_some (command_by words) ≡ false = ap is_some (sym asks_for ∙ ap (commands logs) is) in
      let something = taken_asks words given.0 in
      cc

-- ---- what no command is asked for by

one_answer : (words : List Text) (name : ValueName) (command : Command) → command_by words ≡ Some (Err name) → command_by words ≡ Some (Ok command) → ⊥
one_answer words name command e f = let same : Some (Err name) ≡ Some (Ok command) = sym e ∙ f in absurd cc

pub valueless : (words : List Text) (name : ValueName) → HaveNoValue words name → AreNoCommand words
valueless words name is command asked = one_answer words name command is.asked asked.asked
