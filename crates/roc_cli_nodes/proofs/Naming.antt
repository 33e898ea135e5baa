-- Which command words ask for, and which files they name
use Rattle.std.proofs.Common.{◌≡◌, ℕ, List, [], Option, Some, None, Result, Ok, Err, false, sym, ap, ◌∙◌, ◌==◌}
use Rattle.std.specs.Option.{option_map, option_and_then}
use Rattle.std.proofs.lemmas.Bool.{eq-eqb, false≢true}
use Rattle.std.proofs.lemmas.Option.{same_Some, none-some}
use Rattle.roc_cli_words.specs.declared.value.ValueName.{ValueName}
use Rattle.roc_cli_words.specs.Commands.{Command, check, print, replay, serve, submit, stop, local, gen, audit}
use Rattle.roc_cli_words.specs.Answer.{AreWordsOf}
use Rattle.roc_cli_nodes.specs.Words.{IsReplay, node_files, program_of, workload_of, next_of, Name, NamesProgram, NamesWorkload, NamesNext, NamesNodeFiles}
use Rattle.roc_cli_files.specs.Held.{NodeFiles}

command_or : Command → Option (Result Command ValueName) → Command
command_or c (Some (Ok d)) = d
command_or c (Some (Err name)) = c
command_or c None = c

-- words ask for one command
pub one_command : (words : List (List ℕ)) (c d : Command) → AreWordsOf words c → AreWordsOf words d → c ≡ d
unfolding command_or
one_command words c d is other = sym (ap (command_or c) is.asked) ∙ ap (command_or c) other.asked

-- what tells commands apart
abbrev pub kind : Command → ℕ
kind (check workload) = 0
kind (print workload) = 1
kind (replay workload schedule growth) = 2
kind (serve workload cluster shard turns counts journal log growth) = 3
kind (submit workload cluster requests coord turns log growth) = 4
kind (stop workload cluster) = 5
kind (local workload cluster requests turns) = 6
kind (gen seed shards txns part) = 7
kind (audit workload logs) = 8

-- the words of one command are not those of another
pub unlike : (A : Type 0) (words : List (List ℕ)) (c d : Command) → AreWordsOf words c → AreWordsOf words d → (kind c == kind d) ≡ false → A
unlike A words c d is other differ = absurd (false≢true (sym differ ∙ eq-eqb (kind c) (kind d) (ap kind (one_command words c d is other))))

-- words name one thing of a kind, or none
pub same_name : {A : Type 0} (of : Command → Option A) (words : List (List ℕ)) (a b : A) → Name of words a → Name of words b → a ≡ b
same_name of words a b (c, is, e) (d, other, f) = same_Some a b (sym e ∙ (ap of (one_command words c d is other) ∙ f))

pub no_name : {A : Type 0} (of : Command → Option A) (words : List (List ℕ)) (c : Command) → AreWordsOf words c → of c ≡ None → (a : A) → Name of words a → ⊥
no_name of words c is none a (d, other, f) = none-some a (sym none ∙ (ap of (one_command words c d is other) ∙ f))

-- a replay's schedule is one, and so is what its workload grows to
second_name : Command → List ℕ
second_name (replay workload schedule growth) = schedule
second_name _ = []

growth_in : Command → Option (List ℕ × ℕ)
growth_in (replay workload schedule growth) = growth
growth_in _ = None

module _ (words : List (List ℕ)) (workload schedule name other : List ℕ) (growth more : Option (List ℕ × ℕ)) (given : IsReplay words workload schedule growth) (is : IsReplay words name other more) where
  pub replay_schedule : other ≡ schedule
  unfolding second_name
  replay_schedule = ap second_name (one_command words (replay name other more) (replay workload schedule growth) is given)

  pub replay_growth : more ≡ growth
  unfolding growth_in
  replay_growth = ap growth_in (one_command words (replay name other more) (replay workload schedule growth) is given)

-- ---- the workload

program_is_workload : (c : Command) (name : List ℕ) → program_of c ≡ Some name → workload_of c ≡ Some name
program_is_workload (check workload) name e = e
program_is_workload (print workload) name e = absurd (none-some name e)
program_is_workload (replay workload schedule growth) name e = e
program_is_workload (serve workload cluster shard turns counts journal log growth) name e = e
program_is_workload (submit workload cluster requests coord turns log growth) name e = e
program_is_workload (stop workload cluster) name e = e
program_is_workload (local workload cluster requests turns) name e = e
program_is_workload (gen seed shards txns part) name e = absurd (none-some name e)
program_is_workload (audit workload logs) name e = e

pub as_workload : (words : List (List ℕ)) (name : List ℕ) → NamesProgram words name → NamesWorkload words name
as_workload words name (c, is, e) = (c, is, program_is_workload c name e)

workload_in : Option NodeFiles → Option (List ℕ)
workload_in files = option_map (λ (f : NodeFiles). f.workload) files

files_name_program : (c : Command) (files : NodeFiles) → node_files c ≡ Some files → program_of c ≡ Some files.workload
unfolding workload_in
files_name_program (check workload) files e = absurd (none-some files e)
files_name_program (print workload) files e = absurd (none-some files e)
files_name_program (replay workload schedule growth) files e = absurd (none-some files e)
files_name_program (serve workload cluster shard turns counts journal log growth) files e = ap workload_in e
files_name_program (submit workload cluster requests coord turns log growth) files e = ap workload_in e
files_name_program (stop workload cluster) files e = ap workload_in e
files_name_program (local workload cluster requests turns) files e = ap workload_in e
files_name_program (gen seed shards txns part) files e = absurd (none-some files e)
files_name_program (audit workload logs) files e = absurd (none-some files e)

pub as_program : (words : List (List ℕ)) (files : NodeFiles) → NamesNodeFiles words files → NamesProgram words files.workload
as_program words files (c, is, e) = (c, is, files_name_program c files e)

-- ---- what it is to grow to

next_in : Option NodeFiles → Option (List ℕ)
next_in files = option_and_then (λ (f : NodeFiles). option_map (λ g. g.0) f.next) files

files_name_next : (c : Command) (files : NodeFiles) → node_files c ≡ Some files → next_of c ≡ next_in (Some files)
unfolding next_in
files_name_next (check workload) files e = absurd (none-some files e)
files_name_next (print workload) files e = absurd (none-some files e)
files_name_next (replay workload schedule growth) files e = absurd (none-some files e)
files_name_next (serve workload cluster shard turns counts journal log growth) files e = ap next_in e
files_name_next (submit workload cluster requests coord turns log None) files e = ap next_in e
files_name_next (submit workload cluster requests coord turns log (Some growth)) files e = ap next_in e
files_name_next (stop workload cluster) files e = ap next_in e
files_name_next (local workload cluster requests turns) files e = ap next_in e
files_name_next (gen seed shards txns part) files e = absurd (none-some files e)
files_name_next (audit workload logs) files e = absurd (none-some files e)

pub as_next : (words : List (List ℕ)) (files : NodeFiles) (name : List ℕ) (coords : ℕ) → NamesNodeFiles words files → files.next ≡ Some (name, coords) → NamesNext words name
unfolding next_in
as_next words files name coords (c, is, e) f = (c, is, files_name_next c files e ∙ ap (λ (g : Option (List ℕ × ℕ)). option_map (λ p. p.0) g) f)
