-- What the program makes of `audit` and names of files
use Rattle.std.proofs.Common.{◌≡◌, ◌≤◌, ◌<◌, List, [], ◌∷◌, length, take, Some, Ok, false, refl, ap, sym, ◌∙◌, codes, arith}
use Rattle.std.specs.Prelude.{fold, unwrap_or, option_and_then}
use Rattle.std.specs.List.{AllByRecursion}
use Rattle.std.proofs.lemmas.List.{take_all}
use Rattle.clap.specs.Words.{Row, Rule, Shape, Text}
use Rattle.clap.specs.Walk.{Walk, arg_by_index, finished, nothing_held, used, walk, walk_from, walked}
use Rattle.clap.specs.Simple.{new_rule}
use Rattle.clap.specs.Faults.{fault_of, level_fault, walk_fault, settle_fault}
use Rattle.clap.specs.Kinds.{or_else, range_kinds}
use Rattle.clap.specs.declared.error.kind.ErrorKind.TheVariants as kind
use Rattle.clap.proofs.OnLiterals.{clap_on_literals}
use Rattle.roc_cli_words.specs.Program.{program_app, IsTakenByClap}
use Rattle.roc_cli_words.specs.Commands.{audit, command_by, command_in, most_logs}
use Rattle.roc_cli_words.specs.Answer.{AreWordsOf, AreNoCommand, IsPlainWord}
use Rattle.roc_cli_words.proofs.Taken.{taken}
use Rattle.roc_cli_words.proofs.Named.{plain_word}
use Rattle.roc_cli_words.proofs.Entering.{IsEntered, shape_named, behind, fault_entered, rows_entered}
use Rattle.roc_cli_words.proofs.Several.{IsName, taking, taking_walk, taking_fault, TakesSeveral, nothing_behind, two_clear, range_clear, range_refuses}
use Rattle.roc_cli_words.proofs.Several.{texts_clear}

-- the shape of `audit` in the program, and its two arguments
abbrev shape : Shape
shape = shape_named (codes "audit")

abbrev workload_rule : Rule
workload_rule = unwrap_or (arg_by_index shape.rules 1) (new_rule [])

abbrev logs_rule : Rule
logs_rule = unwrap_or (arg_by_index shape.rules 2) (new_rule [])

abbrev begun : Walk
begun = walk_from nothing_held

enters_audit : IsEntered (codes "audit")
unfolding clap_on_literals program_app
enters_audit = record { stops = refl; clear = refl; found = refl; named = refl }

-- ---- the words of `audit`

takes : TakesSeveral shape logs_rule 2
unfolding program_app
takes = record { is = refl; several = refl; goes_on = refl; own = refl }

module _ (workload : Text) (named : IsName workload) (first : Text) (one : IsName first) (rest : List Text) (others : AllByRecursion IsName rest) where
  -- what is held of the workload
  abbrev held_rows : List Row
  held_rows = used workload_rule (workload ∷ []) []

  abbrev took : List Text → Walk
  took = taking logs_rule held_rows 0 2

  begins : walked shape.rules [] (walked shape.rules [] begun workload) first ≡ took (first ∷ [])
  unfolding clap_on_literals program_app
  begins = simp (named.no_end, named.no_flag, one.no_end, one.no_flag)

  begins_clear : walk_fault shape [] begun (workload ∷ first ∷ []) ≡ []
  unfolding clap_on_literals program_app
  begins_clear = simp (named.no_end, named.no_flag, one.no_end, one.no_flag)

  inner_walk : walk shape.rules [] nothing_held (workload ∷ first ∷ rest) ≡ took (first ∷ rest)
  inner_walk = ap (λ v. fold (walked shape.rules []) v rest) begins ∙ taking_walk shape logs_rule held_rows 0 2 takes (first ∷ []) rest others

  inner_clear : walk_fault shape [] begun (workload ∷ first ∷ rest) ≡ []
  unfolding clap_on_literals program_app
  inner_clear = two_clear _ _ _ begins_clear ∙ ap (λ v. walk_fault shape [] v rest) begins ∙ taking_fault shape logs_rule held_rows 0 2 takes (first ∷ []) rest others

  settle_is : settle_fault shape.rules shape.args_override_self (took (first ∷ rest)).held ≡ range_kinds 1 80 (length (first ∷ rest))
  unfolding clap_on_literals program_app
  settle_is = ap (or_else (range_kinds 1 80 (length (first ∷ rest)))) (texts_clear false (first ∷ rest)) ∙ nothing_behind _

  behind_is : behind shape (took (first ∷ rest)).held ≡ or_else (settle_fault shape.rules shape.args_override_self (took (first ∷ rest)).held) []
  unfolding clap_on_literals program_app
  behind_is = refl

  level_is : level_fault shape [] nothing_held (workload ∷ first ∷ rest) false [] ≡ range_kinds 1 80 (length (first ∷ rest))
  level_is =
      ap (λ k. or_else k (behind shape (walk shape.rules [] nothing_held (workload ∷ first ∷ rest)).held)) inner_clear
      ∙ ap (λ (w : Walk). behind shape w.held) inner_walk ∙ behind_is ∙ nothing_behind _ ∙ settle_is

  fault_is : fault_of program_app (codes "audit" ∷ workload ∷ first ∷ rest) ≡ range_kinds 1 80 (length (first ∷ rest))
  fault_is = fault_entered (codes "audit") enters_audit (workload ∷ first ∷ rest) ∙ level_is

  asks : command_by (codes "audit" ∷ workload ∷ first ∷ rest) ≡ Some (Ok (audit workload (take most_logs (first ∷ rest))))
  unfolding clap_on_literals program_app command_by
  asks =
      ap (option_and_then command_in) (rows_entered (codes "audit") enters_audit (workload ∷ first ∷ rest))
      ∙ ap (λ (w : Walk). command_in (codes "audit", finished shape.rules w.held)) inner_walk

  few : length (first ∷ rest) ≤ most_logs → AreWordsOf (codes "audit" ∷ workload ∷ first ∷ rest) (audit workload (first ∷ rest))
  few count = record {
    taken = taken _ (fault_is ∙ range_clear (length (first ∷ rest)) (omega arith) count);
    asked = asks ∙ ap (λ logs. Some (Ok (audit workload logs))) (take_all most_logs (first ∷ rest) count);
  }

  many : most_logs < length (first ∷ rest) → IsTakenByClap (codes "audit" ∷ workload ∷ first ∷ rest) → ⊥
  unfolding IsTakenByClap
  many past none = let both : [] ≡ kind.TooManyValues ∷ [] = sym none ∙ fault_is ∙ range_refuses (length (first ∷ rest)) past in absurd cc

-- ---- plain names

all_named : (logs : List Text) → AllByRecursion IsPlainWord logs → AllByRecursion IsName logs
all_named [] plain = tt
all_named (log ∷ logs) plain = (plain_word log plain.0, all_named logs plain.1)

pub audits : (workload : Text) (logs : List Text) → IsPlainWord workload → AllByRecursion IsPlainWord logs → 1 ≤ length logs → length logs ≤ most_logs
    → AreWordsOf (codes "audit" ∷ workload ∷ logs) (audit workload logs)
audits workload [] plain all some count = absurd (omega (arith, some))
audits workload (log ∷ logs) plain all some count = few workload (plain_word workload plain) log (plain_word log all.0) logs (all_named logs all.1) count

pub too_many : (workload : Text) (logs : List Text) → IsPlainWord workload → AllByRecursion IsPlainWord logs → most_logs < length logs
    → AreNoCommand (codes "audit" ∷ workload ∷ logs)
too_many workload [] plain all past = absurd (omega (arith, past))
too_many workload (log ∷ logs) plain all past =
    λ command are. many workload (plain_word workload plain) log (plain_word log all.0) logs (all_named logs all.1) past are.taken
