-- How a workload gives its plan, or none
use Rattle.std.proofs.Common.{◌≡◌, inl, inr, ℕ, ◌≤◌, false, List, length, Option, Some, IfSome, Result, Ok, Err, refl, sym, ap, subst}
use Rattle.roc_io.specs.Cause.{HasCause}
use Rattle.roc_lang.specs.Grammar.{text_limit}
use Rattle.roc_lang.specs.declared.fault.LangError.{LangError}
use Rattle.roc_lang.specs.declared.fault.LangError.TheVariants as error
use Rattle.roc_lang_parse.specs.Fault.{IsWorkloadText, IsFirstFault}
use Rattle.roc_lang_scope.specs.Fault.{kind, first}
use Rattle.roc_lang_scope.specs.declared.fault.ScopeFault.{ScopeFault}
use Rattle.roc_lang_scope.specs.declared.fault.ScopeFault.TheVariants as misuse
use Rattle.roc_lang.specs.Scope.{faults}
use Rattle.roc_lang.specs.Syntax.{Tree}
use Rattle.roc_program.specs.Program.{Workload}
use Rattle.roc_plan.specs.Groups.{Plan}
use Rattle.roc_report.specs.Checked.{CheckedLine}
use Rattle.roc_check.specs.Checked.{IsRefusedText, IsFirstError, IsFirstMisuse}
use Rattle.roc_cli_files.specs.declared.fault.Fault.{Fault}
use Rattle.roc_cli_files.specs.declared.fault.Fault.TheVariants.{TooLong, At, Scope, Rejected, Memory, File, Sink}
use Rattle.roc_cli_files.specs.Held.{Holds, HoldsPlan}
use Rattle.roc_cli_files.specs.Fault.{blames_file, blames_sink, fails_by, ReadsBut}
use Rattle.roc_cli_files.specs.Input.{HoldsWithin, IsReadFault, PlanFails, PlanEnds, PrintEnds, CheckEnds}
use Rattle.roc_cli_files.specs.Inner.Input.{RejectionEnds, TextFails, TextEnds, TellsError, TellsMisuse, PrintTextEnds, CheckTextEnds}

-- ---- the check of bytes

-- a fault of grammar
pub told_error : (bytes name : List ℕ) (old : Option (List ℕ)) (found : LangError) (fault : Fault) → TellsError name found fault → IsFirstError bytes found → TextFails bytes name old old fault
told_error bytes name old (error.At number what) (At file line said) (e, f, g) is = (e, (what, subst (λ n. IsFirstFault bytes n what) (sym f) is, g), refl)
told_error bytes name old (error.At number what) _ told is = absurd told
told_error bytes name old error.NoMemory fault told is = absurd is

-- a fault of scope
pub told_misuse : (bytes name : List ℕ) (old : Option (List ℕ)) (found : ScopeFault) (fault : Fault) → TellsMisuse name found fault → (tree : Tree) → IsWorkloadText bytes tree → IsFirstMisuse tree found → TextFails bytes name old old fault
told_misuse bytes name old (misuse.At number what) (Scope file line said) (e, f, g) tree text is = (e, (tree, text, subst (λ n. first (faults tree) ≡ Some (record { kind = kind said; line = n })) (sym f) (subst (λ w. first (faults tree) ≡ Some (record { kind = kind w; line = number })) (sym g) is)), refl)
told_misuse bytes name old (misuse.At number what) _ told tree text is = absurd told
told_misuse bytes name old misuse.NoMemory fault told tree text is = absurd is

-- neither blames standard output
pub error_counted : (name : List ℕ) (found : LangError) (fault : Fault) (count : ℕ) → TellsError name found fault → HasCause (blames_sink fault) count count
error_counted name (error.At number what) (At file line said) count told = refl
error_counted name (error.At number what) _ count told = absurd told
error_counted name error.NoMemory fault count told = subst (λ f. HasCause (blames_sink f) count count) (sym told) refl

pub misuse_counted : (name : List ℕ) (found : ScopeFault) (fault : Fault) (count : ℕ) → TellsMisuse name found fault → HasCause (blames_sink fault) count count
misuse_counted name (misuse.At number what) (Scope file line said) count told = refl
misuse_counted name (misuse.At number what) _ count told = absurd told
misuse_counted name misuse.NoMemory fault count told = subst (λ f. HasCause (blames_sink f) count count) (sym told) refl

-- the line of a program that is not acceptable
pub rejection_fails : (bytes name : List ℕ) (program : Workload) (said : CheckedLine) (old new : Option (List ℕ)) (fault : Fault) → IsRefusedText bytes program said → RejectionEnds program said old new fault → TextFails bytes name old new fault
rejection_fails bytes name program said old new Rejected is adds = (program, said, is, adds)
rejection_fails bytes name program said old new Sink is front = (program, said, is, front)
rejection_fails bytes name program said old new Memory is same = same
rejection_fails bytes name program said old new _ is h = absurd h

-- ---- the file

-- a file that holds what it held
pub held_later : (later content : List ℕ → Option (List ℕ)) (name : List ℕ) (plan : Plan) → later name ≡ content name → HoldsPlan content name plan → HoldsPlan later name plan
held_later later content name plan e h = record { bytes = h.bytes; held = subst (λ o. IfSome o (λ held. held ≡ h.bytes)) (sym e) h.held; is = h.is }

module _ (content : List ℕ → Option (List ℕ)) (name : List ℕ) where
  -- it gave no bytes
  pub no_bytes : (old : Option (List ℕ)) (fault : Fault) → IsReadFault content name text_limit fault → PlanFails content name old old fault
  no_bytes old (TooLong file) h = (h, refl)
  no_bytes old (File file) h = (h, refl)
  no_bytes old Memory h = (h, refl)
  no_bytes old _ h = absurd h

  module _ (bytes taken : List ℕ) (held : HoldsWithin content name text_limit bytes) (e : taken ≡ bytes) where
    is_held : Holds content name taken
    is_held = subst (Holds content name) (sym e) held.held

    is_few : length taken ≤ text_limit
    is_few = subst (λ n. n ≤ text_limit) (sym (ap length e)) held.few

    -- its bytes were checked
    pub text_ends : (old new : Option (List ℕ)) (result : Result Plan Fault) → TextEnds taken name old new result → PlanEnds content name old new result
    text_ends old new (Ok plan) (is, same) = (record { bytes = taken; held = is_held; is = is }, same)
    text_ends old new (Err (At file line what)) (f, (w, first, said), same) = ((f, (w, record { bytes = taken; held = is_held; size = is_few; fault = first }, said)), same)
    text_ends old new (Err (Scope file line what)) (f, (tree, text, is), same) = ((f, record { tree = tree; of = record { bytes = taken; held = is_held; is = text }; is = is }), same)
    text_ends old new (Err Rejected) (program, said, is, adds) = (program, said, record { bytes = taken; held = is_held; is = is }, adds)
    text_ends old new (Err Sink) (program, said, is, front) = (program, said, record { bytes = taken; held = is_held; is = is }, front)
    text_ends old new (Err Memory) same = (tt, same)
    text_ends old new (Err _) h = absurd h

    -- its bytes were printed
    pub print_ends : (old new : Option (List ℕ)) (result : Result Unit Fault) → PrintTextEnds taken name old new result → PrintEnds content name old new result
    print_ends old new (Ok done) (tree, is, adds) = (tree, record { bytes = taken; held = is_held; is = is }, adds)
    print_ends old new (Err (At file line what)) (w, first, f, said, same) = ((f, (w, record { bytes = taken; held = is_held; size = is_few; fault = first }, said)), same)
    print_ends old new (Err Sink) (tree, is, front) = (tree, record { bytes = taken; held = is_held; is = is }, front)
    print_ends old new (Err Memory) same = (tt, same)
    print_ends old new (Err _) h = absurd h

  -- there are none to print
  pub unprinted : (old : Option (List ℕ)) (fault : Fault) → IsReadFault content name text_limit fault → PrintEnds content name old old (Err fault)
  unprinted old (TooLong file) h = (h, refl)
  unprinted old (File file) h = (h, refl)
  unprinted old Memory h = (h, refl)
  unprinted old _ h = absurd h

  -- it has a plan, whose check was written or not
  pub check_ends : (plan : Plan) (middle old new : Option (List ℕ)) (result : Result Unit Fault) → HoldsPlan content name plan → middle ≡ old
      → CheckTextEnds plan middle new result → CheckEnds content name old new result
  check_ends plan middle old new result held untouched ends = written result (subst (λ (o : Option (List ℕ)). CheckTextEnds plan o new result) untouched ends)
    where
      written : (result : Result Unit Fault) → CheckTextEnds plan old new result → CheckEnds content name old new result
      written (Ok done) adds = (plan, held, adds)
      written (Err Memory) same = (tt, same)
      written (Err Sink) front = inr (plan, held, front)
      written (Err _) h = absurd h

  -- it has none
  pub unchecked : (old new : Option (List ℕ)) (fault : Fault) → PlanFails content name old new fault → CheckEnds content name old new (Err fault)
  unchecked old new Sink h = inl h
  unchecked old new fault h = h

-- no check blames the file
module _ (bytes name : List ℕ) (old new : Option (List ℕ)) where
  pub check_counted : (before after : ℕ) (result : Result Plan Fault) → TextEnds bytes name old new result → HasCause false before after → HasCause (fails_by blames_file result) before after
  check_counted before after (Ok plan) h same = same
  check_counted before after (Err (At file line what)) h same = same
  check_counted before after (Err (Scope file line what)) h same = same
  check_counted before after (Err Rejected) h same = same
  check_counted before after (Err Sink) h same = same
  check_counted before after (Err Memory) h same = same
  check_counted before after (Err _) h same = absurd h

  pub check_reads : (before after : Option (List (List ℕ))) (result : Result Plan Fault) → TextEnds bytes name old new result → after ≡ before → ReadsBut before after result
  check_reads before after (Ok plan) h same = same
  check_reads before after (Err (At file line what)) h same = same
  check_reads before after (Err (Scope file line what)) h same = same
  check_reads before after (Err Rejected) h same = same
  check_reads before after (Err Sink) h same = same
  check_reads before after (Err Memory) h same = same
  check_reads before after (Err _) h same = absurd h
