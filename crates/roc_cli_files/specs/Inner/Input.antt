-- What comes of the bytes that a file holds
use Rattle.std.specs.Prelude.{◌≡◌, ℕ, List, Option, Some, Result, Ok, Err}
use Rattle.roc_io.specs.Observed.{Adds, AddsFront}
use Rattle.roc_lang.specs.Scope.{faults}
use Rattle.roc_lang.specs.Syntax.{Tree}
use Rattle.roc_lang_parse.specs.Fault.{IsWorkloadText, IsFirstFault}
use Rattle.roc_lang_print.specs.Canonical.{canonical}
use Rattle.roc_lang.specs.declared.fault.What.{What}
use Rattle.roc_lang.specs.declared.fault.LangError.{LangError}
use Rattle.roc_lang.specs.declared.fault.LangError.TheVariants as error
use Rattle.roc_lang.specs.FaultText.{what_text}
use Rattle.roc_lang_scope.specs.declared.fault.ScopeWhat.{ScopeWhat}
use Rattle.roc_lang_scope.specs.declared.fault.ScopeFault.{ScopeFault}
use Rattle.roc_lang_scope.specs.declared.fault.ScopeFault.TheVariants as misuse
use Rattle.roc_lang_scope.specs.Fault.{kind, first}
use Rattle.roc_program.specs.Program.{Workload}
use Rattle.roc_plan.specs.Groups.{Plan}
use Rattle.roc_report.specs.Checked.{CheckedLine}
use Rattle.roc_report.specs.Checked.{checked_text}
use Rattle.roc_check.specs.Checked.{IsPlanOfText, IsRefusedText}
use Rattle.roc_cli_files.specs.declared.fault.Fault.{Fault}
use Rattle.roc_cli_files.specs.declared.fault.Fault.TheVariants.{At, Scope, Rejected, Memory, Sink}
use Rattle.roc_cli_files.specs.Input.{check_text}

-- what is written of a program that is not acceptable
abbrev pub RejectionEnds : Workload → CheckedLine → (old new : Option (List ℕ)) → Fault → Type 0
RejectionEnds program said old new Rejected = Adds old new (checked_text program said)
RejectionEnds program said old new Sink = AddsFront old new (checked_text program said)
RejectionEnds program said old new Memory = new ≡ old
RejectionEnds program said old new _ = ⊥

abbrev pub TextFails : (bytes name : List ℕ) → (old new : Option (List ℕ)) → Fault → Type 0
TextFails bytes name old new (At file line what) = (file.now ≡ name) × ((w : What) × IsFirstFault bytes line w × (what.now ≡ what_text w)) × (new ≡ old)
TextFails bytes name old new (Scope file line what) =
    (file.now ≡ name) × ((tree : Tree) × IsWorkloadText bytes tree × (first (faults tree) ≡ Some (record { kind = kind what; line = line }))) × (new ≡ old)
TextFails bytes name old new Memory = new ≡ old
TextFails bytes name old new Rejected = (program : Workload) × (said : CheckedLine) × IsRefusedText bytes program said × Adds old new (checked_text program said)
TextFails bytes name old new Sink = (program : Workload) × (said : CheckedLine) × IsRefusedText bytes program said × AddsFront old new (checked_text program said)
TextFails bytes name old new _ = ⊥

abbrev pub TextEnds : (bytes name : List ℕ) → (old new : Option (List ℕ)) → Result Plan Fault → Type 0
TextEnds bytes name old new (Ok plan) = IsPlanOfText bytes plan × (new ≡ old)
TextEnds bytes name old new (Err fault) = TextFails bytes name old new fault

-- ---- faults of a workload's text

-- the fault is this one of grammar, in the file of this name
abbrev pub IsTextFault : List ℕ → ℕ → List ℕ → Fault → Type 0
IsTextFault name number word (At file line what) = (file.now ≡ name) × (line ≡ number) × (what.now ≡ word)
IsTextFault name number word _ = ⊥

abbrev pub TellsError : List ℕ → LangError → Fault → Type 0
TellsError name (error.At line what) fault = IsTextFault name line (what_text what) fault
TellsError name error.NoMemory fault = fault ≡ Memory

-- the fault is this one of scope, in the file of this name
abbrev pub IsMisuse : List ℕ → ℕ → ScopeWhat → Fault → Type 0
IsMisuse name number found (Scope file line what) = (file.now ≡ name) × (line ≡ number) × (what ≡ found)
IsMisuse name number found _ = ⊥

abbrev pub TellsMisuse : List ℕ → ScopeFault → Fault → Type 0
TellsMisuse name (misuse.At line what) fault = IsMisuse name line what fault
TellsMisuse name misuse.NoMemory fault = fault ≡ Memory

-- ---- what standard output takes

-- how the print of a workload's bytes ends
abbrev pub PrintTextEnds : (bytes name : List ℕ) → (old new : Option (List ℕ)) → Result Unit Fault → Type 0
PrintTextEnds bytes name old new (Ok done) = (tree : Tree) × IsWorkloadText bytes tree × Adds old new (canonical tree)
PrintTextEnds bytes name old new (Err (At file line what)) = (w : What) × IsFirstFault bytes line w × (file.now ≡ name) × (what.now ≡ what_text w) × (new ≡ old)
PrintTextEnds bytes name old new (Err Memory) = new ≡ old
PrintTextEnds bytes name old new (Err Sink) = (tree : Tree) × IsWorkloadText bytes tree × AddsFront old new (canonical tree)
PrintTextEnds bytes name old new _ = ⊥

-- how the text of the check of a plan ends
abbrev pub CheckTextEnds : Plan → (old new : Option (List ℕ)) → Result Unit Fault → Type 0
CheckTextEnds plan old new (Ok done) = Adds old new (check_text plan)
CheckTextEnds plan old new (Err Memory) = new ≡ old
CheckTextEnds plan old new (Err Sink) = AddsFront old new (check_text plan)
CheckTextEnds plan old new _ = ⊥
