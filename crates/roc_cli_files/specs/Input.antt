-- What comes of reading one file: the bytes, or a fault, with what it tells of the file; and of writing what a workload is
use Rattle.std.specs.Prelude.{◌≡◌, ◌⊎◌, ℕ, ◌≤◌, List, length, Option, Result, Ok, Err}
use Rattle.roc_io.specs.Observed.{Adds, AddsFront}
use Rattle.roc_lang.specs.Grammar.{text_limit}
use Rattle.roc_lang.specs.Syntax.{Tree}
use Rattle.roc_lang.specs.declared.fault.What.{What}
use Rattle.roc_lang.specs.FaultText.{what_text}
use Rattle.roc_lang_print.specs.Canonical.{canonical}
use Rattle.roc_lang_scope.specs.Fault.{kind}
use Rattle.roc_program.specs.Program.{Workload}
use Rattle.roc_plan.specs.Groups.{Plan}
use Rattle.roc_report.specs.Checked.{CheckedLine}
use Rattle.roc_report.specs.Checked.{checked_text, checked_lines_text}
use Rattle.roc_check.specs.Lines.{check_lines}
use Rattle.roc_cli_files.specs.declared.fault.Fault.{Fault}
use Rattle.roc_cli_files.specs.declared.fault.Fault.TheVariants.{TooLong, At, Scope, Rejected, Memory, File, Sink}
use Rattle.roc_cli_files.specs.Held.{Holds, HoldsMore, HoldsText, HoldsFault, HoldsMisuse, HoldsPlan, HoldsRejected}

-- the name holds these bytes, which are not too many
pub record HoldsWithin (content : List ℕ → Option (List ℕ)) (name : List ℕ) (most : ℕ) (bytes : List ℕ) : Type 0 where
  pub held : Holds content name bytes
  pub few : length bytes ≤ most

-- why there are no bytes
abbrev pub IsReadFault : (List ℕ → Option (List ℕ)) → List ℕ → ℕ → Fault → Type 0
IsReadFault content name most (TooLong file) = (file.now ≡ name) × HoldsMore content name most
IsReadFault content name most (File file) = file.now ≡ name
IsReadFault content name most Memory = Unit {0}
IsReadFault content name most _ = ⊥

-- this is the name, and it holds bytes with this first fault of grammar
abbrev pub IsGrammarFault : (List ℕ → Option (List ℕ)) → (name file : List ℕ) → (line : ℕ) → (what : List ℕ) → Type 0
IsGrammarFault content name file line what = (file ≡ name) × ((w : What) × HoldsFault content name line w × (what ≡ what_text w))

-- why there is no program
abbrev pub IsProgramFault : (List ℕ → Option (List ℕ)) → List ℕ → Fault → Type 0
IsProgramFault content name (At file line what) = IsGrammarFault content name file.now line what.now
IsProgramFault content name (Scope file line what) = (file.now ≡ name) × HoldsMisuse content name (record { kind = kind what; line = line })
IsProgramFault content name fault = IsReadFault content name text_limit fault

-- why there is no plan, where standard output took what is said of a workload that is not acceptable
abbrev pub PlanFails : (List ℕ → Option (List ℕ)) → (name : List ℕ) → (old new : Option (List ℕ)) → Fault → Type 0
PlanFails content name old new Rejected = (program : Workload) × (said : CheckedLine) × HoldsRejected content name program said × Adds old new (checked_text program said)
PlanFails content name old new Sink = (program : Workload) × (said : CheckedLine) × HoldsRejected content name program said × AddsFront old new (checked_text program said)
PlanFails content name old new fault = IsProgramFault content name fault × (new ≡ old)

-- the plan, or why there is none
abbrev pub PlanEnds : (List ℕ → Option (List ℕ)) → (name : List ℕ) → (old new : Option (List ℕ)) → Result Plan Fault → Type 0
PlanEnds content name old new (Ok plan) = HoldsPlan content name plan × (new ≡ old)
PlanEnds content name old new (Err fault) = PlanFails content name old new fault

-- ---- what standard output takes of a workload

-- the text of `check`
abbrev pub check_text : Plan → List ℕ
check_text plan = checked_lines_text plan.program (check_lines plan)

-- how the print of a workload ends
abbrev pub PrintEnds : (List ℕ → Option (List ℕ)) → (name : List ℕ) → (old new : Option (List ℕ)) → Result Unit Fault → Type 0
PrintEnds content name old new (Ok done) = (tree : Tree) × HoldsText content name tree × Adds old new (canonical tree)
PrintEnds content name old new (Err (At file line what)) = IsGrammarFault content name file.now line what.now × (new ≡ old)
PrintEnds content name old new (Err Sink) = (tree : Tree) × HoldsText content name tree × AddsFront old new (canonical tree)
PrintEnds content name old new (Err fault) = IsReadFault content name text_limit fault × (new ≡ old)

-- how the check of a workload ends
abbrev pub CheckEnds : (List ℕ → Option (List ℕ)) → (name : List ℕ) → (old new : Option (List ℕ)) → Result Unit Fault → Type 0
CheckEnds content name old new (Ok done) = (plan : Plan) × HoldsPlan content name plan × Adds old new (check_text plan)
CheckEnds content name old new (Err Sink) = PlanFails content name old new Sink ⊎ ((plan : Plan) × HoldsPlan content name plan × AddsFront old new (check_text plan))
CheckEnds content name old new (Err fault) = PlanFails content name old new fault
