-- What the functions that read a schedule of a plan give
use Rattle.std.specs.Prelude.{◌≡◌, ◌⊎◌, ℕ, List, ◌∷◌, ◌++◌, Option, None, Result, Ok, Err}
use Rattle.std.specs.List.{AllByRecursion}
use Rattle.roc_program.specs.Program.{Workload}
use Rattle.roc_plan.specs.Groups.{Plan}
use Rattle.roc_epoch.specs.declared.next.Next.{Next}
use Rattle.roc_sched.specs.declared.fault.TextFault.{TextFault}
use Rattle.roc_sched.specs.declared.fault.TextFault.TheVariants.{At, NoMemory}
use Rattle.roc_sched.specs.declared.fault.What.{What}
use Rattle.roc_sched.specs.declared.line.Line.{Line}
use Rattle.roc_sched.specs.Schedule.{IsScheduleFault, fault_of}
use Rattle.roc_replay.specs.BoundLine.{played_forms, last_program, asked_by, IsUnfit}

-- what a function returned for the line of this number is what reading gives, unless memory ran out
abbrev pub GivesAtLine : {X : Type 0} → (number : ℕ) → Result X TextFault → Result X What → Type 0
GivesAtLine number (Ok x) read = read ≡ Ok x
GivesAtLine number (Err NoMemory) read = Unit {0}
GivesAtLine number (Err (At line what)) read = (line ≡ number) × (read ≡ Err what)

-- nothing keeps these lines from fitting the program
abbrev pub DoFit : Workload → List Line → Type 0
DoFit program lines = AllByRecursion (λ l. fault_of (asked_by program l) ≡ None) lines

-- of these lines, the first that does not fit the program has this number and fault
pub record IsFirstUnfit (program : Workload) (lines : List Line) (number : ℕ) (fault : What) : Type 0 where
  pub before : List Line
  pub line : Line
  pub behind : List Line
  pub parts : lines ≡ before ++ line ∷ behind
  pub fit : DoFit program before
  pub number_is : line.number ≡ number
  pub is : asked_by program line ≡ Err fault

-- where the lines do not fit, the first of them is blamed
abbrev pub IsUnfitBy : Workload → List Line → TextFault → Type 0
IsUnfitBy program lines NoMemory = Unit {0}
IsUnfitBy program lines (At line what) = IsFirstUnfit program lines line what

-- the bytes are no schedule, and this is their first fault; or they are one, and its first line that does not fit the last program is blamed
abbrev pub IsBlamed : Plan → Option Next → (text : List ℕ) → TextFault → Type 0
IsBlamed plan next text NoMemory = Unit {0}
IsBlamed plan next text (At line what) = IsScheduleFault (played_forms next) (last_program plan next).shards text line what ⊎ IsUnfit plan next text line what
