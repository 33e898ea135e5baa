-- What comes of the check of a text: its plan, or the fault that the first step with one finds. docs/CHECKER.md
use Rattle.std.specs.Prelude.{◌≡◌, ◌↔◌, ℕ, Bool, IsTrue, List, [], Some, Result, Ok, Err}
use Rattle.roc_lang.specs.Syntax.{Tree}
use Rattle.roc_lang.specs.Scope.{faults}
use Rattle.roc_lang.specs.declared.fault.LangError.{LangError}
use Rattle.roc_lang.specs.declared.fault.LangError.TheVariants as error
use Rattle.roc_lang_parse.specs.Fault.{IsWorkloadText, IsFirstFault}
use Rattle.roc_lang_scope.specs.Fault.{kind, first}
use Rattle.roc_lang_scope.specs.declared.fault.ScopeFault.{ScopeFault}
use Rattle.roc_lang_scope.specs.declared.fault.ScopeFault.TheVariants as misuse
use Rattle.roc_program.specs.Program.{Workload}
use Rattle.roc_program.specs.declared.piece_id.PieceId.{PieceId}
use Rattle.roc_lang_resolve.specs.Resolve.{resolved}
use Rattle.roc_conflict.specs.Immediate.{IsImmediate}
use Rattle.roc_scgraph.specs.declared.vertex.Vertex.{Vertex}
use Rattle.roc_witness.specs.Shortest.{IsShortestOf}
use Rattle.roc_merge_groups.specs.Core.{IsAcceptable}
use Rattle.roc_merge_groups.specs.Grouping.{IsMerged}
use Rattle.roc_merge_groups.specs.Refusals.{IsApart, IsBlocked}
use Rattle.roc_plan.specs.Groups.{Plan}
use Rattle.roc_plan.specs.Accepted.{grouped_plan}
use Rattle.roc_report.specs.Checked.{CheckedLine}
use Rattle.roc_report.specs.Checked as line
use Rattle.roc_check.specs.declared.fault.CheckFault.{CheckFault}
use Rattle.roc_check.specs.declared.fault.CheckFault.TheVariants.{Lang, Scope, Apart, Blocked, NoMemory}

-- ---- a program

-- these are the immediate pieces of a program: the least set that is closed under conflict and holds those declared `now`
abbrev pub AreImmediate : Workload → (PieceId → Bool) → Type 0
AreImmediate program immediate = (id : PieceId) → IsTrue (immediate id) ↔ IsImmediate program id

-- the plan of an acceptable program: the program in its merged groups
pub record IsPlanOf (program : Workload) (plan : Plan) : Type 0 where
  pub immediate : PieceId → Bool
  pub groups : List (List (List ℕ))
  pub are_immediate : AreImmediate program immediate
  pub acceptable : IsAcceptable program immediate
  pub merged : IsMerged program immediate groups
  pub is : plan ≡ grouped_plan program immediate groups

-- the line that refuses a program that is not acceptable: the first two pieces that are apart, or that one is between, and the cycle of
-- these two
pub data IsRefusedBy (program : Workload) : CheckedLine → Type 0 where
  apart : (immediate : PieceId → Bool) (p q : PieceId) (cycle : List Vertex) → AreImmediate program immediate
      → IsApart program immediate p q → IsShortestOf program immediate p q cycle → IsRefusedBy program (line.Apart p q cycle)
  blocked : (immediate : PieceId → Bool) (p q x : PieceId) (cycle : List Vertex) → AreImmediate program immediate
      → IsBlocked program immediate p q x → IsShortestOf program immediate p q cycle → IsRefusedBy program (line.Blocked p q x cycle)

-- ---- a text

-- the bytes are a workload text in scope, of this program
pub record IsTextOf (bytes : List ℕ) (program : Workload) : Type 0 where
  pub tree : Tree
  pub text : IsWorkloadText bytes tree
  pub in_scope : faults tree ≡ []
  pub is : program ≡ resolved tree

-- the bytes are a workload text in scope, of a program that has this plan
pub record IsPlanOfText (bytes : List ℕ) (plan : Plan) : Type 0 where
  pub text : IsTextOf bytes plan.program
  pub has : IsPlanOf plan.program plan

-- the bytes are a workload text in scope, of this program, which this line refuses
pub record IsRefusedText (bytes : List ℕ) (program : Workload) (said : CheckedLine) : Type 0 where
  pub text : IsTextOf bytes program
  pub refused : IsRefusedBy program said

-- the first fault of grammar
abbrev pub IsFirstError : List ℕ → LangError → Type 0
IsFirstError bytes (error.At number what) = IsFirstFault bytes number what
IsFirstError bytes error.NoMemory = ⊥

-- the first fault of scope
abbrev pub IsFirstMisuse : Tree → ScopeFault → Type 0
IsFirstMisuse tree (misuse.At number what) = first (faults tree) ≡ Some (record { kind = kind what; line = number })
IsFirstMisuse tree misuse.NoMemory = ⊥

-- what each fault says of the bytes; want of memory may come in place of all else
abbrev pub IsCheckFault : List ℕ → CheckFault → Type 0
IsCheckFault bytes (Lang fault) = IsFirstError bytes fault
IsCheckFault bytes (Scope fault) = (tree : Tree) × IsWorkloadText bytes tree × IsFirstMisuse tree fault
IsCheckFault bytes (Apart workload p q cycle) = IsRefusedText bytes workload (line.Apart p q cycle)
IsCheckFault bytes (Blocked workload p q x cycle) = IsRefusedText bytes workload (line.Blocked p q x cycle)
IsCheckFault bytes NoMemory = Unit {0}

-- the plan, or a fault
abbrev pub IsCheckOf : List ℕ → Result Plan CheckFault → Type 0
IsCheckOf bytes (Ok plan) = IsPlanOfText bytes plan
IsCheckOf bytes (Err fault) = IsCheckFault bytes fault

-- this plan, unless memory ran out
abbrev pub IsPlanned : Plan → Result Plan CheckFault → Type 0
IsPlanned plan (Ok made) = made ≡ plan
IsPlanned plan (Err NoMemory) = Unit {0}
IsPlanned plan (Err _) = ⊥
