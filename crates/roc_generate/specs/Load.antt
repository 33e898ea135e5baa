-- What the generated texts are to each other: docs/FORMATS.md, "Generated load"
use Rattle.std.specs.Prelude.{◌≡◌, ℕ, ◌<◌, Bool, List, length, Some, None, slice_index_or}
use Rattle.std.specs.List.{AllByRecursion}
use Rattle.roc_lang.specs.Syntax.{Tree}
use Rattle.roc_lang_parse.specs.Fault.{IsWorkloadText}
use Rattle.roc_lang_print.specs.Canonical.{canonical}
use Rattle.roc_program.specs.Program.{Workload}
use Rattle.roc_program.specs.LookUps.{no_procedure, procedure_named}
use Rattle.roc_sched.specs.declared.forms.Forms.{Forms}
use Rattle.roc_sched.specs.declared.line.Act.{Act}
use Rattle.roc_sched.specs.declared.line.Act.TheVariants.{Submit, Deliver, Any, Tick, Stop, Drain}
use Rattle.roc_sched.specs.declared.line.Line.{Line}
use Rattle.roc_sched.specs.Schedule.{IsSchedule}

-- the bytes are a workload text, and the canonical one of its tree
pub record IsCanonicalText (bytes : List ℕ) : Type 0 where
  pub tree : Tree
  pub text : IsWorkloadText bytes tree
  pub canonical : bytes ≡ canonical tree

-- a call of a procedure of the program, with as many arguments as it takes, at one of sixteen coordinators; or a choice among messages,
-- which no number names
abbrev pub IsCallOrChoice : Workload → Act → Type 0
IsCallOrChoice program (Submit coord name args) =
    (coord < 16) × ((proc : ℕ) × (procedure_named program name ≡ Some proc) × (length args ≡ (slice_index_or program.procedures proc no_procedure).arguments))
IsCallOrChoice program (Deliver message) = ⊥
IsCallOrChoice program (Any place) = Unit {0}
IsCallOrChoice program (Tick node) = ⊥
IsCallOrChoice program (Stop shard during) = ⊥
IsCallOrChoice program (Drain coord) = ⊥

-- sixteen coordinators, whether `stop` lines are taken or not
abbrev pub forms_with : (stops : Bool) → Forms
forms_with stops = record { stops = stops; coords = None }

-- the bytes are a schedule of these lines for the program's shards, each of which is such a call or a choice; it matters not which further lines
-- are taken
pub record IsLoadOf (program : Workload) (schedule : List ℕ) (lines : List Line) : Type 0 where
  pub read : (stops : Bool) → IsSchedule (forms_with stops) program.shards schedule lines
  pub fits : AllByRecursion (λ line. IsCallOrChoice program line.act) lines
