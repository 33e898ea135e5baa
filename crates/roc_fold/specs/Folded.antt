-- What the fold of a log tells, or the first line that does not fit it: docs/PROTOCOL.md, "Auditing"
use Rattle.std.specs.Prelude.{◌≡◌, ◌≢◌, ℕ, ◌+◌, List, [], ◌∷◌, ◌++◌, Result, Ok, Err, length, map}
use Rattle.std.specs.List.{flat_map}
use Rattle.roc_base.specs.declared.id.TxnId.{TxnId}
use Rattle.roc_group.specs.declared.access.Access.{Access}
use Rattle.roc_base.specs.declared.node.Node.{Node}
use Rattle.roc_msg.specs.declared.outbox.Ran.{Ran}
use Rattle.roc_plan.specs.Groups.{Plan}
use Rattle.roc_wire.specs.declared.header.Header.{Header}
use Rattle.roc_step.specs.declared.waiting.Waiting.{Waiting}
use Rattle.roc_step.specs.Waiting.{waiting_groups}
use Rattle.roc_step.specs.New.{AreDecided}
use Rattle.roc_log.specs.declared.line.LogLine.{LogLine}
use Rattle.roc_log.specs.declared.line.Log.{Log}
use Rattle.roc_judge.specs.declared.folded.Folded.{Folded}
use Rattle.roc_fold.specs.Told.{told_by}
use Rattle.roc_fold.specs.Fold.{Core, serving, coordinating, first_core, Folding, FoldsTo, Refuses}

-- a node's messages carry the workload's tag and its name
abbrev pub header_of : Log → Header
header_of log = record { tag = log.tag; from = log.node }

-- what waits on a server, access by access
abbrev pub access_by : TxnId → Access → Ran
access_by id a = record { id = id; cell = a.cell; writes = a.writes }

abbrev pub accesses_waiting : List Waiting → List Ran
accesses_waiting groups = flat_map (λ w. map (access_by w.id) w.cells) groups

abbrev pub AreWaiting : Plan → Core → List Ran → Type 0
AreWaiting plan (serving s v) waits = (decided : List TxnId) → AreDecided s.lists.links decided → waits ≡ accesses_waiting (waiting_groups plan decided s)
AreWaiting plan (coordinating c) waits = waits ≡ []

-- all lines of a node fold, nothing is due behind them, and this is what they tell
pub record IsFoldOfLines (plan : Plan) (header : Header) (node : Node) (lines : List LogLine) (folded : Folded) : Type 0 where
  pub fold : Folding
  pub folds : FoldsTo plan header (first_core plan node) lines fold
  pub ended : fold.due ≡ []
  pub told : folded.told ≡ told_by node lines
  pub decided : folded.decided ≡ fold.decided
  pub ran : folded.ran ≡ fold.ran
  pub waits : AreWaiting plan fold.core folded.waits

-- the first line that does not stand next, or one past the last where a line is due then; the first line says the node
pub data IsMismatchOf (plan : Plan) (header : Header) (node : Node) (lines : List LogLine) : ℕ → Type 0 where
  at_line : (front behind : List LogLine) (line : LogLine) (f : Folding)
      → FoldsTo plan header (first_core plan node) front f → lines ≡ front ++ line ∷ behind → Refuses plan header f line
      → IsMismatchOf plan header node lines (2 + length front)
  at_end : (f : Folding) → FoldsTo plan header (first_core plan node) lines f → f.due ≢ [] → IsMismatchOf plan header node lines (2 + length lines)

-- what the lines tell, or the first that does not stand next
abbrev pub IsFoundOf : Plan → Header → Node → (lines : List LogLine) → Result Folded ℕ → Type 0
IsFoundOf plan header node lines (Ok folded) = IsFoldOfLines plan header node lines folded
IsFoundOf plan header node lines (Err number) = IsMismatchOf plan header node lines number

-- the same of a log
abbrev pub IsFolded : Plan → Log → Folded → Type 0
IsFolded plan log folded = IsFoldOfLines plan (header_of log) log.node log.lines folded

abbrev pub IsMismatchAt : Plan → Log → ℕ → Type 0
IsMismatchAt plan log number = IsMismatchOf plan (header_of log) log.node log.lines number

abbrev pub IsFound : Plan → Log → Result Folded ℕ → Type 0
IsFound plan log found = IsFoundOf plan (header_of log) log.node log.lines found
