-- Logs, their first faults, and which logs may be written: docs/FORMATS.md, "Logs"
use Rattle.std.specs.Prelude.{◌≡◌, ℕ, ◌+◌, ◌<◌, ◌≤◌, ◌^◌, Bool, false, IsTrue, IsFalse, List, [], ◌∷◌, ◌++◌, length, Some, Result, Ok, Err, FitsSigned}
use Rattle.std.specs.List.{AllByRecursion, list_any}
use Rattle.std.specs.Int.{w64}
use Rattle.hex.specs.Hex.{IsBytes}
use Rattle.roc_base.specs.declared.node.Node.{Node}
use Rattle.roc_base.specs.declared.node.Node.TheVariants.{Server, Coord}
use Rattle.roc_base.specs.Node.{is_node}
use Rattle.roc_program.specs.Program.{Workload}
use Rattle.roc_program.specs.LookUps.{procedure_named, procedure_name, is_view_in}
use Rattle.roc_sched.specs.Numbers.{is_name}
use Rattle.roc_sched.specs.Acts.{is_there}
use Rattle.roc_log.specs.declared.fault.What.{What}
use Rattle.roc_log.specs.declared.fault.What.TheVariants.{Word}
use Rattle.roc_log.specs.declared.fault.LogFault.{LogFault}
use Rattle.roc_log.specs.declared.fault.LogFault.TheVariants.{At, NoMemory}
use Rattle.roc_log.specs.declared.line.LogLine.{LogLine}
use Rattle.roc_log.specs.declared.line.LogLine.TheVariants.{Submit, In, Tick, Out, Answer}
use Rattle.roc_log.specs.declared.line.Log.{Log}
use Rattle.roc_log.specs.Words.{log_lines, is_datagram}
use Rattle.roc_log.specs.Reading.{first_line, further_line, ends, arguments_of}

-- ---- logs

-- lines behind the first are these, one by one
abbrev pub AreLines : Workload → (tag : List ℕ) → Node → (ended : Bool) → (lines : List (List ℕ)) → List LogLine → Type 0
AreLines program tag node ended [] [] = Unit {0}
AreLines program tag node ended [] (read ∷ reads) = ⊥
AreLines program tag node ended (line ∷ lines) [] = ⊥
AreLines program tag node ended (line ∷ lines) (read ∷ reads) =
    (further_line program tag node ended line ≡ Ok read) × AreLines program tag node (ends node read) lines reads

-- the bytes are this log with this tag, of a node of which there is none among those seen
pub record IsLog (program : Workload) (tag : List ℕ) (seen : List Node) (text : List ℕ) (log : Log) : Type 0 where
  pub tagged : log.tag ≡ tag
  pub first : List ℕ
  pub further : List (List ℕ)
  pub lines : log_lines text ≡ first ∷ further
  pub node : first_line program.shards seen first ≡ Ok log.node
  pub read : AreLines program tag log.node false further log.lines

-- ---- faults

-- whether a log has ended behind these lines
abbrev pub ended_behind : Node → (ended : Bool) → List LogLine → Bool
ended_behind node ended [] = ended
ended_behind node ended (read ∷ reads) = ended_behind node (ends node read) reads

-- the first line that is wrong, and what is wrong with it; no bytes lack the first line
pub data IsLogFault (program : Workload) (tag : List ℕ) (seen : List Node) (text : List ℕ) : (line : ℕ) → What → Type 0 where
  no_line : log_lines text ≡ [] → IsLogFault program tag seen text 1 Word
  at_first : (first : List ℕ) (further : List (List ℕ)) (what : What)
      → log_lines text ≡ first ∷ further → first_line program.shards seen first ≡ Err what → IsLogFault program tag seen text 1 what
  at_further : (first : List ℕ) (before : List (List ℕ)) (line : List ℕ) (behind : List (List ℕ)) (node : Node) (reads : List LogLine) (what : What)
      → log_lines text ≡ first ∷ (before ++ line ∷ behind) → first_line program.shards seen first ≡ Ok node → AreLines program tag node false before reads
      → further_line program tag node (ended_behind node false reads) line ≡ Err what → IsLogFault program tag seen text (2 + length before) what

-- what was returned is this log, unless memory ran out
abbrev pub IsLogOr : (log : Log) → Result Log LogFault → Type 0
IsLogOr log (Ok read) = read ≡ log
IsLogOr log (Err NoMemory) = Unit {0}
IsLogOr log (Err (At line what)) = ⊥

-- where something is wrong with the bytes, this is the first of it
abbrev pub IsFaultBy : (IsFault : ℕ → What → Type 0) → LogFault → Type 0
IsFaultBy IsFault NoMemory = Unit {0}
IsFaultBy IsFault (At line what) = IsFault line what

-- ---- which logs may be written

abbrev pub IsCoordinator : Node → Type 0
IsCoordinator (Server shard) = ⊥
IsCoordinator (Coord number) = Unit {0}

-- the procedure is called by its name alone, and is called with so many integers of 64 bits
pub record MayBeCalled (program : Workload) (proc : ℕ) : Type 0 where
  pub named : procedure_named program (procedure_name program proc) ≡ Some proc
  pub name : IsTrue (is_name (procedure_name program proc))
  pub no_view : IsFalse (is_view_in program proc)

abbrev pub MayStand : Workload → (tag : List ℕ) → Node → LogLine → Type 0
MayStand program tag node (Submit proc args) =
    IsCoordinator node × MayBeCalled program proc × (length args ≡ arguments_of program proc) × AllByRecursion (FitsSigned w64) args
MayStand program tag node (In bytes) = IsBytes bytes × IsTrue (is_datagram tag bytes)
MayStand program tag node Tick = Unit {0}
MayStand program tag node (Out bytes) = IsBytes bytes × IsTrue (is_datagram tag bytes)
MayStand program tag node (Answer id reply) =
    IsCoordinator node × (id.coord ≤ 15) × (id.seq < 2 ^ 32) × AllByRecursion (FitsSigned w64) reply

-- lines that may stand, of which none stands behind a server's Stop
abbrev pub MayFollow : Workload → (tag : List ℕ) → Node → (ended : Bool) → List LogLine → Type 0
MayFollow program tag node ended [] = Unit {0}
MayFollow program tag node ended (line ∷ lines) = IsFalse ended × MayStand program tag node line × MayFollow program tag node (ends node line) lines

-- such lines, of a node that is there and was not seen
pub record MayBeWritten (program : Workload) (tag : List ℕ) (seen : List Node) (log : Log) : Type 0 where
  pub tagged : log.tag ≡ tag
  pub there : IsTrue (is_there program.shards log.node)
  pub few_shards : program.shards ≤ 64
  pub unseen : IsFalse (list_any (is_node log.node) seen)
  pub lines : MayFollow program tag log.node false log.lines
