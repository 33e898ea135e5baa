-- Each request has its id and its answer: docs/PROTOCOL.md, "Running nodes"
use Rattle.std.specs.Prelude.{◌≡◌, ℕ, ◌<◌, Bool, true, false, List, [], ◌∷◌, ◌++◌, length, filter, Some}
use Rattle.roc_base.specs.declared.id.TxnId.{TxnId}
use Rattle.roc_base.specs.TxnId.{is_txn}
use Rattle.roc_program.specs.LookUps.{procedure_named}
use Rattle.roc_program.specs.Program.{Workload}
use Rattle.roc_report.specs.Line.{Line, Submit, Answer}
use Rattle.roc_sched.specs.declared.line.Request.{Request}
use Rattle.roc_node_submit.specs.CoordRun.{CoordNodeState}

abbrev pub is_submission : Line → Bool
is_submission (Submit id proc args) = true
is_submission line = false

abbrev pub is_answer : Line → Bool
is_answer (Answer id reply) = true
is_answer line = false

-- the line answers the transaction or the view of this id
abbrev pub is_answer_to : TxnId → Line → Bool
is_answer_to id (Answer own reply) = is_txn own id
is_answer_to id line = false

-- the lines of submissions of these requests, in order: each has the id whose sequence is its place, and the procedure that it names
pub data AreGivenIds (program : Workload) (number : ℕ) : List Request → List Line → Type 0 where
  none_given : AreGivenIds program number [] []
  one_given : {requests : List Request} {lines : List Line} (request : Request) (proc : ℕ) → AreGivenIds program number requests lines → procedure_named program request.name ≡ Some proc
      → AreGivenIds program number (requests ++ request ∷ []) (lines ++ Submit (record { coord = number; seq = length requests }) proc request.args ∷ [])

-- a coordinator's node has given each request an id, in order, each of these ids was answered once, and nothing else was answered
pub record AreEachAnswered (program : Workload) (number : ℕ) (requests : List Request) (node : CoordNodeState) : Type 0 where
  pub given : AreGivenIds program number requests (filter is_submission node.lines)
  pub answers : (seq : ℕ) → seq < length requests → length (filter (is_answer_to (record { coord = number; seq = seq })) node.lines) ≡ 1
  pub all : length (filter is_answer node.lines) ≡ length requests
  pub counted : node.answered ≡ length requests
