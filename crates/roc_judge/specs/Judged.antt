-- Which judgement of folded logs is right: docs/PROTOCOL.md, "Auditing"
use Rattle.std.specs.Prelude.{◌≡◌, ◌≢◌, ℕ, ℤ, Bool, true, false, List, ◌∷◌, ◌++◌, length, filter, Some, IsTrue}
use Rattle.roc_sequence.specs.Places.{IsListed}
use Rattle.roc_base.specs.declared.id.TxnId.{TxnId}
use Rattle.roc_base.specs.TxnId.{is_txn, txn_lt}
use Rattle.roc_program.specs.Program.{Workload}
use Rattle.roc_audit.specs.declared.entry.Entry.{Entry}
use Rattle.roc_audit.specs.declared.entry.Entry.TheVariants.{Submitted, Answered}
use Rattle.roc_audit.specs.History.{WasSubmitted, WasAnswered}
use Rattle.roc_whole.specs.Serial.{start_store}
use Rattle.roc_audit.specs.Witness.{serial_reply_from}
use Rattle.roc_precedence.specs.Orders.{IsLeastOrder}
use Rattle.roc_precedence.specs.Cycles.{IsLeastCycle}
use Rattle.roc_judge.specs.declared.folded.Folded.{Folded}
use Rattle.roc_judge.specs.declared.judgement.Judgement.{Judgement}
use Rattle.roc_judge.specs.declared.judgement.Judgement.TheVariants.{Missing, Unsubmitted, Cycle, Reply, Yes}
use Rattle.roc_judge.specs.Before.{GoesBefore, candidates, told}

-- each answered one was decided by a server
abbrev pub AnsweredAreDecided : List Folded → Type 0
AnsweredAreDecided folds = (t : TxnId) (reply : List ℤ) → WasAnswered (told folds) t reply → IsListed is_txn (candidates folds) t

-- each that a server decided was submitted
abbrev pub DecidedAreSubmitted : List Folded → Type 0
DecidedAreSubmitted folds = (t : TxnId) → IsListed is_txn (candidates folds) t → WasSubmitted (told folds) t

-- t was answered, and no server decided it
abbrev pub IsAnsweredUndecided : List Folded → TxnId → Type 0
IsAnsweredUndecided folds t = ((reply : List ℤ) × WasAnswered (told folds) t reply) × ¬ IsListed is_txn (candidates folds) t

-- a server decided t, and no log submits it
abbrev pub IsUnsubmitted : List Folded → TxnId → Type 0
IsUnsubmitted folds t = IsListed is_txn (candidates folds) t × ¬ WasSubmitted (told folds) t

-- t is the least of which P holds
pub record IsLeastId (P : TxnId → Type 0) (t : TxnId) : Type 0 where
  pub holds : P t
  pub least : (u : TxnId) → P u → ¬ IsTrue (txn_lt u t)

-- the logged reply of each of these is that of its whole run, where the order's transactions run one after another
abbrev pub RepliesAreRight : Workload → List Folded → (order ids : List TxnId) → Type 0
RepliesAreRight program folds order ids =
    (t : TxnId) (logged : List ℤ) → IsListed is_txn ids t → WasAnswered (told folds) t logged → serial_reply_from program (start_store program) (told folds) order t ≡ Some logged

abbrev pub tells_answer : Entry → Bool
tells_answer (Submitted t proc args) = false
tells_answer (Answered t reply) = true

-- how many answers the logs tell
abbrev pub answers_told : List Folded → ℕ
answers_told folds = length (filter tells_answer (told folds))

-- what is found, the first that holds
pub data IsJudged (program : Workload) (folds : List Folded) : Judgement → Type 0 where
  one_missing : (t : TxnId) → IsLeastId (IsAnsweredUndecided folds) t → IsJudged program folds (Missing t)
  one_unsubmitted : (t : TxnId) → AnsweredAreDecided folds → IsLeastId (IsUnsubmitted folds) t → IsJudged program folds (Unsubmitted t)
  a_circle : (c : List TxnId)
      → AnsweredAreDecided folds → DecidedAreSubmitted folds → IsLeastCycle (GoesBefore folds) (candidates folds) c → IsJudged program folds (Cycle c)
  a_wrong_reply : (order front behind : List TxnId) (t : TxnId) (logged run : List ℤ)
      → AnsweredAreDecided folds → DecidedAreSubmitted folds → IsLeastOrder (GoesBefore folds) (candidates folds) order
      → order ≡ front ++ t ∷ behind → RepliesAreRight program folds order front
      → WasAnswered (told folds) t logged → serial_reply_from program (start_store program) (told folds) order t ≡ Some run → logged ≢ run
      → IsJudged program folds (Reply t logged run)
  explained : (order : List TxnId)
      → AnsweredAreDecided folds → DecidedAreSubmitted folds → IsLeastOrder (GoesBefore folds) (candidates folds) order → RepliesAreRight program folds order order
      → IsJudged program folds (Yes order (answers_told folds))
