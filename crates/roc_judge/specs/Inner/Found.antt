-- What is known where an order is looked for, and what is found then
use Rattle.std.specs.Prelude.{◌≡◌, ℕ, List, Option, Some, None}
use Rattle.roc_sequence.specs.Places.{IsListed}
use Rattle.roc_base.specs.declared.id.TxnId.{TxnId}
use Rattle.roc_base.specs.TxnId.{is_txn}
use Rattle.roc_depgraph.specs.Closure.{IsRisingListOf}
use Rattle.roc_audit.specs.Witness.{submitted_call}
use Rattle.roc_judge.specs.declared.folded.Folded.{Folded}
use Rattle.roc_judge.specs.declared.judgement.Judgement.{Judgement}
use Rattle.roc_judge.specs.declared.calls.Called.{Called}
use Rattle.roc_judge.specs.Before.{candidates, told}
use Rattle.roc_judge.specs.declared.judgement.Judgement.TheVariants.{Missing, Unsubmitted, Cycle, Reply, Yes}
use Rattle.roc_precedence.specs.Cycles.{IsLeastCycle}
use Rattle.roc_judge.specs.Judged.{AnsweredAreDecided, DecidedAreSubmitted, IsLeastId, answers_told}
use Rattle.roc_judge.specs.Inner.Sets.{call_in}

-- the candidates, and the same rising
pub record AreCandidates (folds : List Folded) (all ids : List TxnId) : Type 0 where
  pub are : all ≡ candidates folds
  pub rising : IsRisingListOf (IsListed is_txn all) ids

-- all candidates were submitted, as these calls, and all that was answered is among them
pub record AreReady (folds : List Folded) (calls : List (TxnId × Called)) (answered : ℕ) : Type 0 where
  pub decided : AnsweredAreDecided folds
  pub submitted : DecidedAreSubmitted folds
  pub called : (t : TxnId) → call_in calls t ≡ submitted_call t (told folds)
  pub counted : answered ≡ answers_told folds

-- the least of which P holds, or none, where P holds of none
abbrev pub IsLeastOrNone : (TxnId → Type 0) → Option TxnId → Type 0
IsLeastOrNone P None = (t : TxnId) → ¬ P t
IsLeastOrNone P (Some t) = IsLeastId P t

-- the least cycle
abbrev pub IsCycleOf : (TxnId → TxnId → Type 0) → List TxnId → Judgement → Type 0
IsCycleOf G M (Cycle c) = IsLeastCycle G M c
IsCycleOf G M (Missing t) = ⊥
IsCycleOf G M (Unsubmitted t) = ⊥
IsCycleOf G M (Reply t logged run) = ⊥
IsCycleOf G M (Yes order n) = ⊥
