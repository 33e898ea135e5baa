-- What a history tells of a coordinator's submissions: docs/PROTOCOL.md, "Coordinator"
use Rattle.std.specs.Prelude.{ℕ, Bool, false, not, ◌==◌, List, [], ◌∷◌, filter, if◌then◌else◌}
use Rattle.std.specs.List.{list_any}
use Rattle.roc_base.specs.declared.id.TxnId.{TxnId}
use Rattle.roc_base.specs.TxnId.{is_txn}
use Rattle.roc_audit.specs.declared.entry.Entry.{Entry}
use Rattle.roc_audit.specs.declared.entry.Entry.TheVariants.{Submitted, Answered}

-- the transactions that were submitted at a coordinator, in the order of their submissions
abbrev pub submitted_at : (coord : ℕ) → List Entry → List TxnId
submitted_at coord [] = []
submitted_at coord (Submitted t proc args ∷ es) = if t.coord == coord then t ∷ submitted_at coord es else submitted_at coord es
submitted_at coord (Answered t reply ∷ es) = submitted_at coord es

-- the entry answers t
abbrev pub answers : TxnId → Entry → Bool
answers t (Submitted u proc args) = false
answers t (Answered u reply) = is_txn t u

-- those of them without an answer
abbrev pub unanswered_at : (coord : ℕ) → List Entry → List TxnId
unanswered_at coord history = filter (λ t. not (list_any (answers t) history)) (submitted_at coord history)
