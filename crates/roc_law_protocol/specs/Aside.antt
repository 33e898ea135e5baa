-- A coordinator between transactions and views: what it does for transactions alone, and what it does aside of them, where it uses a sequence
-- for a view, or answers one
use Rattle.std.specs.Prelude.{◌≡◌, ◌≢◌, ℕ, ℤ, ◌+◌, ◌<◌, List, [], ◌∷◌, ◌++◌, not, filter, if◌then◌else◌}
use Rattle.std.specs.List.{flat_map}
use Rattle.roc_sequence.specs.Lists.{Has}
use Rattle.roc_base.specs.declared.id.TxnId.{TxnId}
use Rattle.roc_base.specs.TxnId.{is_txn}
use Rattle.roc_msg.specs.declared.msg.Msg.{Msg}
use Rattle.roc_msg.specs.declared.msg.Msg.TheVariants.{Read}
use Rattle.roc_msg.specs.declared.outbox.Outgoing.{Outgoing}
use Rattle.roc_plan.specs.Groups.{Plan, is_transaction}
use Rattle.roc_coord.specs.declared.handled.SubmitFault.TheVariants.{NoProc}
use Rattle.roc_coord.specs.declared.transaction.Transaction.{Transaction}
use Rattle.roc_coord.specs.State.{CoordState}
use Rattle.roc_coord.specs.Ids.{view_ids}
use Rattle.roc_coord.specs.Step.{answered_sends}
use Rattle.roc_coord.specs.Marks.{ended_sends}
use Rattle.roc_coord.specs.Tick.{sent_again}
use Rattle.roc_coord.specs.Submit.{next_id, most_transactions, after_submit, refused, Submission}

-- it reads for no view
abbrev pub IsNoRead : Msg → Type 0
IsNoRead (Read id round proc group args) = ⊥
IsNoRead msg = Unit {0}

-- what comes of a submission of a transaction: there is no other procedure
abbrev pub after_transaction : Plan → CoordState → ℕ → List ℤ → Submission
after_transaction plan s proc args = if is_transaction plan proc then after_submit plan s proc args else refused s NoProc

-- what a tick sends again of transactions, and the watermark
abbrev pub transaction_tick_sends : Plan → CoordState → List Outgoing
transaction_tick_sends plan s = flat_map (sent_again plan) s.pending ++ ended_sends plan s

-- from s to t nothing changes of the transactions; and each id of a view is an old one or this one
pub record KeepsTransactions (plan : Plan) (s t : CoordState) (new : List TxnId) : Type 0 where
  pub number : t.number ≡ s.number
  pub pending : t.pending ≡ s.pending
  pub views : (u : TxnId) → Has u (view_ids t.views) → Has u (view_ids s.views ++ new)

-- from s to t, with what is sent of what concerns transactions
pub data Asides (plan : Plan) (s t : CoordState) : List Outgoing → Type 0 where
  -- a view gets the next id
  gives : KeepsTransactions plan s t (next_id s ∷ []) → s.next < most_transactions → t.next ≡ s.next + 1 → t.unanswered ≡ s.unanswered ++ next_id s ∷ [] → Asides plan s t []
  -- a view is read for
  reads : KeepsTransactions plan s t [] → t.next ≡ s.next → t.unanswered ≡ s.unanswered → Asides plan s t []
  -- a view is answered: it is none of the transactions, and the watermark is told where it passes a multiple
  ends : KeepsTransactions plan s t [] → t.next ≡ s.next → (id : TxnId) → t.unanswered ≡ filter (λ u. not (is_txn u id)) s.unanswered
      → ((x : Transaction) → Has x s.pending → x.id ≢ id) → Asides plan s t (answered_sends plan s t)
