-- What a coordinator keeps, and what comes of a message or a submission: docs/PROTOCOL.md, "Coordinator"
use Rattle.std.specs.Prelude.{ℕ, Bool, ◌&&◌, ◌==◌, List, [], Option, map, find, if◌then◌else◌}
use Rattle.std.specs.List.{list_any}
use Rattle.roc_base.specs.declared.id.TxnId.{TxnId}
use Rattle.roc_base.specs.declared.node.Shard.{Shard}
use Rattle.roc_base.specs.TxnId.{is_txn}
use Rattle.roc_msg.specs.declared.outbox.Outgoing.{Outgoing}
use Rattle.roc_msg.specs.declared.reason.Reason.{Reason}
use Rattle.roc_coord.specs.declared.handled.Handled.{Handled}
use Rattle.roc_coord.specs.declared.handled.Handled.TheVariants.{Ignored}
use Rattle.roc_coord.specs.declared.transaction.SentStart.{SentStart}
use Rattle.roc_coord.specs.declared.transaction.TakenStart.{TakenStart}
use Rattle.roc_coord.specs.declared.transaction.TakenCommit.{TakenCommit}
use Rattle.roc_coord.specs.declared.transaction.Transaction.{Transaction}
use Rattle.roc_readonly.specs.declared.view.View.{View}

pub record CoordState : Type 0 where
  -- the coordinator's number
  pub number : ℕ
  -- the sequence number of the next transaction
  pub next : ℕ
  -- the transactions without a reply, by id rising
  pub pending : List Transaction
  -- the views without a reply, by id rising
  pub views : List View
  -- the ids of both, rising
  pub unanswered : List TxnId

-- before any submission
abbrev pub first_coord : ℕ → CoordState
first_coord number = record { number = number; next = 0; pending = []; views = []; unanswered = [] }

-- what comes of a message: the answer, the state after it, and what is sent
pub record CoordStep : Type 0 where
  pub answer : Handled
  pub state : CoordState
  pub sends : List Outgoing

-- an ignored message changes nothing and sends nothing
abbrev pub ignored : CoordState → Reason → CoordStep
ignored s reason = record { answer = Ignored reason; state = s; sends = [] }

abbrev pub find_transaction : TxnId → List Transaction → Option Transaction
find_transaction id pending = find (λ x. is_txn x.id id) pending

-- the transaction of x's id is now x
abbrev pub with_transaction : CoordState → Transaction → CoordState
with_transaction s x = record s { pending = map (λ y. if is_txn y.id x.id then x else y) s.pending }

abbrev pub find_view : TxnId → List View → Option View
find_view id views = find (λ v. is_txn v.id id) views

-- the view of v's id is now v
abbrev pub with_view : CoordState → View → CoordState
with_view s v = record s { views = map (λ w. if is_txn w.id v.id then v else w) s.views }

abbrev pub find_start : ℕ → List SentStart → Option SentStart
find_start group starts = find (λ start. start.group == group) starts

abbrev pub find_startok : ℕ → List TakenStart → Option TakenStart
find_startok group startoks = find (λ ok. ok.group == group) startoks

-- the group was asked to start on this shard
abbrev pub was_asked : Transaction → ℕ → Shard → Bool
was_asked x group shard = list_any (λ start. start.group == group && start.shard.0 == shard.0) x.starts

abbrev pub has_commitok : Shard → List TakenCommit → Bool
has_commitok shard commitoks = list_any (λ ok. ok.shard.0 == shard.0) commitoks
