-- The lines of reports, as plain data: docs/FORMATS.md, "Report"
use Rattle.std.specs.Prelude.{ℕ, ℤ, Bool, true, false, List, Option, None, if◌then◌else◌}
use Rattle.roc_base.specs.declared.id.TxnId.{TxnId}
use Rattle.roc_base.specs.declared.node.Node.{Node}
use Rattle.roc_base.specs.declared.node.Shard.{Shard}
use Rattle.roc_base.specs.Edge.{Dependency}
use Rattle.roc_msg.specs.declared.reason.Reason.{Reason}
use Rattle.roc_rows.specs.declared.cell.Cell.{Cell}

-- the kinds of messages
pub data MessageKind : Type 0 where
  Start StartOk Commit CommitOk Fetch Known Stop Ended Settled Read ReadOk Drained Switched : MessageKind

-- what a line shows of a message: its kind, its transaction or the mark that it tells, who sent it to whom, its edges, and the transactions
-- of its facts
pub record ShownMessage : Type 0 where
  pub kind : MessageKind
  pub named : Option TxnId
  pub from : Node
  pub to : Node
  pub edges : List Dependency
  pub facts : List TxnId

-- a mark: a coordinator, and the sequence up to which the message speaks of its transactions. It is no transaction
abbrev pub tells_mark : MessageKind → Bool
tells_mark Ended = true
tells_mark Drained = true
tells_mark Switched = true
tells_mark kind = false

-- the transaction that a message is of
abbrev pub id_shown : ShownMessage → Option TxnId
id_shown m = if tells_mark m.kind then None else m.named

pub data Line : Type 0 where
  Submit : (id : TxnId) (proc : ℕ) (args : List ℤ) → Line
  Busy : (coord : ℕ) → Line
  Spent : (coord : ℕ) → Line
  Deliver : (number : ℕ) → Line
  Nothing : Line
  Tick : (node : Node) → Line
  Stopped : (shard : Shard) (during : Option (ℕ × Option ℕ)) → Line
  Drain : (coord : ℕ) → Line
  Draining : (coord : ℕ) → Line
  NoProc : (coord : ℕ) → Line
  Skipped : Line
  Gone : Line
  Ignored : (reason : Reason) → Line
  Send : (number : ℕ) (message : ShownMessage) → Line
  Answer : (id : TxnId) (reply : List ℤ) → Line
  Order : (ids : List TxnId) → Line
  Row : (cell : Cell) (value : ℤ) → Line
  Pending : (id : TxnId) → Line
  End : (answered pending messages : ℕ) → Line
