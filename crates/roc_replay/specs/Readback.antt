-- What a report's own lines tell: docs/FORMATS.md, "Report", and docs/PROTOCOL.md, "Serial witness"
use Rattle.std.specs.Prelude.{◌≡◌, ◌≢◌, ◌↔◌, ℕ, ◌≤◌, ℤ, pos, Bool, true, false, List, [], ◌∷◌, ◌++◌, Option, Some}
use Rattle.std.specs.List.{flat_map}
use Rattle.roc_sequence.specs.Lists.{Has}
use Rattle.roc_sequence.specs.Places.{IsListed, IsListedBefore}
use Rattle.roc_base.specs.declared.id.TxnId.{TxnId}
use Rattle.roc_base.specs.declared.node.Node.{Node}
use Rattle.roc_base.specs.declared.node.Node.TheVariants.{Server}
use Rattle.roc_base.specs.declared.node.Shard.{Shard}
use Rattle.roc_base.specs.Edge.{Dependency}
use Rattle.roc_base.specs.TxnId.{is_txn}
use Rattle.roc_msg.specs.declared.reason.Reason.{Reason}
use Rattle.roc_msg.specs.declared.reason.Reason.TheVariants.{Stale}
use Rattle.roc_depgraph.specs.Reach.{ReachesOrIs}
use Rattle.roc_rows.specs.declared.cell.Cell.{Cell}
use Rattle.roc_rows.specs.Store.{read}
use Rattle.roc_program.specs.Program.{Workload}
use Rattle.roc_program.specs.LookUps.{is_view_in}
use Rattle.roc_whole.specs.Serial.{serial_store, start_store}
use Rattle.roc_audit.specs.declared.entry.Entry.{Entry}
use Rattle.roc_audit.specs.declared.entry.Entry.TheVariants.{Submitted, Answered}
use Rattle.roc_audit.specs.History.{IsToldOnce}
use Rattle.roc_audit.specs.Witness.{submitted_calls, IsSerialWitness}
use Rattle.roc_report.specs.Line.{Line, ShownMessage, id_shown, StartOk, Drained, Submit, Deliver, Stopped, Skipped, Ignored, Send, Answer, Order, Row, Pending}

-- what a line tells of the history: a submission or an answer
abbrev pub entries_in : Line → List Entry
entries_in (Submit id proc args) = Submitted id proc args ∷ []
entries_in (Answer id reply) = Answered id reply ∷ []
entries_in _ = []

-- the history that the lines show
abbrev pub history_in : List Line → List Entry
history_in lines = flat_map entries_in lines

-- the order that a line shows
abbrev pub orders_of : Line → List (List TxnId)
orders_of (Order ids) = ids ∷ []
orders_of _ = []

abbrev pub orders_in : List Line → List (List TxnId)
orders_in lines = flat_map orders_of lines

-- the transaction or view that a line shows as pending
abbrev pub pending_of : Line → List TxnId
pending_of (Pending id) = id ∷ []
pending_of _ = []

abbrev pub pending_in : List Line → List TxnId
pending_in lines = flat_map pending_of lines

-- the cell that a line shows, and its number
abbrev pub cell_of : Line → List (Cell × ℤ)
cell_of (Row cell value) = (cell, value) ∷ []
cell_of _ = []

abbrev pub cells_in : List Line → List (Cell × ℤ)
cells_in lines = flat_map cell_of lines

-- ---- quiet transactions: docs/PROTOCOL.md, "Quiet transactions"

-- a startok of t that the lines show has an entry for u
pub record IsShownBefore (lines : List Line) (u t : TxnId) : Type 0 where
  pub number : ℕ
  pub message : ShownMessage
  pub shown : Has (Send number message) lines
  pub startok : message.kind ≡ StartOk
  pub of : id_shown message ≡ Some t
  pub entry : Dependency
  pub listed : Has entry message.edges
  pub from : entry.from ≡ u

abbrev pub is_skipped : Line → Bool
is_skipped Skipped = true
is_skipped line = false

-- the first of the lines says that a message was skipped
abbrev pub is_skipped_first : List Line → Bool
is_skipped_first [] = false
is_skipped_first (line ∷ lines) = is_skipped line

-- the lines show a delivery of the message that was not skipped, and behind it no stop of the server to which it goes
pub record ShowsTaken (lines : List Line) (number : ℕ) (to : Node) : Type 0 where
  pub front : List Line
  pub behind : List Line
  pub is : lines ≡ front ++ Deliver number ∷ behind
  pub taken : is_skipped_first behind ≡ false
  pub since : (shard : Shard) (during : Option (ℕ × Option ℕ)) → Has (Stopped shard during) behind → to ≢ Server shard

-- the lines show a delivery of the message that was skipped, and an answer to the transaction or the view that it is of
pub record ShowsPassed (lines : List Line) (number : ℕ) (of : TxnId) : Type 0 where
  pub front : List Line
  pub behind : List Line
  pub is : lines ≡ front ++ Deliver number ∷ Skipped ∷ behind
  pub reply : List ℤ
  pub answered : Has (Answer of reply) lines

-- the lines show a delivery of the message that counts
pub data ShowsDelivery (lines : List Line) (number : ℕ) (to : Node) (of : TxnId) : Type 0 where
  shows_taken : ShowsTaken lines number to → ShowsDelivery lines number to of
  shows_passed : ShowsPassed lines number of → ShowsDelivery lines number to of

-- the lines show that every message that they show of t, or of one from which a chain of these leads to t, was delivered, and that its receiver did
-- not stop behind it; or it was skipped where it came, and what it is of was answered
pub record LooksQuiet (lines : List Line) (t : TxnId) : Type 0 where
  pub each :
      (number : ℕ) (message : ShownMessage) (u : TxnId) → Has (Send number message) lines → id_shown message ≡ Some u → ReachesOrIs (IsShownBefore lines) u t
      → ShowsDelivery lines number message.to u

-- ---- ignored messages

-- the last of the lines shows a delivery
pub record EndInDelivery (lines : List Line) : Type 0 where
  pub before : List Line
  pub number : ℕ
  pub is : lines ≡ before ++ Deliver number ∷ []

-- each `ignored` line says that a message was stale, and stands directly behind a `deliver` line
pub record IgnoreOnlyStale (lines : List Line) : Type 0 where
  pub each : (front behind : List Line) (why : Reason) → lines ≡ front ++ Ignored why ∷ behind → (why ≡ Stale) × EndInDelivery front

-- ---- what lines explain

-- the lines explain themselves: they show one order, and it is a serial witness of the history that they show; and each submitted transaction that is no
-- view, whose messages, and those of its ancestors, they show as delivered has an answer; and where they show none as pending, the cells that they show
-- are those that are not 0, each with its number, where the order's transactions run whole, one after another. No two submissions have one id, an
-- id has at most one answer, behind its submission, and only stale messages are ignored
pub record IsExplained (program : Workload) (lines : List Line) : Type 0 where
  pub order : List TxnId
  pub shown : orders_in lines ≡ order ∷ []
  pub serial : IsSerialWitness program (history_in lines) order
  pub cells :
      pending_in lines ≡ [] → (cell : Cell) (value : ℤ)
      → Has (cell, value) (cells_in lines) ↔ ((value ≢ pos 0) × (read (serial_store program (start_store program) (submitted_calls (history_in lines) order)) cell ≡ value))
  pub answered : (t : TxnId) (proc : ℕ) (args : List ℤ) → Has (Submit t proc args) lines → is_view_in program proc ≡ false → LooksQuiet lines t → (reply : List ℤ) × Has (Answer t reply) lines
  pub told : IsToldOnce (history_in lines)
  pub ignored : IgnoreOnlyStale lines

-- ---- two files: docs/PROTOCOL.md, "Growth"

-- the lines show that t is of the second file: its coordinator told as drained an id that is none of those behind t
pub record IsShownSecond (lines : List Line) (t : TxnId) : Type 0 where
  pub number : ℕ
  pub message : ShownMessage
  pub shown : Has (Send number message) lines
  pub drained : message.kind ≡ Drained
  pub upto : TxnId
  pub named : message.named ≡ Some upto
  pub coord : upto.coord ≡ t.coord
  pub from : upto.seq ≤ t.seq

-- in the order none of the second file stands before one of the first
pub record FilesStandApart (lines : List Line) (order : List TxnId) : Type 0 where
  pub each : (u t : TxnId) → IsListed is_txn order t → IsListedBefore is_txn order u t → IsShownSecond lines u → IsShownSecond lines t
