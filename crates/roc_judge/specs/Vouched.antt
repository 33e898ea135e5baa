-- What an order vouches for: docs/PROTOCOL.md, "Auditing"
use Rattle.std.specs.Prelude.{◌≡◌, ℤ, List, Some}
use Rattle.std.specs.List.{flat_map}
use Rattle.roc_sequence.specs.Lists.{Has}
use Rattle.roc_sequence.specs.Places.{IsListed, IsListedBefore, NoneTwice}
use Rattle.roc_base.specs.declared.id.TxnId.{TxnId}
use Rattle.roc_base.specs.TxnId.{is_txn}
use Rattle.roc_program.specs.Program.{Workload}
use Rattle.roc_audit.specs.declared.entry.Entry.{Entry}
use Rattle.roc_audit.specs.History.{WasSubmitted, WasAnswered, IsAnsweredBefore}
use Rattle.roc_whole.specs.Serial.{start_store}
use Rattle.roc_audit.specs.Witness.{serial_reply_from}

-- all that several histories tell
abbrev pub all_told : List (List Entry) → List Entry
all_told histories = flat_map (λ h. h) histories

-- the order explains several histories, each of which keeps its own time
pub record IsVouched (program : Workload) (histories : List (List Entry)) (order : List TxnId) : Type 0 where
  -- it holds each transaction once
  pub once : NoneTwice is_txn order
  -- and only submitted ones
  pub submitted : (t : TxnId) → IsListed is_txn order t → WasSubmitted (all_told histories) t
  -- each answered one is among them
  pub answered : (t : TxnId) (reply : List ℤ) → WasAnswered (all_told histories) t reply → IsListed is_txn order t
  -- and its reply is the one that it has where the order's transactions run one after another
  pub replies : (t : TxnId) (reply : List ℤ) → WasAnswered (all_told histories) t reply → serial_reply_from program (start_store program) (all_told histories) order t ≡ Some reply
  -- who was answered before another's submission in one history stands before it
  pub real_time : (h : List Entry) → Has h histories → (t u : TxnId) → IsAnsweredBefore h t u → IsListed is_txn order u → IsListedBefore is_txn order t u
