-- When a serial order explains a history: docs/PROTOCOL.md, "Serial witness"
use Rattle.std.specs.Prelude.{◌≡◌, ℤ, List, [], ◌∷◌, Option, Some, None, if◌then◌else◌}
use Rattle.std.specs.List.{filter_map}
use Rattle.roc_sequence.specs.Places.{IsListed, IsListedBefore, NoneTwice}
use Rattle.roc_base.specs.declared.id.TxnId.{TxnId}
use Rattle.roc_base.specs.TxnId.{is_txn}
use Rattle.roc_rows.specs.Store.{Store}
use Rattle.roc_program.specs.Program.{Workload}
use Rattle.roc_whole.specs.Serial.{Call, Answer, serial_answers, start_store}
use Rattle.roc_audit.specs.declared.entry.Entry.{Entry}
use Rattle.roc_audit.specs.declared.entry.Entry.TheVariants.{Submitted, Answered}
use Rattle.roc_audit.specs.History.{WasSubmitted, WasAnswered, IsAnsweredBefore}

-- what a transaction called, by its first submission
abbrev pub submitted_call : TxnId → List Entry → Option Call
submitted_call t [] = None
submitted_call t (Submitted u proc args ∷ es) = if is_txn u t then Some (record { id = t; procedure = proc; arguments = args }) else submitted_call t es
submitted_call t (Answered u reply ∷ es) = submitted_call t es

-- what the transactions of an order called, in that order
abbrev pub submitted_calls : List Entry → List TxnId → List Call
submitted_calls history order = filter_map (λ t. submitted_call t history) order

-- the reply that t has among these
abbrev pub reply_in : TxnId → List Answer → Option (List ℤ)
reply_in t [] = None
reply_in t (a ∷ answers) = if is_txn a.id t then Some a.reply else reply_in t answers

-- the reply of t where the transactions of the order run whole, one after another, from this store on
abbrev pub serial_reply_from : Workload → Store → List Entry → List TxnId → TxnId → Option (List ℤ)
serial_reply_from program store history order t = reply_in t (serial_answers program store (submitted_calls history order))

-- the order explains the history, where its transactions run from this store on
pub record IsSerialWitnessFrom (program : Workload) (store : Store) (history : List Entry) (order : List TxnId) : Type 0 where
  -- it holds each transaction once
  pub once : NoneTwice is_txn order
  -- and only submitted ones
  pub submitted : (t : TxnId) → IsListed is_txn order t → WasSubmitted history t
  -- each answered one is among them
  pub answered : (t : TxnId) (reply : List ℤ) → WasAnswered history t reply → IsListed is_txn order t
  -- and its reply is the one that it has where the order's transactions run one after another
  pub replies : (t : TxnId) (reply : List ℤ) → WasAnswered history t reply → serial_reply_from program store history order t ≡ Some reply
  -- who was answered before another's submission stands before it
  pub real_time : (t u : TxnId) → IsAnsweredBefore history t u → IsListed is_txn order u → IsListedBefore is_txn order t u

-- the order explains the history, where its transactions run from the workload's start
abbrev pub IsSerialWitness : Workload → List Entry → List TxnId → Type 0
IsSerialWitness program history order = IsSerialWitnessFrom program (start_store program) history order
