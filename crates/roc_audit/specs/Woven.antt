-- A serial order of transactions with views put in: docs/PROOF.md, "From the log machine to the headline"
use Rattle.std.specs.Prelude.{◌≡◌, ℕ, suc, nat_lt, nat_le, ℤ, Bool, true, false, not, if◌then◌else◌, List, [], ◌∷◌, map, take, Some}
use Rattle.std.specs.List.{filter}
use Rattle.roc_sequence.specs.Lists.{Has}
use Rattle.roc_sequence.specs.Rising.{IsRising}
use Rattle.roc_sequence.specs.Places.{IsListed, IsListedBefore, NoneTwice}
use Rattle.roc_base.specs.declared.id.TxnId.{TxnId}
use Rattle.roc_base.specs.TxnId.{is_txn}
use Rattle.roc_rows.specs.Store.{Store}
use Rattle.roc_program.specs.Program.{Workload}
use Rattle.roc_whole.specs.Serial.{Call, run_of, serial_store}
use Rattle.roc_audit.specs.declared.entry.Entry.{Entry}
use Rattle.roc_audit.specs.declared.entry.Entry.TheVariants.{Submitted, Answered}
use Rattle.roc_audit.specs.History.{WasSubmitted, WasAnswered, IsAnsweredBefore}
use Rattle.roc_audit.specs.Witness.{submitted_call, submitted_calls}

-- a view, and behind how many transactions of an order it stands
pub record Look : Type 0 where
  pub id : TxnId
  pub behind : ℕ

abbrev pub look_ids : List Look → List TxnId
look_ids looks = map (λ l. l.id) looks

-- an order from which so many ids were taken already, with the looks put in, in their order
abbrev pub woven : ℕ → List TxnId → List Look → List TxnId
woven taken order [] = order
woven taken [] (l ∷ ls) = l.id ∷ woven taken [] ls
woven taken (t ∷ ts) (l ∷ ls) = if nat_lt taken l.behind then t ∷ woven (suc taken) ts (l ∷ ls) else l.id ∷ woven taken (t ∷ ts) ls

-- the first stands no further behind than the second
abbrev pub is_no_later : Look → Look → Bool
is_no_later k l = nat_le k.behind l.behind

abbrev pub entry_id : Entry → TxnId
entry_id (Submitted t proc args) = t
entry_id (Answered t reply) = t

-- what a history tells of transactions that are no views
abbrev pub without_views : (TxnId → Bool) → List Entry → List Entry
without_views is_view history = filter (λ e. not (is_view (entry_id e))) history

-- what a view called leaves each store as it is
abbrev pub LeaveTheStore : Workload → (TxnId → Bool) → List Entry → Type 0
LeaveTheStore program is_view history =
    (t : TxnId) (c : Call) → is_view t ≡ true → submitted_call t history ≡ Some c → (s : Store) → (run_of program s c).store ≡ s

-- what the transactions leave that stand before a look, from this store on
abbrev pub store_seen : Workload → Store → List Entry → List TxnId → Look → Store
store_seen program store history order l = serial_store program store (submitted_calls history (take l.behind order))

-- looks fit a history and the order of its transactions, which run from this store on
pub record AreLooks (program : Workload) (store : Store) (is_view : TxnId → Bool) (history : List Entry) (order : List TxnId) (looks : List Look) : Type 0 where
  -- they are submitted views, each once, and none stands before an earlier one
  pub once : NoneTwice is_txn (look_ids looks)
  pub rising : IsRising is_no_later looks
  pub views : (l : Look) → Has l looks → (is_view l.id ≡ true) × WasSubmitted history l.id
  -- each answered view is among them, and its reply is that of its whole run where it stands
  pub replies :
      (v : TxnId) (reply : List ℤ) → is_view v ≡ true → WasAnswered history v reply
      → (l : Look) × Has l looks × (l.id ≡ v) × (c : Call) × (submitted_call v history ≡ Some c) × (reply ≡ (run_of program (store_seen program store history order l) c).reply)
  -- it stands behind each transaction that was answered before its submission
  pub after : (t : TxnId) (l : Look) → Has l looks → is_view t ≡ false → IsAnsweredBefore history t l.id → IsListed is_txn (take l.behind order) t
  -- and before each that was submitted after its answer
  pub before : (u : TxnId) (l : Look) → Has l looks → is_view u ≡ false → IsAnsweredBefore history l.id u → ¬ IsListed is_txn (take l.behind order) u
  -- and views keep real time among one another
  pub in_time :
      (v u : TxnId) → is_view v ≡ true → is_view u ≡ true → IsAnsweredBefore history v u → IsListed is_txn (look_ids looks) u
      → IsListedBefore is_txn (look_ids looks) v u
