-- The rules by which logs grow: docs/PROOF.md, "The log machine"
use Rattle.std.specs.Prelude.{ℕ, Bool, not, ◌&&◌, ◌==◌, if◌then◌else◌, List, [], ◌∷◌, ◌++◌, ◌⊎◌}
use Rattle.std.specs.List.{AllByRecursion, filter}
use Rattle.roc_sequence.specs.Places.{IsListed, is_listed}
use Rattle.roc_base.specs.declared.id.TxnId.{TxnId}
use Rattle.roc_base.specs.TxnId.{is_txn}
use Rattle.roc_rows.specs.Store.{Store}
use Rattle.roc_law_orders.specs.Behaviour.{TxnGroup, is_txn_group, is_group_number}
use Rattle.roc_law_orders.specs.Runs.{needs}
use Rattle.roc_law_orders.specs.Orders.{one_by_one}
use Rattle.roc_law_log.specs.Scheme.{Scheme}
use Rattle.roc_law_log.specs.Log.{Log, first_log, PrecedesTxn, PrecedesTxnNow, shard_at, IsWhole, IsDecidedThroughout}
use Rattle.roc_law_log.specs.Settled.{IsSettled}
use Rattle.roc_law_log.specs.Taking.{RespectsPrecedence}

-- ---- a group starts

-- r may start, where these are left out of what precedes it: transactions that its shard decided
pub record MayStart (S : Scheme) (start : Store) (log : Log) (r : TxnGroup) (left_out : List TxnId) : Type 0 where
  pub new : ¬ IsListed is_txn_group log.past.started r
  pub listed : IsListed is_group_number (S.behaviour.groups r.txn) r.group
  pub needs_ran : AllByRecursion (IsListed is_txn_group log.past.ran) (needs S.behaviour r)
  pub out_decided : (t : TxnId) → IsListed is_txn left_out t → IsListed is_txn (log.decided (shard_at S start log.past.ran r)) t

abbrev pub with_left_out : (TxnGroup → List TxnId) → TxnGroup → List TxnId → TxnGroup → List TxnId
with_left_out before r left_out q = if is_txn_group r q then left_out else before q

-- an immediate group runs as it starts
abbrev pub with_start : Scheme → Log → TxnGroup → List TxnId → Log
with_start S log r left_out =
    record log {
      past = record {
        started = log.past.started ++ r ∷ [];
        left_out = with_left_out log.past.left_out r left_out;
        ran = log.past.ran ++ (if S.is_immediate r then r ∷ [] else []);
      };
    }

-- ---- a shard decides

-- a shard need not wait for u
abbrev pub IsWaived : Scheme → Store → Log → TxnId → Type 0
IsWaived = IsSettled

-- shard s may decide the transactions ts, none of which it decided before, taken in this order
pub record MayDecide (S : Scheme) (start : Store) (log : Log) (s : ℕ) (ts : List TxnId) : Type 0 where
  pub new : (t : TxnId) → IsListed is_txn ts t → ¬ IsListed is_txn (log.decided s) t
  pub whole : (t : TxnId) → IsListed is_txn ts t → IsWhole S log.past.started t
  pub closed :
      (u t : TxnId) → IsListed is_txn ts t → PrecedesTxn S start log.past u t
      → IsListed is_txn (log.decided s) u ⊎ (IsListed is_txn ts u ⊎ IsWaived S start log u)
  pub ordered : RespectsPrecedence (PrecedesTxn S start log.past) (PrecedesTxnNow S start log.past) (IsWaived S start log) ts

-- r waits, and is on shard s
abbrev pub waits_here : Scheme → Store → List TxnGroup → ℕ → TxnGroup → Bool
waits_here S start ran s r = not (S.is_immediate r) && (shard_at S start ran r == s)

-- the groups of the transactions ts that wait on shard s
abbrev pub waiting_here : Scheme → Store → List TxnGroup → ℕ → List TxnId → List TxnGroup
waiting_here S start ran s ts = filter (waits_here S start ran s) (one_by_one S.behaviour ts)

-- those of ts that are not in the order
abbrev pub new_in : List TxnId → List TxnId → List TxnId
new_in order ts = filter (λ t. not (is_listed is_txn order t)) ts

abbrev pub with_decided : (ℕ → List TxnId) → ℕ → List TxnId → ℕ → List TxnId
with_decided decided s ts v = if s == v then decided s ++ ts else decided v

-- those that waited run, one transaction after another
abbrev pub with_decision : Scheme → Store → Log → ℕ → List TxnId → Log
with_decision S start log s ts =
    record log {
      past = record log.past { ran = log.past.ran ++ waiting_here S start log.past.ran s ts };
      decided = with_decided log.decided s ts;
      order = log.order ++ new_in log.order ts;
    }

-- ---- a transaction is answered

abbrev pub with_answer : Log → TxnId → Log
with_answer log t = record log { answered = log.answered ++ t ∷ [] }

-- ---- what may happen

pub data LogStep (S : Scheme) (start : Store) (log : Log) : Log → Type 0 where
  group_starts : (r : TxnGroup) (left_out : List TxnId) → MayStart S start log r left_out → LogStep S start log (with_start S log r left_out)
  shard_decides : (s : ℕ) (ts : List TxnId) → MayDecide S start log s ts → LogStep S start log (with_decision S start log s ts)
  is_answered : (t : TxnId) → IsDecidedThroughout S start log t → LogStep S start log (with_answer log t)

-- steps lead from a log to another
pub data LogSteps (S : Scheme) (start : Store) (log : Log) : Log → Type 0 where
  no_steps : LogSteps S start log log
  one_step_more : {some later : Log} → LogSteps S start log some → LogStep S start some later → LogSteps S start log later

-- what may have happened
abbrev pub IsReachedLog : Scheme → Store → Log → Type 0
IsReachedLog S start log = LogSteps S start first_log log
