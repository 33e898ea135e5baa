-- What happened on all shards, in real order: docs/PROOF.md, "The log machine"
use Rattle.std.specs.Prelude.{◌≡◌, ◌≢◌, ℕ, IsTrue, List, []}
use Rattle.roc_sequence.specs.Places.{IsListed, IsListedBefore}
use Rattle.roc_base.specs.declared.id.TxnId.{TxnId}
use Rattle.roc_base.specs.TxnId.{is_txn}
use Rattle.roc_rows.specs.Store.{Store}
use Rattle.roc_law_orders.specs.Behaviour.{TxnGroup, is_txn_group, is_group_number}
use Rattle.roc_law_orders.specs.Runs.{inputs_at, stage_behind, Conflict}
use Rattle.roc_law_log.specs.Scheme.{Scheme}

-- the groups that started and those that ran, each in their order, and the transactions that a group left out of those that precede it
pub record Past : Type 0 where
  pub started : List TxnGroup
  pub left_out : TxnGroup → List TxnId
  pub ran : List TxnGroup

-- and what each shard decided, all that was decided in the order of first decision, and who was answered
pub record Log : Type 0 where
  pub past : Past
  pub decided : ℕ → List TxnId
  pub order : List TxnId
  pub answered : List TxnId

abbrev pub first_log : Log
first_log = record { past = record { started = []; left_out = λ r. []; ran = [] }; decided = λ s. []; order = []; answered = [] }

-- a group of u started before r, conflicts with it, and was not left out
pub record PrecedesGroup (S : Scheme) (start : Store) (past : Past) (u : TxnId) (r : TxnGroup) : Type 0 where
  pub first : TxnGroup
  pub of_first : first.txn ≡ u
  pub other : u ≢ r.txn
  pub began : IsListed is_txn_group past.started r
  pub before : IsListedBefore is_txn_group past.started first r
  pub conflict : Conflict S.behaviour start past.ran first r
  pub kept : ¬ IsListed is_txn (past.left_out r) u

-- u precedes t: so it does a group of t
pub record PrecedesTxn (S : Scheme) (start : Store) (past : Past) (u t : TxnId) : Type 0 where
  pub second : TxnGroup
  pub of_second : second.txn ≡ t
  pub by : PrecedesGroup S start past u second

-- and by immediate groups
pub record PrecedesTxnNow (S : Scheme) (start : Store) (past : Past) (u t : TxnId) : Type 0 where
  pub precedes : PrecedesTxn S start past u t
  pub immediate : IsTrue (S.is_immediate precedes.second)

-- the shard of a group, once those that it needs have run
abbrev pub shard_at : Scheme → Store → List TxnGroup → TxnGroup → ℕ
shard_at S start ran r = S.group_shard r (inputs_at S.behaviour (stage_behind S.behaviour start ran) r)

-- t has a group on shard s
pub record HasGroup (S : Scheme) (start : Store) (ran : List TxnGroup) (s : ℕ) (t : TxnId) : Type 0 where
  pub group : ℕ
  pub listed : IsListed is_group_number (S.behaviour.groups t) group
  pub on : shard_at S start ran (record { txn = t; group = group }) ≡ s

-- all groups of t started
abbrev pub IsWhole : Scheme → List TxnGroup → TxnId → Type 0
IsWhole S started t = (g : ℕ) → IsListed is_group_number (S.behaviour.groups t) g → IsListed is_txn_group started (record { txn = t; group = g })

-- t is decided, on each shard where it has a group
pub record IsDecidedThroughout (S : Scheme) (start : Store) (log : Log) (t : TxnId) : Type 0 where
  pub in_order : IsListed is_txn log.order t
  pub everywhere :
      (g : ℕ) → IsListed is_group_number (S.behaviour.groups t) g
      → IsListed is_txn (log.decided (shard_at S start log.past.ran (record { txn = t; group = g }))) t
