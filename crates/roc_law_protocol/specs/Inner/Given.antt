-- What is known of the log machine and of stores, as their laws say it
use Rattle.std.specs.Prelude.{◌≡◌, ◌≢◌, ◌↔◌, ℕ, ℤ, pos, Bool, List, IsTrue, ◌⊎◌}
use Rattle.roc_sequence.specs.Places.{IsListed, IsListedBefore}
use Rattle.roc_base.specs.declared.id.TxnId.{TxnId}
use Rattle.roc_base.specs.TxnId.{is_txn}
use Rattle.roc_rows.specs.declared.cell.Cell.{Cell}
use Rattle.roc_rows.specs.Store.{Store, read, write, empty}
use Rattle.roc_depgraph.specs.Reach.{Reaches}
use Rattle.roc_component.specs.Components.{Mates, IsComponentOrder}
use Rattle.roc_law_orders.specs.Behaviour.{TxnGroup, is_txn_group, is_group_number, DoesSame}
use Rattle.roc_law_orders.specs.Runs.{Stage, inputs_at, stage_behind, after_group, Conflict, account}
use Rattle.roc_law_orders.specs.Orders.{one_by_one, StandOneByOne}
use Rattle.roc_law_log.specs.Scheme.{Scheme}
use Rattle.roc_law_log.specs.Log.{Log, PrecedesTxn, PrecedesTxnNow, shard_at, HasGroup}
use Rattle.roc_law_log.specs.Taking.{RespectsPrecedence}
use Rattle.roc_law_log.specs.Edges.{AreEdges}
use Rattle.roc_law_log.specs.Steps.{LogSteps, IsReachedLog, IsWaived, new_in}
use Rattle.roc_law_log.specs.Invariants.{LogInvariants, LogGrows}
use Rattle.roc_law_log.specs.Kept.{KeepsRan}

pub record LogLaws (S : Scheme) (start : Store) : Type 0 where
  pub holds : (log : Log) → IsReachedLog S start log → LogInvariants S start log
  pub grows : (log later : Log) → LogInvariants S start log → LogSteps S start log later → LogGrows S start log later
  pub one_class : (log : Log) → LogInvariants S start log → (q r : TxnGroup) → Conflict S.behaviour start log.past.ran q r → S.is_immediate q ≡ S.is_immediate r
  pub one_shard : (log : Log) → LogInvariants S start log → (q r : TxnGroup) → Conflict S.behaviour start log.past.ran q r → shard_at S start log.past.ran q ≡ shard_at S start log.past.ran r
  pub elsewhere : (s : Stage) (r : TxnGroup) (x : Cell) → S.cell_shard x ≢ S.group_shard r (inputs_at S.behaviour s r) → read (after_group S.behaviour s r).store x ≡ read s.store x
  pub same : (r : TxnGroup) (given : List (List ℤ)) (s t : Store) → ((x : Cell) → S.cell_shard x ≡ S.group_shard r given → read s x ≡ read t x) → DoesSame S.behaviour r given s t
  pub cells :
      (r : TxnGroup) (given : List (List ℤ)) (s t : Store) → ((x : Cell) → S.cell_shard x ≡ S.group_shard r given → read s x ≡ read t x)
      → (x : Cell) → S.cell_shard x ≡ S.group_shard r given → read (S.behaviour.after r given s) x ≡ read (S.behaviour.after r given t) x
  pub taken :
      (log : Log) → LogInvariants S start log
      → (s : ℕ) (edge now : TxnId → TxnId → Bool) (members all : List TxnId) → AreEdges S start log edge now all
      → ((u t : TxnId) → IsListed is_txn (new_in (log.decided s) all) t → PrecedesTxn S start log.past u t
      → IsListed is_txn (log.decided s) u ⊎ (IsListed is_txn (new_in (log.decided s) all) u ⊎ IsWaived S start log u))
      → IsComponentOrder (λ u t. IsTrue (edge u t)) (λ u t. IsTrue (now u t)) members all
      → RespectsPrecedence (PrecedesTxn S start log.past) (PrecedesTxnNow S start log.past) (IsWaived S start log) (new_in (log.decided s) all)

-- what the log machine's laws say besides
pub record SerialLaws (S : Scheme) (start : Store) : Type 0 where
  pub ancestors :
      (log : Log) → LogInvariants S start log → (u t : TxnId) → IsListed is_txn log.order t → Reaches (PrecedesTxn S start log.past) u t → ¬ Mates (PrecedesTxn S start log.past) t u
      → IsListedBefore is_txn log.order u t
  pub mates :
      (log : Log) → LogInvariants S start log → (s : ℕ) (t a b : TxnId) → HasGroup S start log.past.ran s t → IsListed is_txn (log.decided s) t
      → Mates (PrecedesTxn S start log.past) t a → Mates (PrecedesTxn S start log.past) t b → IsListedBefore is_txn (log.decided s) a b ↔ IsListedBefore is_txn log.order a b
  pub order : (log : Log) → IsReachedLog S start log → KeepsRan S start log log.order
  pub same :
      (log : Log) → IsReachedLog S start log → (O : List TxnId) → KeepsRan S start log O
      → (r : TxnGroup) → IsListed is_txn_group log.past.ran r → IsListed is_txn O r.txn
      → account S.behaviour start (one_by_one S.behaviour O) r ≡ account S.behaviour start log.past.ran r
  pub stand : (order : List TxnId) → StandOneByOne S.behaviour order
  -- where all groups of the order's transactions ran, and no others
  pub last :
      (log : Log) → IsReachedLog S start log → (x : Cell) → ((q : TxnGroup) → IsListed is_txn_group log.past.ran q → IsListed is_txn log.order q.txn)
      → ((q : TxnGroup) → IsListed is_txn log.order q.txn → IsListed is_group_number (S.behaviour.groups q.txn) q.group → IsListed is_txn_group log.past.ran q)
      → read (stage_behind S.behaviour start (one_by_one S.behaviour log.order)).store x ≡ read (stage_behind S.behaviour start log.past.ran).store x

-- what is read of a store
pub record StoreLaws : Type 0 where
  pub zero : (c : Cell) → read empty c ≡ pos 0
  pub same : (s : Store) (c : Cell) (v : ℤ) → read (write s c v) c ≡ v
  pub other : (s : Store) (c : Cell) (v : ℤ) (d : Cell) → c ≢ d → read (write s c v) d ≡ read s d
