-- What holds of each log, and what no step takes back: docs/PROOF.md, "The log machine"
use Rattle.std.specs.Prelude.{◌≡◌, ◌↔◌, ℕ, false, IsTrue, List, ◌++◌, ◌⊎◌}
use Rattle.std.specs.List.{AllByRecursion}
use Rattle.roc_sequence.specs.Places.{IsListed, IsListedBefore, NoneTwice}
use Rattle.roc_base.specs.declared.id.TxnId.{TxnId}
use Rattle.roc_base.specs.TxnId.{is_txn}
use Rattle.roc_rows.specs.Store.{Store}
use Rattle.roc_law_orders.specs.Behaviour.{TxnGroup, is_txn_group, is_group_number}
use Rattle.roc_law_orders.specs.Runs.{needs, inputs_at, stage_behind, uses_in}
use Rattle.roc_law_log.specs.Scheme.{Scheme}
use Rattle.roc_law_log.specs.Log.{Log, PrecedesGroup, PrecedesTxn, PrecedesTxnNow, shard_at, HasGroup, IsWhole, IsDecidedThroughout}
use Rattle.roc_law_log.specs.Taking.{IsWholeOrder, IsShardOrder}
use Rattle.roc_law_log.specs.Steps.{IsWaived}

-- t, which r left out, was decided on r's shard before r's transaction, and is earlier in the order
pub record IsLeftOut (S : Scheme) (start : Store) (log : Log) (r : TxnGroup) (t : TxnId) : Type 0 where
  pub decided : IsListed is_txn (log.decided (shard_at S start log.past.ran r)) t
  pub earlier : IsListed is_txn log.order r.txn → IsListedBefore is_txn log.order t r.txn
  pub earlier_here :
      IsListed is_txn (log.decided (shard_at S start log.past.ran r)) r.txn
      → IsListedBefore is_txn (log.decided (shard_at S start log.past.ran r)) t r.txn

pub record LogInvariants (S : Scheme) (start : Store) (log : Log) : Type 0 where
  -- each group started once, behind the runs of those that it needs
  pub started_once : NoneTwice is_txn_group log.past.started
  pub are_groups : (r : TxnGroup) → IsListed is_txn_group log.past.started r → IsListed is_group_number (S.behaviour.groups r.txn) r.group
  pub needs_ran : (r : TxnGroup) → IsListed is_txn_group log.past.started r → AllByRecursion (IsListed is_txn_group log.past.ran) (needs S.behaviour r)
  -- what ran had started, ran once, and ran behind those that it needs
  pub ran_once : NoneTwice is_txn_group log.past.ran
  pub ran_started : (r : TxnGroup) → IsListed is_txn_group log.past.ran r → IsListed is_txn_group log.past.started r
  pub behind_needs : (r : TxnGroup) → IsListed is_txn_group log.past.ran r → AllByRecursion (λ q. IsListedBefore is_txn_group log.past.ran q r) (needs S.behaviour r)
  -- immediate groups ran as they started
  pub now_ran : (r : TxnGroup) → IsListed is_txn_group log.past.started r → IsTrue (S.is_immediate r) → IsListed is_txn_group log.past.ran r
  pub now_order :
      (q r : TxnGroup) → IsTrue (S.is_immediate q) → IsTrue (S.is_immediate r) → IsListed is_txn_group log.past.ran r
      → IsListedBefore is_txn_group log.past.ran q r → IsListedBefore is_txn_group log.past.started q r
  -- the others as their shards decided, those of one transaction in its order
  pub later_ran :
      (r : TxnGroup) → IsListed is_txn_group log.past.started r → S.is_immediate r ≡ false
      → IsListed is_txn (log.decided (shard_at S start log.past.ran r)) r.txn → IsListed is_txn_group log.past.ran r
  pub later_decided :
      (r : TxnGroup) → IsListed is_txn_group log.past.ran r → S.is_immediate r ≡ false
      → IsListed is_txn (log.decided (shard_at S start log.past.ran r)) r.txn
  pub later_order :
      (q r : TxnGroup) → S.is_immediate q ≡ false → S.is_immediate r ≡ false → shard_at S start log.past.ran q ≡ shard_at S start log.past.ran r
      → IsListed is_txn_group log.past.ran r → IsListedBefore is_txn_group log.past.ran q r
      → IsListedBefore is_txn (log.decided (shard_at S start log.past.ran r)) q.txn r.txn
      ⊎ ((q.txn ≡ r.txn) × IsListedBefore is_group_number (S.behaviour.groups r.txn) q.group r.group)
  -- what is decided has started whole, and what precedes it comes first, on each shard and in the order
  pub whole : (t : TxnId) → IsListed is_txn log.order t → IsWhole S log.past.started t
  pub in_order : (s : ℕ) (t : TxnId) → IsListed is_txn (log.decided s) t → IsListed is_txn log.order t
  pub decided :
      (s : ℕ) → IsShardOrder (PrecedesTxn S start log.past) (PrecedesTxnNow S start log.past) (HasGroup S start log.past.ran s) (IsWaived S start log) (log.decided s)
  pub order : IsWholeOrder (PrecedesTxn S start log.past) (PrecedesTxnNow S start log.past) log.order
  pub left_out : (r : TxnGroup) (t : TxnId) → IsListed is_txn_group log.past.started r → IsListed is_txn (log.past.left_out r) t → IsLeftOut S start log r t
  -- who is answered is decided wherever it has a group
  pub answered : (t : TxnId) → IsListed is_txn log.answered t → IsDecidedThroughout S start log t

-- the list goes on from the other
abbrev pub Continues : {A : Type 0} → List A → List A → Type 0
Continues {A} xs ys = (rest : List A) × (ys ≡ xs ++ rest)

-- what stays as steps lead from one log to a later one
pub record LogGrows (S : Scheme) (start : Store) (log later : Log) : Type 0 where
  -- each list goes on at its end
  pub started : Continues log.past.started later.past.started
  pub ran : Continues log.past.ran later.past.ran
  pub decided : (s : ℕ) → Continues (log.decided s) (later.decided s)
  pub order : Continues log.order later.order
  pub answered : Continues log.answered later.answered
  -- what a group gave, the inputs of a group once those that it needs have run, and what a group that started uses
  pub yielded :
      (r : TxnGroup) → IsListed is_txn_group log.past.ran r
      → (stage_behind S.behaviour start later.past.ran).yielded r ≡ (stage_behind S.behaviour start log.past.ran).yielded r
  pub inputs :
      (r : TxnGroup) → AllByRecursion (IsListed is_txn_group log.past.ran) (needs S.behaviour r)
      → inputs_at S.behaviour (stage_behind S.behaviour start later.past.ran) r ≡ inputs_at S.behaviour (stage_behind S.behaviour start log.past.ran) r
  pub uses : (r : TxnGroup) → IsListed is_txn_group log.past.started r → uses_in S.behaviour start later.past.ran r ≡ uses_in S.behaviour start log.past.ran r
  -- and who precedes it
  pub precedes : (u : TxnId) (r : TxnGroup) → IsListed is_txn_group log.past.started r → PrecedesGroup S start log.past u r ↔ PrecedesGroup S start later.past u r
