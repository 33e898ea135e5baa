-- Runs as they were, transactions one by one, and an order that follows the conflicts of a run: docs/PROOF.md, "The law about orders"
use Rattle.std.specs.Prelude.{◌≡◌, ◌≢◌, ℤ, List, map, flat_map, IsTrue}
use Rattle.std.specs.List.{AllByRecursion}
use Rattle.roc_sequence.specs.Places.{IsListed, IsListedBefore, NoneTwice}
use Rattle.roc_base.specs.declared.id.TxnId.{TxnId}
use Rattle.roc_base.specs.TxnId.{is_txn}
use Rattle.roc_rows.specs.declared.cell.Cell.{Cell}
use Rattle.roc_rows.specs.Store.{Store}
use Rattle.roc_law_orders.specs.Behaviour.{TxnGroup, is_txn_group, is_group_number, is_used, is_written, Behaviour}
use Rattle.roc_law_orders.specs.Runs.{needs, uses_in, Conflict}

-- R is a list of groups as they may have run: none twice, each behind those whose values it needs
pub record IsRealRun (B : Behaviour) (R : List TxnGroup) : Type 0 where
  pub once : NoneTwice is_txn_group R
  pub are_groups : (r : TxnGroup) → IsListed is_txn_group R r → IsListed is_group_number (B.groups r.txn) r.group
  pub behind_needs : (r : TxnGroup) → IsListed is_txn_group R r → AllByRecursion (λ q. IsListedBefore is_txn_group R q r) (needs B r)

-- the groups of t, in their order
abbrev pub all_groups : Behaviour → TxnId → List TxnGroup
all_groups B t = map (λ g. record { txn = t; group = g }) (B.groups t)

-- the groups of the transactions of O, one transaction after another
abbrev pub one_by_one : Behaviour → List TxnId → List TxnGroup
one_by_one B O = flat_map (all_groups B) O

-- O follows the conflicts of the groups R that ran
pub record Follows (B : Behaviour) (start : Store) (R : List TxnGroup) (O : List TxnId) : Type 0 where
  pub once : NoneTwice is_txn O
  -- of two in conflict that ran, of two transactions of O, the one that ran first is of the first transaction
  pub order :
      (q r : TxnGroup) → IsListed is_txn O q.txn → IsListed is_txn O r.txn → q.txn ≢ r.txn
      → IsListed is_txn_group R q → IsListed is_txn_group R r → Conflict B start R q r
      → IsListedBefore is_txn_group R q r → IsListedBefore is_txn O q.txn r.txn
  -- a group that did not run is of a transaction behind that of each with which it conflicts and which ran
  pub absent_later :
      (q r : TxnGroup) → IsListed is_txn O q.txn → IsListed is_txn O r.txn → q.txn ≢ r.txn
      → IsListed is_group_number (B.groups q.txn) q.group → ¬ IsListed is_txn_group R q → IsListed is_txn_group R r → Conflict B start R q r
      → IsListedBefore is_txn O r.txn q.txn
  -- and what it uses follows from its inputs alone
  pub absent_steady :
      (q : TxnGroup) → IsListed is_txn O q.txn → IsListed is_group_number (B.groups q.txn) q.group → ¬ IsListed is_txn_group R q
      → (given : List (List ℤ)) (s t : Store) → B.uses q given s ≡ B.uses q given t
  -- what a group of a transaction of O sees was written by such groups
  pub writers :
      (q r : TxnGroup) (x : Cell) → IsListed is_txn O r.txn → IsListed is_txn_group R q → IsListed is_txn_group R r
      → IsListedBefore is_txn_group R q r → IsTrue (is_written x (uses_in B start R q)) → IsTrue (is_used x (uses_in B start R r))
      → IsListed is_txn O q.txn
  -- groups of one transaction in conflict ran in its order
  pub own_order :
      (q r : TxnGroup) → IsListed is_txn O r.txn → q.txn ≡ r.txn
      → IsListed is_txn_group R q → IsListed is_txn_group R r → Conflict B start R q r
      → IsListedBefore is_txn_group R q r → IsListedBefore is_group_number (B.groups r.txn) q.group r.group
  -- and none ran while an earlier one with which it conflicts did not
  pub own_earlier :
      (q r : TxnGroup) → IsListed is_txn O r.txn → q.txn ≡ r.txn → IsListed is_txn_group R r → Conflict B start R q r
      → IsListedBefore is_group_number (B.groups r.txn) q.group r.group → IsListed is_txn_group R q
  -- what any group of a transaction of O needs has run
  pub needs_ran : (r : TxnGroup) → IsListed is_txn O r.txn → IsListed is_group_number (B.groups r.txn) r.group → AllByRecursion (IsListed is_txn_group R) (needs B r)

-- where groups stand one by one
pub record StandOneByOne (B : Behaviour) (O : List TxnId) : Type 0 where
  pub once : NoneTwice is_txn O → NoneTwice is_txn_group (one_by_one B O)
  -- they are the groups of the transactions of O
  pub all : (r : TxnGroup) → IsListed is_txn O r.txn → IsListed is_group_number (B.groups r.txn) r.group → IsListed is_txn_group (one_by_one B O) r
  pub of_order : (r : TxnGroup) → IsListed is_txn_group (one_by_one B O) r → IsListed is_txn O r.txn
  pub are_groups : (r : TxnGroup) → IsListed is_txn_group (one_by_one B O) r → IsListed is_group_number (B.groups r.txn) r.group
  -- those of the earlier transaction first
  pub across : (q r : TxnGroup) → IsListedBefore is_txn O q.txn r.txn → IsListed is_group_number (B.groups q.txn) q.group → IsListedBefore is_txn_group (one_by_one B O) q r
  -- and those of one transaction in its order
  pub within :
      (q r : TxnGroup) → q.txn ≡ r.txn → IsListed is_txn O r.txn
      → IsListedBefore is_group_number (B.groups r.txn) q.group r.group → IsListedBefore is_txn_group (one_by_one B O) q r
