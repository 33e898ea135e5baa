-- Orders in which transactions that precede one another are taken: docs/PROOF.md, "The log machine". E u t says that u precedes t, and
-- I u t that it does by immediate groups
use Rattle.std.specs.Prelude.{List, ◌⊎◌}
use Rattle.roc_sequence.specs.Places.{IsListed, IsListedBefore, NoneTwice}
use Rattle.roc_base.specs.declared.id.TxnId.{TxnId}
use Rattle.roc_base.specs.TxnId.{is_txn}
use Rattle.roc_component.specs.Components.{Mates, IsNextInside}

-- How a shard takes new transactions, as far as they are not waived: what precedes comes first, a component is taken as one, and inside
-- it each is the next by the rule
pub record RespectsPrecedence (E I : TxnId → TxnId → Type 0) (waived : TxnId → Type 0) (ts : List TxnId) : Type 0 where
  pub once : NoneTwice is_txn ts
  pub earlier : (u t : TxnId) → IsListed is_txn ts u → IsListed is_txn ts t → E u t → ¬ Mates E t u → ¬ waived u → IsListedBefore is_txn ts u t
  pub together :
      (a b t : TxnId) → IsListed is_txn ts t → Mates E a b → ¬ Mates E a t → ¬ waived a
      → IsListedBefore is_txn ts a t → IsListedBefore is_txn ts b t
  pub inside : (t : TxnId) → IsListed is_txn ts t → ¬ waived t → IsNextInside E I (λ u. IsListedBefore is_txn ts u t) t

-- A list of transactions with all that precedes them, as they were taken
pub record IsWholeOrder (E I : TxnId → TxnId → Type 0) (L : List TxnId) : Type 0 where
  pub once : NoneTwice is_txn L
  -- what precedes is in it, and earlier unless the two are in one component
  pub closed : (u t : TxnId) → IsListed is_txn L t → E u t → IsListed is_txn L u
  pub earlier : (u t : TxnId) → IsListed is_txn L t → E u t → ¬ Mates E t u → IsListedBefore is_txn L u t
  -- a component stands together
  pub together : (a b t : TxnId) → IsListed is_txn L t → Mates E a b → ¬ Mates E a t → IsListedBefore is_txn L a t → IsListedBefore is_txn L b t
  pub inside : (t : TxnId) → IsListed is_txn L t → IsNextInside E I (λ u. IsListedBefore is_txn L u t) t

-- The list of one shard, as far as it says something of transactions that have a group here. What precedes may be missing where it is
-- waived
pub record IsShardOrder (E I : TxnId → TxnId → Type 0) (here waived : TxnId → Type 0) (L : List TxnId) : Type 0 where
  pub once : NoneTwice is_txn L
  pub closed : (u t : TxnId) → IsListed is_txn L t → E u t → IsListed is_txn L u ⊎ waived u
  pub earlier : (u t : TxnId) → IsListed is_txn L t → here u → E u t → ¬ Mates E t u → IsListedBefore is_txn L u t
  -- the component of one that has a group here is taken as a whole
  pub whole : (t c : TxnId) → IsListed is_txn L t → here t → Mates E t c → IsListed is_txn L c
  pub inside : (t c : TxnId) → IsListed is_txn L t → here t → Mates E t c → IsNextInside E I (λ u. IsListedBefore is_txn L u c) c
