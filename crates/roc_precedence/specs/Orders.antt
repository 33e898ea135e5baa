-- The least order of transactions that keeps a relation
use Rattle.std.specs.Prelude.{◌↔◌, Bool, List, IsTrue}
use Rattle.roc_sequence.specs.Places.{IsListed, IsListedBefore, NoneTwice}
use Rattle.roc_base.specs.declared.id.TxnId.{TxnId}
use Rattle.roc_base.specs.TxnId.{is_txn, txn_lt}
use Rattle.roc_component.specs.Components.{among}
use Rattle.roc_depgraph.specs.Reach.{Reaches}

-- xs are the members of M in the least order that keeps G
pub record IsLeastOrder (G : TxnId → TxnId → Type 0) (M xs : List TxnId) : Type 0 where
  -- each stands in it once
  pub once : NoneTwice is_txn xs
  pub from : (x : TxnId) → IsListed is_txn xs x → IsListed is_txn M x
  pub all : (x : TxnId) → IsListed is_txn M x → IsListed is_txn xs x
  -- behind all members from which G leads to it
  pub keeps : (u x : TxnId) → IsListed is_txn M u → IsListed is_txn M x → G u x → IsListedBefore is_txn xs u x
  -- and is the least of those that could stand at its place
  pub least :
      (x z : TxnId)
      → IsListed is_txn M x → IsListed is_txn M z → ¬ IsListedBefore is_txn xs z x
      → ((u : TxnId) → IsListed is_txn M u → G u z → IsListedBefore is_txn xs u x)
      → ¬ IsTrue (txn_lt z x)

-- chains of G among the members of M lead where chains of H do
abbrev pub HaveSameChains : (G H : TxnId → TxnId → Type 0) → (M : List TxnId) → Type 0
HaveSameChains G H M = (u t : TxnId) → Reaches (among M G) u t ↔ Reaches (among M H) u t

-- the relation that a test tells
abbrev pub Told : (TxnId → TxnId → Bool) → TxnId → TxnId → Type 0
Told test u t = IsTrue (test u t)
