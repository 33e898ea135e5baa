-- What stays where more groups run: docs/PROOF.md, "The law about orders"
use Rattle.std.specs.Prelude.{◌≡◌, ℤ, List, ◌++◌}
use Rattle.std.specs.List.{AllByRecursion}
use Rattle.roc_sequence.specs.Places.{IsListed}
use Rattle.roc_rows.specs.Store.{Store}
use Rattle.roc_law_orders.specs.Behaviour.{TxnGroup, is_txn_group, Behaviour}
use Rattle.roc_law_orders.specs.Runs.{needs, inputs_at, stage_behind, uses_in, account}

-- what the groups of T leave as it was, where they run behind those of Q
pub record Stays (B : Behaviour) (start : Store) (Q T : List TxnGroup) : Type 0 where
  -- what a group of Q saw, did and gave
  pub account : (r : TxnGroup) → IsListed is_txn_group Q r → account B start (Q ++ T) r ≡ account B start Q r
  pub yielded : (r : TxnGroup) → IsListed is_txn_group Q r → (stage_behind B start (Q ++ T)).yielded r ≡ (stage_behind B start Q).yielded r
  -- the inputs of a group, once those that it needs have run
  pub inputs : (r : TxnGroup) → AllByRecursion (IsListed is_txn_group Q) (needs B r) → inputs_at B (stage_behind B start (Q ++ T)) r ≡ inputs_at B (stage_behind B start Q) r
  -- what a group of Q uses; and, once those that it needs have run, what one that waits uses, where that follows from its inputs alone
  pub uses : (r : TxnGroup) → IsListed is_txn_group Q r → uses_in B start (Q ++ T) r ≡ uses_in B start Q r
  pub waiting :
      (r : TxnGroup) → ¬ IsListed is_txn_group Q r → AllByRecursion (IsListed is_txn_group Q) (needs B r)
      → ((given : List (List ℤ)) (s t : Store) → B.uses r given s ≡ B.uses r given t)
      → uses_in B start (Q ++ T) r ≡ uses_in B start Q r
