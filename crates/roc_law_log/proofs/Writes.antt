-- How many uses may write a cell
use Rattle.std.proofs.Common.{◌≡◌, ◌+◌, ◌<◌, Bool, true, false, cond, ◌&&◌, ◌||◌, List, [], ◌∷◌, ◌++◌, length, refl, subst, arith, inl, inr}
use Rattle.std.specs.List.{filter}
use Rattle.roc_sequence.specs.Places.{IsListed}
use Rattle.roc_sequence.proofs.Places.{listed_head, listed_tail}
use Rattle.roc_rows.specs.declared.cell.Cell.{Cell}
use Rattle.roc_rows.specs.Cells.{is_cell}
use Rattle.roc_rows.specs.Store.{Store}
use Rattle.roc_law_orders.specs.Behaviour.{TxnGroup, is_txn_group, is_written, Use, Behaviour}
use Rattle.roc_law_orders.specs.Runs.{uses_in}
use Rattle.roc_law_orders.proofs.SameGroups.{is_group-same}
use Rattle.roc_law_orders.proofs.Places.{in_cases}
use Rattle.roc_law_log.specs.Clean.{writes_of, writes_among}

written_counts : (x : Cell) (uses : List Use) → is_written x uses ≡ true → 0 < writes_of x uses
written_counts x [] h = absurd (cc)
written_counts x (u ∷ uses) h = go (u.writes && is_cell u.cell x) h (written_counts x uses)
  where
    go : (b : Bool) → (b || is_written x uses) ≡ true → (is_written x uses ≡ true → 0 < writes_of x uses)
        → 0 < length (cond b (u ∷ filter (λ u. u.writes && is_cell u.cell x) uses) (filter (λ u. u.writes && is_cell u.cell x) uses))
    go true e ih = omega arith
    go false e ih = ih e

module _ (B : Behaviour) (start : Store) (x : Cell) where
  pub among_append : (R Q T : List TxnGroup) → writes_among B start R x (Q ++ T) ≡ writes_among B start R x Q + writes_among B start R x T
  among_append R [] T = omega arith
  among_append R (q ∷ Q) T = let e = among_append R Q T in omega arith

  pub among_same :
      (R P Q : List TxnGroup) → ((r : TxnGroup) → IsListed is_txn_group Q r → uses_in B start R r ≡ uses_in B start P r)
      → writes_among B start R x Q ≡ writes_among B start P x Q
  among_same R P [] h = refl
  among_same R P (q ∷ Q) h =
      λ j. writes_of x (h q (listed_head is_txn_group q Q (is_group-same q)) j) + among_same R P Q (λ r i. h r (listed_tail is_txn_group q Q r i)) j

  -- a group that may write it counts
  pub among_one : (R Q : List TxnGroup) (q : TxnGroup) → IsListed is_txn_group Q q → is_written x (uses_in B start R q) ≡ true → 0 < writes_among B start R x Q
  among_one R [] q h e = absurd (omega arith)
  among_one R (p ∷ Q) q h e = elim (in_cases Q p q h) [
    | inl f ↦ (let k = written_counts x (uses_in B start R p) (subst (λ z. is_written x (uses_in B start R z) ≡ true) f e) in omega arith)
    | inr f ↦ (let k = among_one R Q q f.1 e in omega arith)
  ]
