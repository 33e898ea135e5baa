-- What it means that a list of ids rises
use Rattle.std.proofs.Common.{◌≡◌, true, List, ◌∷◌, ◌⊎◌, ◌∙◌, inl, inr}
use Rattle.std.specs.List.Sorted.{IsStrictlySortedBy}
use Rattle.std.specs.declared.cmp.Ordering.TheVariants.{Less}
use Rattle.roc_sequence.specs.Places.{IsListed}
use Rattle.roc_sequence.proofs.Holds.{has_all}
use Rattle.roc_sequence.proofs.Places.{listed_head, listed_tail, listed_cases}
use Rattle.roc_sequence.proofs.Rising.{less_from_test}
use Rattle.roc_base.specs.declared.id.TxnId.{TxnId}
use Rattle.roc_base.specs.TxnId.{is_txn, txn_cmp, txn_lt}
use Rattle.roc_base.specs.Equalities.{is_txn-same, is_txn-true}
use Rattle.roc_base.proofs.Ids.{is_lt-txn_cmp}
use Rattle.roc_depgraph.proofs.Listed.{has_listed}
use Rattle.roc_depgraph.proofs.RisingLists.{below}

-- one that comes before all of a rising list, and these
pub rises : (x : TxnId) (xs : List TxnId) → IsStrictlySortedBy txn_cmp xs → ((u : TxnId) → IsListed is_txn xs u → txn_lt x u ≡ true) → IsStrictlySortedBy txn_cmp (x ∷ xs)
unfolding IsStrictlySortedBy
rises x xs r before = (has_all (λ y. txn_cmp x y ≡ Less) xs (λ y h. less_from_test (txn_cmp x y) (is_lt-txn_cmp x y ∙ before y (has_listed xs y h))), r)

pub first_before : (x : TxnId) (xs : List TxnId) → IsStrictlySortedBy txn_cmp (x ∷ xs) → (u : TxnId) → IsListed is_txn xs u → txn_lt x u ≡ true
unfolding IsStrictlySortedBy
first_before x xs r u l = below x u xs r.0 l

pub rest_rises : (x : TxnId) (xs : List TxnId) → IsStrictlySortedBy txn_cmp (x ∷ xs) → IsStrictlySortedBy txn_cmp xs
unfolding IsStrictlySortedBy
rest_rises x xs r = r.1

-- a member is the first, or one of the rest
pub first_or_rest : (x : TxnId) (xs : List TxnId) (u : TxnId) → IsListed is_txn (x ∷ xs) u → (u ≡ x) ⊎ IsListed is_txn xs u
first_or_rest x xs u l = elim (listed_cases is_txn x xs u l) [ inl e ↦ inl (is_txn-true u x e) | inr k ↦ inr k.1 ]

pub in_first : (x : TxnId) (xs : List TxnId) → IsListed is_txn (x ∷ xs) x
in_first x xs = listed_head is_txn x xs (is_txn-same x)

pub in_rest : (x : TxnId) (xs : List TxnId) (u : TxnId) → IsListed is_txn xs u → IsListed is_txn (x ∷ xs) u
in_rest x xs u l = listed_tail is_txn x xs u l
