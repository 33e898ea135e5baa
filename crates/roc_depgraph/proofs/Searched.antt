-- What a search among ids that rise finds
use Rattle.std.proofs.Common.{◌≡◌, ℕ, zero, suc, ◌+◌, ◌<◌, Bool, true, false, List, [], ◌∷◌, length, get_or, Result, Ok, Err, refl, sym, ap, subst, ◌∙◌, arith, inl, inr}
use Rattle.std.proofs.lemmas.Bool.{false≢true, ltb-true, ltb-false}
use Rattle.std.proofs.lemmas.List.Sorted.{searchable_from_sorted}
use Rattle.std.proofs.lemmas.Map.Keys.{Less-from_sorted}
use Rattle.std.specs.List.Sorted.{IsStrictlySortedBy, IsSortedBy, IsBinarySearchResult, IsSearchInRange, IsNonDecreasingBy, IsPartitionPoint}
use Rattle.std.specs.Bool.{nat_lt}
use Rattle.std.specs.Ordering.{is_lt, ordering_index, ordering_reverse}
use Rattle.std.specs.Result.{is_ok}
use Rattle.std.specs.declared.cmp.Ordering.TheVariants.{Less, Equal, Greater}
use Rattle.roc_sequence.specs.Places.{IsListed, is_listed}
use Rattle.roc_sequence.proofs.Places.{listed_test, unlisted_test, listed_head, listed_tail, listed_cases}
use Rattle.roc_base.specs.declared.id.TxnId.{TxnId}
use Rattle.roc_base.specs.TxnId.{is_txn, txn_cmp, txn_lt}
use Rattle.roc_base.specs.Equalities.{is_txn-true, is_txn-same}
use Rattle.roc_base.proofs.Ids.{txn_cmp-total, txn_cmp-exact, is_lt-txn_cmp, txn_lt-asym, txn_lt-itself}

pub none : TxnId
none = record { coord = 0; seq = 0 }

-- what stands at a place is listed
pub listed_there : (ids : List TxnId) (i : ℕ) (d x : TxnId) → i < length ids → get_or ids i d ≡ x → IsListed is_txn ids x
listed_there [] i d x h e = absurd (omega arith)
listed_there (y ∷ ys) zero d x h e = subst (λ v. IsListed is_txn (y ∷ ys) v) e (listed_head is_txn y ys (is_txn-same y))
listed_there (y ∷ ys) (suc i) d x h e = listed_tail is_txn y ys x (listed_there ys i d x (omega arith) e)

pub record StandsAt (ids : List TxnId) (x : TxnId) : Type 0 where
  pub place : ℕ
  pub within : place < length ids
  pub is : (d : TxnId) → get_or ids place d ≡ x

-- what is listed stands at a place
pub stands_at : (ids : List TxnId) (x : TxnId) → IsListed is_txn ids x → StandsAt ids x
stands_at [] x l = absurd (omega arith)
stands_at (y ∷ ys) x l =
    elim (listed_cases is_txn y ys x l) [
      | inl e ↦ record { place = 0; within = omega arith; is = λ d. sym (is_txn-true x y e) }
      | inr k ↦ (
          let at = stands_at ys x k.1 in
          record { place = suc at.place; within = let w = at.within in omega arith; is = at.is })
    ]

module _ (ids : List TxnId) (x : TxnId) (rising : IsStrictlySortedBy txn_cmp ids) where
  -- what a binary search asks
  pub ids_sorted : IsSortedBy (λ a b. is_lt (txn_cmp a b)) ids
  ids_sorted k d low high =
      let a = get_or ids k d in
      let b = get_or ids (k + 1) d in
      let before : txn_lt a b ≡ true = sym (is_lt-txn_cmp a b) ∙ ap is_lt (Less-from_sorted txn_cmp ids k (k + 1) d rising (omega arith) high) in
      is_lt-txn_cmp b a ∙ txn_lt-asym a b before

  comparisons_rise : IsNonDecreasingBy (λ y. ordering_index (txn_cmp y x)) ids
  comparisons_rise = searchable_from_sorted txn_cmp-total (λ y. y) ids x ids_sorted

  itself : txn_cmp x x ≡ Less → ⊥
  itself e = false≢true (sym (txn_lt-itself x) ∙ (sym (is_lt-txn_cmp x x) ∙ ap is_lt e))

  found : (i : ℕ) → i < length ids → ((d : TxnId) → txn_cmp (get_or ids i d) x ≡ Equal) → IsListed is_txn ids x
  found i h e = listed_there ids i none x h (txn_cmp-exact (get_or ids i none) x (e none))

  equal_is_not_greater : txn_cmp x x ≡ Greater → ⊥
  equal_is_not_greater e = itself (txn_cmp-total.antisymm x x ∙ ap ordering_reverse e)

  place_is_none : (i : ℕ) → IsPartitionPoint (λ y. txn_cmp y x ≡ Less) (λ y. txn_cmp y x ≡ Greater) ids i → StandsAt ids x → ⊥
  place_is_none i parts at = go (nat_lt at.place i) refl
    where
      go : (b : Bool) → nat_lt at.place i ≡ b → ⊥
      go true e = itself (subst (λ y. txn_cmp y x ≡ Less) (at.is none) (parts.0 at.place none (omega arith) (ltb-true at.place i e)))
      go false e = equal_is_not_greater (subst (λ y. txn_cmp y x ≡ Greater) (at.is none) (parts.1 at.place none (ltb-false at.place i e) at.within))

  pub searched_among : (r : Result ℕ ℕ) → IsSearchInRange r (length ids) → IsBinarySearchResult (λ y. txn_cmp y x) ids r → is_ok r ≡ is_listed is_txn ids x
  searched_among (Ok i) h e = sym (listed_test is_txn ids x (found i h e))
  searched_among (Err i) h parted = sym (unlisted_test is_txn ids x absent)
    where
      absent : ¬ IsListed is_txn ids x
      absent l = place_is_none i (parted comparisons_rise) (stands_at ids x l)
