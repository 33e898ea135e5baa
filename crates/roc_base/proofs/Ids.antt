-- The laws of transaction ids and of their order
use Rattle.std.proofs.Common.{◌≡◌, ◌≢◌, ℕ, Bool, true, false, List, refl, sym, ap, subst, ◌∙◌, arith, ◌⊎◌, inl, inr, []}
use Rattle.std.proofs.lemmas.Bool.{false≢true}
use Rattle.std.proofs.lemmas.Bool.Decides.{nat_tests}
use Rattle.std.proofs.lemmas.Cmp.{on_total, then_total, nat_cmp_total}
use Rattle.std.proofs.lemmas.Map.Lookups.{CmpEqualImpliesEq, exact_pairs, exact_unsigned}
use Rattle.std.specs.Bool.{Decides}
use Rattle.std.specs.List.{list_any}
use Rattle.std.specs.List.Sorted.{IsStrictlySortedBy}
use Rattle.std.specs.Cmp.{IsTotalOrder}
use Rattle.std.specs.Ordering.{nat_cmp, is_lt}
use Rattle.roc_sequence.specs.Lists.{Has}
use Rattle.roc_sequence.specs.Places.{IsListed, is_listed}
use Rattle.roc_sequence.proofs.Holds.{any_has, has_any}
use Rattle.roc_sequence.proofs.Listed.{has_listed, listed_has}
use Rattle.roc_sequence.proofs.Places.{listed_test, unlisted_test}
use Rattle.roc_base.specs.declared.id.TxnId.{TxnId}
use Rattle.roc_base.specs.TxnId.{is_txn, txn_cmp, txn_lt}
use Rattle.roc_base.specs.Equalities.{is_txn-true, is_txn-same}

pub is_txn-eq : (a b : TxnId) → a ≡ b → is_txn a b ≡ true
is_txn-eq a b e = subst (λ x. is_txn a x ≡ true) e (is_txn-same a)

pub is_txn-false : (a b : TxnId) → is_txn a b ≡ false → a ≢ b
is_txn-false a b h e = false≢true (sym h ∙ is_txn-eq a b e)

pub is_txn-ne : (a b : TxnId) → a ≢ b → is_txn a b ≡ false
is_txn-ne a b n = go (is_txn a b) refl
  where
    go : (t : Bool) → is_txn a b ≡ t → t ≡ false
    go true h = absurd (n (is_txn-true a b h))
    go false h = refl

pub is_txn-swap : (a b : TxnId) → is_txn a b ≡ is_txn b a
is_txn-swap a b = grind (arith, nat_tests)

-- the order
pub txn_lt-itself : (a : TxnId) → txn_lt a a ≡ false
txn_lt-itself a = grind (arith, nat_tests)

pub txn_lt-trans : (a b c : TxnId) → txn_lt a b ≡ true → txn_lt b c ≡ true → txn_lt a c ≡ true
txn_lt-trans a b c h k = grind (arith, nat_tests)

pub txn_lt-asym : (a b : TxnId) → txn_lt a b ≡ true → txn_lt b a ≡ false
txn_lt-asym a b h = grind (arith, nat_tests)

pub txn_lt-ne : (a b : TxnId) → txn_lt a b ≡ true → is_txn a b ≡ false
txn_lt-ne a b h = grind (arith, nat_tests)

-- of two ids that are not one, one comes first
pub txn_lt-other : (a b : TxnId) → is_txn a b ≡ false → txn_lt a b ≡ false → txn_lt b a ≡ true
txn_lt-other a b h k = grind (arith, nat_tests)

-- what does not come before is the same or comes behind
pub txn_cases : (a b : TxnId) → (txn_lt a b ≡ true) ⊎ ((a ≡ b) ⊎ (txn_lt b a ≡ true))
txn_cases a b = go (txn_lt a b) (is_txn a b) refl refl
  where
    go : (s t : Bool) → txn_lt a b ≡ s → is_txn a b ≡ t → (txn_lt a b ≡ true) ⊎ ((a ≡ b) ⊎ (txn_lt b a ≡ true))
    go true t h k = inl h
    go false true h k = inr (inl (is_txn-true a b k))
    go false false h k = inr (inr (txn_lt-other a b k h))

-- the order as one comparison
pub txn_cmp-total : IsTotalOrder txn_cmp
txn_cmp-total = then_total (on_total (λ t. t.coord) nat_cmp_total) (on_total (λ t. t.seq) nat_cmp_total)

-- ids that compare alike are one
pub txn_cmp-exact : CmpEqualImpliesEq txn_cmp
txn_cmp-exact a b h = ap (λ (p : ℕ × ℕ). record { coord = p.0; seq = p.1 }) (exact_pairs nat_cmp nat_cmp exact_unsigned exact_unsigned (a.coord, a.seq) (b.coord, b.seq) h)

pub is_lt-txn_cmp : (a b : TxnId) → is_lt (txn_cmp a b) ≡ txn_lt a b
is_lt-txn_cmp a b = grind (arith, nat_tests)

pub Decides-is_txn : (a b : TxnId) → Decides (is_txn a b) (a ≡ b)
Decides-is_txn a b = (is_txn-true a b, is_txn-eq a b)

-- what `contains` computes of ids is the test of membership
pub is_listed-any : (ids : List TxnId) (u : TxnId) → is_listed is_txn ids u ≡ list_any (λ x. is_txn x u) ids
is_listed-any ids u = go (list_any (λ x. is_txn x u) ids) refl
  where
    go : (b : Bool) → list_any (λ x. is_txn x u) ids ≡ b → is_listed is_txn ids u ≡ b
    go true e = (let r = any_has (λ x. is_txn x u) ids e in listed_test is_txn ids u (has_listed is_txn is_txn-true is_txn-same ids u (subst (λ v. Has v ids) (is_txn-true r.0 u r.2) r.1)))
    go false e = unlisted_test is_txn ids u (λ h. false≢true (sym e ∙ has_any (λ x. is_txn x u) ids u (listed_has is_txn is_txn-true is_txn-same ids u h) (is_txn-same u)))

pub none_rise : IsStrictlySortedBy txn_cmp []
unfolding IsStrictlySortedBy
none_rise = tt

pub unlisted_none : (t : TxnId) → ¬ IsListed is_txn [] t
unlisted_none t l = omega arith
