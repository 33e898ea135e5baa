-- Rising lists with the same members are one
use Rattle.std.proofs.Common.{◌≡◌, true, List, [], ◌∷◌, refl, sym, ap, subst, ◌∙◌, arith, inl, inr}
use Rattle.std.proofs.lemmas.Bool.{false≢true}
use Rattle.std.specs.List.{AllByRecursion}
use Rattle.std.specs.List.Sorted.{IsStrictlySortedBy}
use Rattle.std.specs.Ordering.{is_lt}
use Rattle.std.specs.declared.cmp.Ordering.TheVariants.{Less}
use Rattle.roc_sequence.specs.Places.{IsListed}
use Rattle.roc_sequence.proofs.Places.{listed_head, listed_tail, listed_cases}
use Rattle.roc_base.specs.declared.id.TxnId.{TxnId}
use Rattle.roc_base.specs.TxnId.{is_txn, txn_cmp, txn_lt}
use Rattle.roc_base.specs.Equalities.{is_txn-same, is_txn-true}
use Rattle.roc_base.proofs.Ids.{is_lt-txn_cmp, txn_lt-asym, txn_lt-itself}
use Rattle.roc_depgraph.specs.Closure.{IsRisingListOf}

pub below : (x u : TxnId) (xs : List TxnId) → AllByRecursion (λ y. txn_cmp x y ≡ Less) xs → IsListed is_txn xs u → txn_lt x u ≡ true
below x u [] h l = absurd (omega arith)
below x u (y ∷ xs) h l =
    elim (listed_cases is_txn y xs u l) [
      | inl e ↦ subst (λ v. txn_lt x v ≡ true) (sym (is_txn-true u y e)) (sym (is_lt-txn_cmp x y) ∙ ap is_lt h.0)
      | inr k ↦ below x u xs h.1 k.1
    ]

pub none_listed : (u : TxnId) → ¬ IsListed is_txn [] u
none_listed u l = omega arith

same_members : (xs ys : List TxnId) → IsStrictlySortedBy txn_cmp xs → IsStrictlySortedBy txn_cmp ys → ((u : TxnId) → IsListed is_txn xs u → IsListed is_txn ys u) → ((u : TxnId) → IsListed is_txn ys u → IsListed is_txn xs u) → xs ≡ ys
unfolding IsStrictlySortedBy
same_members [] [] r q f g = refl
same_members [] (y ∷ ys) r q f g = absurd (none_listed y (g y (listed_head is_txn y ys (is_txn-same y))))
same_members (x ∷ xs) [] r q f g = absurd (none_listed x (f x (listed_head is_txn x xs (is_txn-same x))))
same_members (x ∷ xs) (y ∷ ys) r q f g =
    let same : x ≡ y = elim (listed_cases is_txn y ys x (f x (listed_head is_txn x xs (is_txn-same x)))) [
      | inl e ↦ is_txn-true x y e
      | inr k ↦ elim (listed_cases is_txn x xs y (g y (listed_head is_txn y ys (is_txn-same y)))) [
        | inl e ↦ sym (is_txn-true y x e)
        | inr m ↦ absurd (false≢true (sym (txn_lt-asym x y (below x y xs r.0 m.1)) ∙ below y x ys q.0 k.1))
      ]
    ] in
    let tails : xs ≡ ys = same_members xs ys r.1 q.1 (λ u l. elim (listed_cases is_txn y ys u (f u (listed_tail is_txn x xs u l))) [
      | inl e ↦ absurd (apart x u xs r.0 l (is_txn-true u y e ∙ sym same))
      | inr k ↦ k.1
    ]) (λ u l. elim (listed_cases is_txn x xs u (g u (listed_tail is_txn y ys u l))) [
      | inl e ↦ absurd (apart y u ys q.0 l (is_txn-true u x e ∙ same))
      | inr k ↦ k.1
    ]) in
    λ i. same i ∷ tails i
  where
    apart : (x u : TxnId) (xs : List TxnId) → AllByRecursion (λ y. txn_cmp x y ≡ Less) xs → IsListed is_txn xs u → u ≡ x → ⊥
    apart x u xs h l e = false≢true (sym (txn_lt-itself x) ∙ subst (λ v. txn_lt x v ≡ true) e (below x u xs h l))

pub rising_one : (P : TxnId → Type 0) (xs ys : List TxnId) → IsRisingListOf P xs → IsRisingListOf P ys → xs ≡ ys
rising_one P xs ys p q = same_members xs ys p.rising q.rising (λ u l. q.complete u (p.sound u l)) (λ u l. p.complete u (q.sound u l))
