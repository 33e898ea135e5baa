-- What a woven list holds, and where
use Rattle.std.proofs.Common.{◌≡◌, ℕ, zero, suc, ◌≤◌, ◌-◌, nat_lt, Bool, true, false, not, cond, List, [], ◌∷◌, ◌++◌, take, refl, sym, ap, subst, ◌∙◌, arith, inl, inr}
use Rattle.std.proofs.lemmas.Bool.{ltb-true, ltb-false, leb-true, cond-true, cond-false}
use Rattle.std.specs.List.{filter}
use Rattle.roc_sequence.specs.Lists.{Has}
use Rattle.roc_sequence.specs.Rising.{IsRising}
use Rattle.roc_sequence.specs.Places.{NoneTwice}
use Rattle.roc_sequence.proofs.Holds.{all_has}
use Rattle.roc_sequence.proofs.Filtered.{listed_filter}
use Rattle.roc_base.specs.declared.id.TxnId.{TxnId}
use Rattle.roc_base.specs.TxnId.{is_txn}
use Rattle.roc_base.specs.Equalities.{is_txn-true}
use Rattle.roc_audit.specs.Woven.{Look, look_ids, woven, is_no_later}

module _ (is_view : TxnId → Bool) where
  abbrev pub is_other : TxnId → Bool
  is_other t = not (is_view t)

  abbrev pub AllTxns : List TxnId → Type 0
  AllTxns O = (t : TxnId) → Has t O → is_view t ≡ false

  abbrev pub AllViews : List Look → Type 0
  AllViews L = (l : Look) → Has l L → is_view l.id ≡ true

  filter_yes : (p : TxnId → Bool) (x : TxnId) (xs : List TxnId) → p x ≡ true → filter p (x ∷ xs) ≡ x ∷ filter p xs
  filter_yes p x xs e = cond-true (p x) (x ∷ filter p xs) (filter p xs) e

  filter_no : (p : TxnId → Bool) (x : TxnId) (xs : List TxnId) → p x ≡ false → filter p (x ∷ xs) ≡ filter p xs
  filter_no p x xs e = cond-false (p x) (x ∷ filter p xs) (filter p xs) e

  all_txns : (O : List TxnId) → AllTxns O → (filter is_other O ≡ O) × (filter is_view O ≡ [])
  all_txns [] h = (refl, refl)
  all_txns (t ∷ O) h =
      let e = h t (inl refl) in
      let ih = all_txns O (λ u k. h u (inr k)) in
      (filter_yes is_other t O (ap not e) ∙ ap (λ xs. t ∷ xs) ih.0, filter_no is_view t O e ∙ ih.1)

  -- W has the transactions in their order, and the views in theirs
  abbrev pub HasBoth : List TxnId → List TxnId → List Look → Type 0
  HasBoth W O L = (filter is_other W ≡ O) × (filter is_view W ≡ look_ids L)

  pub kinds : (taken : ℕ) (O : List TxnId) (L : List Look) → AllTxns O → AllViews L → HasBoth (woven taken O L) O L
  kinds taken O [] h k = all_txns O h
  kinds taken [] (l ∷ L) h k =
      let e = k l (inl refl) in
      let ih = kinds taken [] L h (λ m j. k m (inr j)) in
      (filter_no is_other l.id (woven taken [] L) (ap not e) ∙ ih.0, filter_yes is_view l.id (woven taken [] L) e ∙ ap (λ xs. l.id ∷ xs) ih.1)
  kinds taken (t ∷ O) (l ∷ L) h k = go (nat_lt taken l.behind) (kinds (suc taken) O (l ∷ L) (λ u j. h u (inr j)) k) (kinds taken (t ∷ O) L h (λ m j. k m (inr j)))
    where
      go : (b : Bool) → HasBoth (woven (suc taken) O (l ∷ L)) O (l ∷ L) → HasBoth (woven taken (t ∷ O) L) (t ∷ O) L
          → HasBoth (cond b (t ∷ woven (suc taken) O (l ∷ L)) (l.id ∷ woven taken (t ∷ O) L)) (t ∷ O) (l ∷ L)
      go true ih _ =
          let e = h t (inl refl) in
          (filter_yes is_other t _ (ap not e) ∙ ap (λ xs. t ∷ xs) ih.0, filter_no is_view t _ e ∙ ih.1)
      go false _ ih =
          let e = k l (inl refl) in
          (filter_no is_other l.id _ (ap not e) ∙ ih.0, filter_yes is_view l.id _ e ∙ ap (λ xs. l.id ∷ xs) ih.1)

  -- a view, what stands before it and what behind
  pub record Split (W : List TxnId) (v : TxnId) (n : ℕ) (O : List TxnId) : Type 0 where
    pub front : List TxnId
    pub back : List TxnId
    pub is : W ≡ front ++ v ∷ back
    pub txns : filter is_other front ≡ take n O

  pub split : (taken : ℕ) (O : List TxnId) (L : List Look) → AllTxns O → AllViews L → IsRising is_no_later L → (l : Look) → Has l L → Split (woven taken O L) l.id (l.behind - taken) O
  split taken O [] h k r l j = absurd j
  split taken [] (x ∷ L) h k r l (inl e) = record { front = []; back = woven taken [] L; is = ap (λ (x : Look). x.id ∷ woven taken [] L) (sym e); txns = sym (take_none (l.behind - taken)) }
    where
      take_none : (n : ℕ) → ◌≡◌ {A = List TxnId} (take n []) []
      take_none zero = refl
      take_none (suc n) = refl
  split taken [] (x ∷ L) h k r l (inr j) =
      let s = split taken [] L h (λ m i. k m (inr i)) r.1 l j in
      record { front = x.id ∷ s.front; back = s.back; is = ap (λ xs. x.id ∷ xs) s.is; txns = filter_no is_other x.id s.front (ap not (k x (inl refl))) ∙ s.txns }
  split taken (t ∷ O) (x ∷ L) h k r l j = go (nat_lt taken x.behind) refl (split (suc taken) O (x ∷ L) (λ u i. h u (inr i)) k r l j) (λ i. split taken (t ∷ O) L h (λ m i. k m (inr i)) r.1 l i)
    where
      go : (b : Bool) → nat_lt taken x.behind ≡ b → Split (woven (suc taken) O (x ∷ L)) l.id (l.behind - suc taken) O
          → (Has l L → Split (woven taken (t ∷ O) L) l.id (l.behind - taken) (t ∷ O))
          → Split (cond b (t ∷ woven (suc taken) O (x ∷ L)) (x.id ∷ woven taken (t ∷ O) L)) l.id (l.behind - taken) (t ∷ O)
      go true e s _ =
          let le : x.behind ≤ l.behind = elim j [
            | inl z ↦ subst (λ (m : Look). m.behind ≤ l.behind) z (omega arith)
            | inr i ↦ leb-true x.behind l.behind (all_has (λ m. is_no_later x m ≡ true) l L r.0 i)
          ] in
          let lt = ltb-true taken x.behind e in
          let n : l.behind - taken ≡ suc (l.behind - suc taken) = omega arith in
          record {
            front = t ∷ s.front;
            back = s.back;
            is = ap (λ xs. t ∷ xs) s.is;
            txns = filter_yes is_other t s.front (ap not (h t (inl refl))) ∙ (ap (λ xs. t ∷ xs) s.txns ∙ sym (ap (λ n. take n (t ∷ O)) n));
          }
      go false e _ more = elim j [
        | inl z ↦
            (let ge : l.behind ≤ taken = subst (λ (m : Look). m.behind ≤ taken) (sym z) (ltb-false taken x.behind e) in
            let n : l.behind - taken ≡ 0 = omega arith in
            record { front = []; back = woven taken (t ∷ O) L; is = ap (λ (x : Look). x.id ∷ woven taken (t ∷ O) L) (sym z); txns = sym (ap (λ n. take n (t ∷ O)) n) })
        | inr i ↦
            (let s = more i in
            record { front = x.id ∷ s.front; back = s.back; is = ap (λ xs. x.id ∷ xs) s.is; txns = filter_no is_other x.id s.front (ap not (k x (inl refl))) ∙ s.txns })
      ]

  -- nothing stands twice
  pub once_by_kinds : (W : List TxnId) → NoneTwice is_txn (filter is_other W) → NoneTwice is_txn (filter is_view W) → NoneTwice is_txn W
  once_by_kinds [] a b = tt
  once_by_kinds (x ∷ W) a b = go (is_view x) refl (once_by_kinds W)
    where
      go : (c : Bool) → is_view x ≡ c → (NoneTwice is_txn (filter is_other W) → NoneTwice is_txn (filter is_view W) → NoneTwice is_txn W) → NoneTwice is_txn (x ∷ W)
      go true e ih =
          let p = subst (NoneTwice is_txn) (filter_yes is_view x W e) b in
          let q = subst (NoneTwice is_txn) (filter_no is_other x W (ap not e)) a in
          (λ h. p.0 (listed_filter is_txn is_txn-true is_view W x e h), ih q p.1)
      go false e ih =
          let p = subst (NoneTwice is_txn) (filter_yes is_other x W (ap not e)) a in
          let q = subst (NoneTwice is_txn) (filter_no is_view x W e) b in
          (λ h. p.0 (listed_filter is_txn is_txn-true is_other W x (ap not e) h), ih p.1 q)
