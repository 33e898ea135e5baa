-- Lists that rise by id: what is found at an id, and that what is found determines the list
use Rattle.std.proofs.Common.{◌≡◌, Bool, true, false, cond, List, [], ◌∷◌, Some, None, IsTrue, refl, sym, ap, subst, ◌∙◌, inl, inr, ◌⊎◌, map}
use Rattle.std.specs.List.{AllByRecursion}
use Rattle.std.specs.List.Sorted.{IsStrictlySortedBy}
use Rattle.std.specs.declared.cmp.Ordering.TheVariants.{Less}
use Rattle.roc_base.specs.declared.id.TxnId.{TxnId}
use Rattle.roc_base.specs.TxnId.{is_txn, txn_cmp, txn_lt}
use Rattle.roc_base.proofs.Ids.{txn_lt-trans, txn_lt-ne, is_lt-txn_cmp, is_txn-swap, txn_cases}
use Rattle.roc_base.specs.Equalities.{is_txn-true, is_txn-same}
use Rattle.roc_base.specs.Edge.{Dependency}
use Rattle.roc_base.specs.Edges.{comes_before, entry_at, all_of, joined_with}
use Rattle.roc_sequence.specs.Rising.{IsRising}
use Rattle.roc_sequence.proofs.Rising.{less_from_test}

-- an id comes before those of all entries
abbrev pub IsBelowAll : TxnId → List Dependency → Type 0
IsBelowAll id es = AllByRecursion (λ e. IsTrue (txn_lt id e.from)) es

-- what comes before an id comes before all behind it
pub below-chain : (a id : TxnId) (es : List Dependency) → txn_lt a id ≡ true → IsBelowAll id es → IsBelowAll a es
below-chain a id [] h k = tt
below-chain a id (e ∷ es) h k = (txn_lt-trans a id e.from h k.0, below-chain a id es h k.1)

-- an id that comes before is not that of an entry
pub ne-below : (id : TxnId) (e : Dependency) → txn_lt id e.from ≡ true → is_txn e.from id ≡ false
ne-below id e h = is_txn-swap e.from id ∙ txn_lt-ne id e.from h

pub entry_at-first : (e : Dependency) (es : List Dependency) → entry_at e.from (e ∷ es) ≡ Some e
entry_at-first e es = ap (λ b. cond b (Some e) (entry_at e.from es)) (is_txn-same e.from)

pub entry_at-other : (id : TxnId) (e : Dependency) (es : List Dependency) → is_txn e.from id ≡ false → entry_at id (e ∷ es) ≡ entry_at id es
entry_at-other id e es h = ap (λ b. cond b (Some e) (entry_at id es)) h

pub entry_at-below : (id : TxnId) (es : List Dependency) → IsBelowAll id es → entry_at id es ≡ None
entry_at-below id [] h = refl
entry_at-below id (e ∷ es) h = entry_at-other id e es (ne-below id e h.0) ∙ entry_at-below id es h.1

pub all_of-other : (id : TxnId) (e : Dependency) (es : List Dependency) → is_txn e.from id ≡ false → all_of id (e ∷ es) ≡ all_of id es
all_of-other id e es h = ap (λ b. cond b (Some (joined_with e (all_of id es))) (all_of id es)) h

pub all_of-below : (id : TxnId) (es : List Dependency) → IsBelowAll id es → all_of id es ≡ None
all_of-below id [] h = refl
all_of-below id (e ∷ es) h = all_of-other id e es (ne-below id e h.0) ∙ all_of-below id es h.1

-- in a rising list one entry says all of its id
pub all_of-rising : (id : TxnId) (es : List Dependency) → IsRising comes_before es → all_of id es ≡ entry_at id es
all_of-rising id [] r = refl
all_of-rising id (e ∷ es) r = go (is_txn e.from id) refl (all_of-rising id es r.1)
  where
    go : (b : Bool) → is_txn e.from id ≡ b → all_of id es ≡ entry_at id es → cond b (Some (joined_with e (all_of id es))) (all_of id es) ≡ cond b (Some e) (entry_at id es)
    go true h ih =
        let below : IsBelowAll id es = subst (λ a. IsBelowAll a es) (is_txn-true e.from id h) r.0 in
        ap (λ o. Some (joined_with e o)) (all_of-below id es below)
    go false h ih = ih

pub Some≢None : (d : Dependency) → Some d ≡ None → ⊥
Some≢None d h = cc

pub same_Some : (d e : Dependency) → Some d ≡ Some e → d ≡ e
same_Some d e h = cc

-- rising lists are one where the same is found at every id
pub same_rising : (xs ys : List Dependency) → IsRising comes_before xs → IsRising comes_before ys → ((id : TxnId) → entry_at id xs ≡ entry_at id ys) → xs ≡ ys
same_rising [] [] r s h = refl
same_rising [] (y ∷ ys) r s h = absurd (Some≢None y (sym (entry_at-first y ys) ∙ sym (h y.from)))
same_rising (x ∷ xs) [] r s h = absurd (Some≢None x (sym (entry_at-first x xs) ∙ h x.from))
same_rising (x ∷ xs) (y ∷ ys) r s h =
    first (same_rising xs ys r.1 s.1) (txn_cases x.from y.from)
  where
    tails : x.from ≡ y.from → (id : TxnId) → entry_at id xs ≡ entry_at id ys
    tails e id = go (is_txn x.from id) refl
      where
        go : (b : Bool) → is_txn x.from id ≡ b → entry_at id xs ≡ entry_at id ys
        go true t =
            let at : x.from ≡ id = is_txn-true x.from id t in
            entry_at-below id xs (subst (λ a. IsBelowAll a xs) at r.0) ∙ sym (entry_at-below id ys (subst (λ a. IsBelowAll a ys) (sym e ∙ at) s.0))
        go false f = sym (entry_at-other id x xs f) ∙ (h id ∙ entry_at-other id y ys (ap (λ a. is_txn a id) (sym e) ∙ f))

    first : (((id : TxnId) → entry_at id xs ≡ entry_at id ys) → xs ≡ ys) → (txn_lt x.from y.from ≡ true) ⊎ ((x.from ≡ y.from) ⊎ (txn_lt y.from x.from ≡ true)) → x ∷ xs ≡ y ∷ ys
    first rest (inl lt) = absurd (Some≢None x (sym (entry_at-first x xs) ∙ (h x.from ∙ entry_at-below x.from (y ∷ ys) (lt, below-chain x.from y.from ys lt s.0))))
    first rest (inr (inr gt)) = absurd (Some≢None y (sym (entry_at-first y ys) ∙ (sym (h y.from) ∙ entry_at-below y.from (x ∷ xs) (gt, below-chain y.from x.from xs gt r.0))))
    first rest (inr (inl e)) =
        let heads : x ≡ y = same_Some x y (sym (entry_at-first x xs) ∙ (h x.from ∙ (ap (λ a. entry_at a (y ∷ ys)) e ∙ entry_at-first y ys))) in
        ap (λ z. z ∷ xs) heads ∙ ap (λ zs. y ∷ zs) (rest (tails e))

-- ---- the ids of rising entries

pub all_below : (id : TxnId) (ds : List Dependency) → AllByRecursion (λ d. IsTrue (txn_lt id d.from)) ds → AllByRecursion (λ u. txn_cmp id u ≡ Less) (map (λ d. d.from) ds)
all_below id [] h = tt
all_below id (d ∷ ds) h = (less_from_test (txn_cmp id d.from) (is_lt-txn_cmp id d.from ∙ h.0), all_below id ds h.1)

pub sorted_from_rising : (ds : List Dependency) → IsRising comes_before ds → IsStrictlySortedBy txn_cmp (map (λ d. d.from) ds)
unfolding IsStrictlySortedBy
sorted_from_rising [] r = tt
sorted_from_rising (d ∷ ds) r = (all_below d.from ds r.0, sorted_from_rising ds r.1)
