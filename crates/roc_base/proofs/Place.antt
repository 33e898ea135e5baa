-- Where an id stands in a rising list, and what is written there
use Rattle.std.proofs.Common.{◌≡◌, ℕ, zero, suc, ◌<◌, ◌≤◌, ◌-◌, Bool, true, false, cond, List, [], ◌∷◌, length, get_or, not, set, Some, None, refl, sym, ap, subst, ◌∙◌, arith}
use Rattle.std.specs.Prelude.{insert}
use Rattle.std.specs.List.Sorted.{IsPartitionedBy, IsPartitionPoint}
use Rattle.roc_base.specs.declared.id.TxnId.{TxnId}
use Rattle.roc_base.specs.TxnId.{is_txn, txn_lt}
use Rattle.roc_base.proofs.Ids.{is_txn-swap, txn_lt-ne, txn_lt-asym, txn_lt-other, txn_lt-trans}
use Rattle.roc_base.specs.Edge.{Dependency, joined}
use Rattle.roc_base.specs.Edges.{comes_before, entry_at, unite_one}
use Rattle.roc_base.specs.Inner.Place.{entry_place, IsAt, IsGapFor}
use Rattle.roc_base.proofs.Rising.{Some≢None, same_Some, below-chain, entry_at-below, entry_at-other, entry_at-first, IsBelowAll}
use Rattle.roc_sequence.specs.Rising.{IsRising}

unite_one-behind : (e x : Dependency) (xs : List Dependency) → is_txn e.from x.from ≡ false → txn_lt e.from x.from ≡ false → unite_one e (x ∷ xs) ≡ x ∷ unite_one e xs
unite_one-behind e x xs f g =
    ap (λ s. cond s (joined e x ∷ xs) (cond (txn_lt e.from x.from) (e ∷ x ∷ xs) (x ∷ unite_one e xs))) f
    ∙ ap (λ t. cond t (e ∷ x ∷ xs) (x ∷ unite_one e xs)) g

unite_one-before : (e x : Dependency) (xs : List Dependency) → txn_lt e.from x.from ≡ true → unite_one e (x ∷ xs) ≡ e ∷ x ∷ xs
unite_one-before e x xs g =
    ap (λ s. cond s (joined e x ∷ xs) (cond (txn_lt e.from x.from) (e ∷ x ∷ xs) (x ∷ unite_one e xs))) (txn_lt-ne e.from x.from g)
    ∙ ap (λ t. cond t (e ∷ x ∷ xs) (x ∷ unite_one e xs)) g

unite_one-same : (e x : Dependency) (xs : List Dependency) → is_txn e.from x.from ≡ true → unite_one e (x ∷ xs) ≡ joined e x ∷ xs
unite_one-same e x xs f = ap (λ s. cond s (joined e x ∷ xs) (cond (txn_lt e.from x.from) (e ∷ x ∷ xs) (x ∷ unite_one e xs))) f

-- a new id goes where it stands
pub insert-place : (e : Dependency) (es : List Dependency) → entry_at e.from es ≡ None → insert es (entry_place e.from es) e ≡ unite_one e es
insert-place e [] h = refl
insert-place e (x ∷ xs) h = go (txn_lt x.from e.from) (is_txn x.from e.from) refl refl (insert-place e xs)
  where
    go : (s t : Bool) → txn_lt x.from e.from ≡ s → is_txn x.from e.from ≡ t → (entry_at e.from xs ≡ None → insert xs (entry_place e.from xs) e ≡ unite_one e xs) → insert (x ∷ xs) (cond (not s) 0 (suc (entry_place e.from xs))) e ≡ unite_one e (x ∷ xs)
    go true t f g ih =
        ap (λ ys. x ∷ ys) (ih (sym (entry_at-other e.from x xs (txn_lt-ne x.from e.from f)) ∙ h))
        ∙ sym (unite_one-behind e x xs (is_txn-swap e.from x.from ∙ txn_lt-ne x.from e.from f) (txn_lt-asym x.from e.from f))
    go false true f g ih = absurd (Some≢None x (sym (ap (λ b. cond b (Some x) (entry_at e.from xs)) g) ∙ h))
    go false false f g ih = sym (unite_one-before e x xs (txn_lt-other x.from e.from g f))

-- a known id is joined where it stands
pub set-place : (e x : Dependency) (es : List Dependency) → IsRising comes_before es → entry_at e.from es ≡ Some x → set es (entry_place e.from es) (joined e x) ≡ unite_one e es
set-place e x [] r h = absurd (Some≢None x (sym h))
set-place e x (y ∷ ys) r h = go (txn_lt y.from e.from) (is_txn y.from e.from) refl refl (set-place e x ys r.1)
  where
    go : (s t : Bool) → txn_lt y.from e.from ≡ s → is_txn y.from e.from ≡ t → (entry_at e.from ys ≡ Some x → set ys (entry_place e.from ys) (joined e x) ≡ unite_one e ys) → set (y ∷ ys) (cond (not s) 0 (suc (entry_place e.from ys))) (joined e x) ≡ unite_one e (y ∷ ys)
    go true t f g ih =
        ap (λ zs. y ∷ zs) (ih (sym (entry_at-other e.from y ys (txn_lt-ne y.from e.from f)) ∙ h))
        ∙ sym (unite_one-behind e y ys (is_txn-swap e.from y.from ∙ txn_lt-ne y.from e.from f) (txn_lt-asym y.from e.from f))
    go false true f g ih =
        let same : y ≡ x = same_Some y x (sym (ap (λ b. cond b (Some y) (entry_at e.from ys)) g) ∙ h) in
        ap (λ z. joined e z ∷ ys) (sym same)
        ∙ sym (unite_one-same e y ys (is_txn-swap e.from y.from ∙ g))
    go false false f g ih =
        let before : txn_lt e.from y.from ≡ true = txn_lt-other y.from e.from g f in
        absurd (Some≢None x (sym h ∙ entry_at-below e.from (y ∷ ys) (before, below-chain e.from y.from ys before r.0)))

-- within a list the value for past its end does not matter
get_or-any : (es : List Dependency) (i : ℕ) (d x : Dependency) → i < length es → get_or es i d ≡ get_or es i x
get_or-any [] i d x h = absurd (omega arith)
get_or-any (e ∷ es) zero d x h = refl
get_or-any (e ∷ es) (suc i) d x h = get_or-any es i d x (omega arith)

-- what stands at the place of an id, where it is of that id, is what is found there
entry_at-place : (id : TxnId) (x : Dependency) (es : List Dependency) → entry_place id es < length es → x ≡ get_or es (entry_place id es) x → x.from ≡ id → entry_at id es ≡ Some x
entry_at-place id x [] h k l = absurd (omega arith)
entry_at-place id x (y ∷ ys) h k l = go (txn_lt y.from id) refl h k (entry_at-place id x ys)
  where
    go : (s : Bool) → txn_lt y.from id ≡ s → cond (not s) 0 (suc (entry_place id ys)) < suc (length ys) → x ≡ get_or (y ∷ ys) (cond (not s) 0 (suc (entry_place id ys))) x → (entry_place id ys < length ys → x ≡ get_or ys (entry_place id ys) x → x.from ≡ id → entry_at id ys ≡ Some x) → entry_at id (y ∷ ys) ≡ Some x
    go true f m n ih = entry_at-other id y ys (txn_lt-ne y.from id f) ∙ ih (omega arith) n l
    go false f m n ih = subst (λ z. entry_at id (z ∷ ys) ≡ Some x) n (subst (λ a. entry_at a (x ∷ ys) ≡ Some x) l (entry_at-first x ys))

pub IsAt-place : (id : TxnId) (x : Dependency) (es : List Dependency) (i : ℕ) → i ≡ entry_place id es → i < length es → x ≡ get_or es i x → x.from ≡ id → IsAt id es i
IsAt-place id x es i e h k l = record {
  place = e;
  within = h;
  entry = λ d. entry_at-place id x es (subst (λ j. j < length es) e h) (subst (λ j. x ≡ get_or es j x) e k) l ∙ ap (λ z. Some z) (k ∙ get_or-any es i x d h);
}

-- where another id stands at the place, or nothing, none is found
entry_at-gap : (id : TxnId) (es : List Dependency) → IsRising comes_before es → ((d : Dependency) → entry_place id es < length es → is_txn (get_or es (entry_place id es) d).from id ≡ false) → entry_at id es ≡ None
entry_at-gap id [] r h = refl
entry_at-gap id (y ∷ ys) r h = go (txn_lt y.from id) refl h (entry_at-gap id ys r.1)
  where
    go : (s : Bool) → txn_lt y.from id ≡ s → ((d : Dependency) → cond (not s) 0 (suc (entry_place id ys)) < suc (length ys) → is_txn (get_or (y ∷ ys) (cond (not s) 0 (suc (entry_place id ys))) d).from id ≡ false) → (((d : Dependency) → entry_place id ys < length ys → is_txn (get_or ys (entry_place id ys) d).from id ≡ false) → entry_at id ys ≡ None) → entry_at id (y ∷ ys) ≡ None
    go true f k ih = entry_at-other id y ys (txn_lt-ne y.from id f) ∙ ih (λ d l. k d (omega arith))
    go false f k ih =
        let before : txn_lt id y.from ≡ true = txn_lt-other y.from id (k y (omega arith)) f in
        entry_at-below id (y ∷ ys) (before, below-chain id y.from ys before r.0)

pub IsGapFor-place : (id : TxnId) (es : List Dependency) (i : ℕ) → IsRising comes_before es → i ≡ entry_place id es → i ≤ length es → ((d : Dependency) → i < length es → is_txn (get_or es i d).from id ≡ false) → IsGapFor id es i
IsGapFor-place id es i r e h k = record {
  place = e;
  within = h;
  absent = entry_at-gap id es r (subst (λ j. (d : Dependency) → j < length es → is_txn (get_or es j d).from id ≡ false) e k);
}

-- where an entry of another id stands at the place
pub IsGapFor-other : (id : TxnId) (x : Dependency) (es : List Dependency) (i : ℕ) → IsRising comes_before es → i ≡ entry_place id es → i < length es → x ≡ get_or es i x → is_txn x.from id ≡ false → IsGapFor id es i
IsGapFor-other id x es i r e h k l = IsGapFor-place id es i r e (omega arith) (λ d m. subst (λ z. is_txn z.from id ≡ false) (k ∙ get_or-any es i x d h) l)

-- where the place is past the end
pub IsGapFor-end : (id : TxnId) (es : List Dependency) (i : ℕ) → IsRising comes_before es → i ≡ entry_place id es → i ≤ length es → length es ≤ i → IsGapFor id es i
IsGapFor-end id es i r e h k = IsGapFor-place id es i r e h (λ d m. absurd (omega arith))

-- what is written at the place is the list with the entry
pub unite_one-at : (e x : Dependency) (es : List Dependency) (i : ℕ) (z : Dependency) → IsRising comes_before es → IsAt e.from es i → x ≡ get_or es i x → z ≡ joined e x → set es i z ≡ unite_one e es
unite_one-at e x es i z r p k l =
    ap (λ w. set es i w) l
    ∙ (ap (λ j. set es j (joined e x)) p.place
    ∙ set-place e x es r (p.entry x ∙ ap (λ w. Some w) (sym k)))

pub unite_one-gap : (e : Dependency) (es : List Dependency) (i : ℕ) → IsGapFor e.from es i → insert es i e ≡ unite_one e es
unite_one-gap e es i p = ap (λ j. insert es j e) p.place ∙ insert-place e es p.absent

below_at : (a : TxnId) (es : List Dependency) (j : ℕ) (d : Dependency) → IsBelowAll a es → j < length es → txn_lt a (get_or es j d).from ≡ true
below_at a [] j d h l = absurd (omega arith)
below_at a (e ∷ es) zero d h l = h.0
below_at a (e ∷ es) (suc j) d h l = below_at a es j d h.1 (omega arith)

-- in a rising list those before an id stand first
pub IsPartitionedBy-rising : (id : TxnId) (es : List Dependency) → IsRising comes_before es → IsPartitionedBy (λ e. txn_lt e.from id) es
IsPartitionedBy-rising id [] r i j d h l k = absurd (omega arith)
IsPartitionedBy-rising id (e ∷ es) r zero zero d h l k = k
IsPartitionedBy-rising id (e ∷ es) r zero (suc j) d h l k = txn_lt-trans e.from (get_or es j d).from id (below_at e.from es j d r.0 (omega arith)) k
IsPartitionedBy-rising id (e ∷ es) r (suc i) zero d h l k = absurd (omega arith)
IsPartitionedBy-rising id (e ∷ es) r (suc i) (suc j) d h l k = IsPartitionedBy-rising id es r.1 i j d (omega arith) (omega arith) k

-- where the entries before an id end is its place
pub entry_place-partition : (id : TxnId) (es : List Dependency) (i : ℕ) → i ≤ length es → IsPartitionPoint (λ e. txn_lt e.from id ≡ true) (λ e. txn_lt e.from id ≡ false) es i → i ≡ entry_place id es
entry_place-partition id [] i l h = omega arith
entry_place-partition id (e ∷ es) zero l h = sym (ap (λ s. cond (not s) 0 (suc (entry_place id es))) (h.1 0 e (omega arith) (omega arith)))
entry_place-partition id (e ∷ es) (suc i) l h =
    ap suc (entry_place-partition id es i (omega arith) (λ k d m n. h.0 (suc k) d (omega arith) (omega arith), λ k d m n. h.1 (suc k) d (omega arith) (omega arith)))
    ∙ sym (ap (λ s. cond (not s) 0 (suc (entry_place id es))) (h.0 0 e (omega arith) (omega arith)))

-- where the last entry comes before an id, all do
pub entry_place-end : (id : TxnId) (x : Dependency) (es : List Dependency) → IsRising comes_before es → 0 < length es → x ≡ get_or es (length es - 1) x → txn_lt x.from id ≡ true → length es ≡ entry_place id es
entry_place-end id x es r some is before =
    let last : (d : Dependency) → txn_lt (get_or es (length es - 1) d).from id ≡ true = λ d. subst (λ z. txn_lt z.from id ≡ true) (is ∙ get_or-any es (length es - 1) x d (omega arith)) before in
    entry_place-partition id es (length es) (omega arith)
    (λ k d m n. IsPartitionedBy-rising id es r k (length es - 1) d (omega arith) (omega arith) (last d), λ k d m n. absurd (omega arith))
