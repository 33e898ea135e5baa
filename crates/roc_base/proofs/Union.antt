-- The union by id: it rises, it has at each id what all entries say, and it depends on that alone
use Rattle.std.proofs.Common.{◌≡◌, ◌≤◌, suc, Bool, true, false, cond, ◌||◌, List, [], ◌∷◌, filter, length, Some, refl, sym, ap, subst, ◌∙◌, arith}
use Rattle.std.proofs.lemmas.Bool.{false≢true, true≢false}
use Rattle.std.specs.List.{AllByRecursion}
use Rattle.roc_base.specs.declared.id.TxnId.{TxnId}
use Rattle.roc_base.specs.TxnId.{is_txn, txn_lt}
use Rattle.roc_base.proofs.Ids.{is_txn-eq, txn_lt-other}
use Rattle.roc_base.specs.Equalities.{is_txn-true}
use Rattle.roc_base.specs.Edge.{Dependency, HasTag, joined}
use Rattle.roc_base.specs.Edges.{comes_before, IsEdgeList, entry_at, all_of, joined_with, unite_one, united}
use Rattle.roc_base.proofs.Rising.{below-chain, entry_at-below, all_of-rising, same_rising, IsBelowAll}
use Rattle.roc_sequence.specs.Rising.{IsRising}
use Rattle.roc_sequence.proofs.Holds.{all_has, has_all}
use Rattle.roc_sequence.proofs.Members.{from_has_filter}
use Rattle.roc_sequence.proofs.Rising.{rising_filter}

-- what holds of an entry and of a list, and of what is joined, holds of the list with that entry
pub AllByRecursion-unite_one : (Q : Dependency → Type 0) → ((a b : Dependency) → a.from ≡ b.from → Q a → Q b → Q (joined a b)) → (e : Dependency) (xs : List Dependency) → Q e → AllByRecursion Q xs → AllByRecursion Q (unite_one e xs)
AllByRecursion-unite_one Q joins e [] q h = (q, tt)
AllByRecursion-unite_one Q joins e (x ∷ xs) q h = go (is_txn e.from x.from) (txn_lt e.from x.from) refl (AllByRecursion-unite_one Q joins e xs q h.1)
  where
    go : (s t : Bool) → is_txn e.from x.from ≡ s → AllByRecursion Q (unite_one e xs) → AllByRecursion Q (cond s (joined e x ∷ xs) (cond t (e ∷ x ∷ xs) (x ∷ unite_one e xs)))
    go true t f ih = (joins e x (is_txn-true e.from x.from f) q h.0, h.1)
    go false true f ih = (q, h)
    go false false f ih = (h.0, ih)

pub AllByRecursion-united : (Q : Dependency → Type 0) → ((a b : Dependency) → a.from ≡ b.from → Q a → Q b → Q (joined a b)) → (es : List Dependency) → AllByRecursion Q es → AllByRecursion Q (united es)
AllByRecursion-united Q joins [] h = tt
AllByRecursion-united Q joins (e ∷ es) h = AllByRecursion-unite_one Q joins e (united es) h.0 (AllByRecursion-united Q joins es h.1)

joined-tagged : (a b : Dependency) → a.from ≡ b.from → HasTag a → HasTag b → HasTag (joined a b)
joined-tagged a b e h k = go a.imm b.imm a.def b.def h
  where
    go : (i j c d : Bool) → (i || c) ≡ true → ((i || j) || (c || d)) ≡ true
    go true j c d h = refl
    go false true c d h = refl
    go false false true d h = refl
    go false false false d h = absurd (false≢true h)

-- the union rises
IsRising-unite_one : (e : Dependency) (xs : List Dependency) → IsRising comes_before xs → IsRising comes_before (unite_one e xs)
IsRising-unite_one e [] r = (tt, tt)
IsRising-unite_one e (x ∷ xs) r = go (is_txn e.from x.from) (txn_lt e.from x.from) refl refl (IsRising-unite_one e xs r.1)
  where
    go : (s t : Bool) → is_txn e.from x.from ≡ s → txn_lt e.from x.from ≡ t → IsRising comes_before (unite_one e xs) → IsRising comes_before (cond s (joined e x ∷ xs) (cond t (e ∷ x ∷ xs) (x ∷ unite_one e xs)))
    go true t f g ih = (subst (λ a. IsBelowAll a xs) (sym (is_txn-true e.from x.from f)) r.0, r.1)
    go false true f g ih = ((g, below-chain e.from x.from xs g r.0), r)
    go false false f g ih = (AllByRecursion-unite_one (λ z. txn_lt x.from z.from ≡ true) (λ a b p h k. h) e xs (txn_lt-other e.from x.from f g) r.0, ih)

pub IsRising-united : (es : List Dependency) → IsRising comes_before (united es)
IsRising-united [] = tt
IsRising-united (e ∷ es) = IsRising-unite_one e (united es) (IsRising-united es)

pub IsEdgeList-unite_one : (e : Dependency) (xs : List Dependency) → HasTag e → IsEdgeList xs → IsEdgeList (unite_one e xs)
IsEdgeList-unite_one e xs h l = record { rising = IsRising-unite_one e xs l.rising; tagged = AllByRecursion-unite_one HasTag joined-tagged e xs h l.tagged }

pub IsEdgeList-united : (es : List Dependency) → AllByRecursion HasTag es → IsEdgeList (united es)
IsEdgeList-united es h = record { rising = IsRising-united es; tagged = AllByRecursion-united HasTag joined-tagged es h }

-- some of a list of entries are one
pub IsEdgeList-filter : (p : Dependency → Bool) (es : List Dependency) → IsEdgeList es → IsEdgeList (filter p es)
IsEdgeList-filter p es l = record {
  rising = rising_filter comes_before p es l.rising;
  tagged = has_all HasTag (filter p es) (λ a h. all_has HasTag a es l.tagged (from_has_filter p a es h).0);
}

-- what is found at an id once an entry is added
pub entry_at-unite_one : (id : TxnId) (e : Dependency) (xs : List Dependency) → IsRising comes_before xs → entry_at id (unite_one e xs) ≡ cond (is_txn e.from id) (Some (joined_with e (entry_at id xs))) (entry_at id xs)
entry_at-unite_one id e [] r = refl
entry_at-unite_one id e (x ∷ xs) r = go (is_txn e.from x.from) (txn_lt e.from x.from) refl refl (entry_at-unite_one id e xs r.1)
  where
    same : (s t : Bool) → s ≡ t → cond s (Some (joined e x)) (entry_at id xs) ≡ cond s (Some (joined_with e (cond t (Some x) (entry_at id xs)))) (cond t (Some x) (entry_at id xs))
    same true true h = refl
    same true false h = absurd (true≢false h)
    same false true h = absurd (false≢true h)
    same false false h = refl

    before : txn_lt e.from x.from ≡ true → (s : Bool) → is_txn e.from id ≡ s → cond s (Some e) (entry_at id (x ∷ xs)) ≡ cond s (Some (joined_with e (entry_at id (x ∷ xs)))) (entry_at id (x ∷ xs))
    before g true k =
        let below : IsBelowAll e.from (x ∷ xs) = (g, below-chain e.from x.from xs g r.0) in
        ap (λ o. Some (joined_with e o)) (sym (entry_at-below id (x ∷ xs) (subst (λ a. IsBelowAll a (x ∷ xs)) (is_txn-true e.from id k) below)))
    before g false k = refl

    behind : is_txn e.from x.from ≡ false → (s t : Bool) → is_txn x.from id ≡ s → is_txn e.from id ≡ t → entry_at id (unite_one e xs) ≡ cond t (Some (joined_with e (entry_at id xs))) (entry_at id xs) → cond s (Some x) (entry_at id (unite_one e xs)) ≡ cond t (Some (joined_with e (cond s (Some x) (entry_at id xs)))) (cond s (Some x) (entry_at id xs))
    behind f true true k l ih = absurd (false≢true (sym f ∙ is_txn-eq e.from x.from (is_txn-true e.from id l ∙ sym (is_txn-true x.from id k))))
    behind f true false k l ih = refl
    behind f false t k l ih = ih

    go : (s t : Bool) → is_txn e.from x.from ≡ s → txn_lt e.from x.from ≡ t → entry_at id (unite_one e xs) ≡ cond (is_txn e.from id) (Some (joined_with e (entry_at id xs))) (entry_at id xs) → entry_at id (cond s (joined e x ∷ xs) (cond t (e ∷ x ∷ xs) (x ∷ unite_one e xs))) ≡ cond (is_txn e.from id) (Some (joined_with e (entry_at id (x ∷ xs)))) (entry_at id (x ∷ xs))
    go true t f g ih = same (is_txn e.from id) (is_txn x.from id) (ap (λ a. is_txn a id) (is_txn-true e.from x.from f))
    go false true f g ih = before g (is_txn e.from id) refl
    go false false f g ih = behind f (is_txn x.from id) (is_txn e.from id) refl refl ih

-- the union has at each id what all entries of that id say
pub entry_at-united : (id : TxnId) (es : List Dependency) → entry_at id (united es) ≡ all_of id es
entry_at-united id [] = refl
entry_at-united id (e ∷ es) =
    entry_at-unite_one id e (united es) (IsRising-united es)
    ∙ ap (λ o. cond (is_txn e.from id) (Some (joined_with e o)) o) (entry_at-united id es)

-- a rising list that has at each id what the entries say is their union
pub same_united : (ys es : List Dependency) → IsRising comes_before ys → ((id : TxnId) → entry_at id ys ≡ all_of id es) → ys ≡ united es
same_united ys es r h = same_rising ys (united es) r (IsRising-united es) (λ id. h id ∙ sym (entry_at-united id es))

-- entries that say the same at each id have one union
pub united-same : (xs ys : List Dependency) → ((id : TxnId) → all_of id xs ≡ all_of id ys) → united xs ≡ united ys
united-same xs ys h = same_united (united xs) ys (IsRising-united xs) (λ id. entry_at-united id xs ∙ h id)

-- a rising list is its own union
pub united-rising : (es : List Dependency) → IsRising comes_before es → united es ≡ es
united-rising es r = sym (same_united es es r (λ id. sym (all_of-rising id es r)))

pub all_of-united : (id : TxnId) (es : List Dependency) → all_of id (united es) ≡ all_of id es
all_of-united id es = all_of-rising id (united es) (IsRising-united es) ∙ entry_at-united id es

pub length-unite_one : (e : Dependency) (xs : List Dependency) → length (unite_one e xs) ≤ suc (length xs)
length-unite_one e [] = omega arith
length-unite_one e (x ∷ xs) = go (is_txn e.from x.from) (txn_lt e.from x.from) (length-unite_one e xs)
  where
    go : (s t : Bool) → length (unite_one e xs) ≤ suc (length xs) → length (cond s (joined e x ∷ xs) (cond t (e ∷ x ∷ xs) (x ∷ unite_one e xs))) ≤ suc (suc (length xs))
    go true t ih = omega arith
    go false true ih = omega arith
    go false false ih = omega arith
