-- What the lists of a set say of chains, once what leads out of it is left out
use Rattle.std.proofs.Common.{◌≡◌, ℕ, zero, suc, ◌+◌, ◌<◌, ◌&&◌, ◌++◌, Bool, true, false, cond, List, [], ◌∷◌, filter, take, get_or, length, Option, Some, None, unwrap_or, refl, sym, ◌∙◌, ap, subst, inl, inr, arith}
use Rattle.std.proofs.lemmas.Bool.{false≢true, cond-false, and_parts}
use Rattle.std.proofs.lemmas.List.{take_more}
use Rattle.std.specs.List.{list_any, AllByRecursion}
use Rattle.std.specs.List.Sorted.{IsStrictlySortedBy}
use Rattle.std.specs.Ordering.{is_lt}
use Rattle.std.specs.declared.cmp.Ordering.TheVariants.{Less}
use Rattle.std.proofs.lemmas.Map.Keys.{sorted_head, sorted_tail}
use Rattle.roc_sequence.specs.Lists.{Has}
use Rattle.roc_sequence.specs.Places.{IsListed, NoneTwice, is_listed}
use Rattle.roc_sequence.proofs.Holds.{any_has, has_any}
use Rattle.roc_sequence.proofs.Members.{has_filter, from_has_filter}
use Rattle.roc_sequence.proofs.Places.{listed_true, listed_test, listed_or_not, listed_head, listed_tail, listed_cases}
use Rattle.roc_base.specs.declared.id.TxnId.{TxnId}
use Rattle.roc_base.specs.TxnId.{is_txn, txn_cmp, txn_lt}
use Rattle.roc_base.proofs.Ids.{is_txn-ne, is_lt-txn_cmp, txn_lt-itself}
use Rattle.roc_base.specs.Equalities.{is_txn-true, is_txn-same}
use Rattle.roc_base.specs.Edge.{Dependency}
use Rattle.roc_base.specs.Edges.{united, comes_before}
use Rattle.roc_sequence.specs.Rising.{IsRising}
use Rattle.roc_base.proofs.Rising.{IsBelowAll}
use Rattle.roc_base.proofs.Union.{united-rising}
use Rattle.roc_depgraph.specs.declared.known.KnownList.{KnownList}
use Rattle.roc_depgraph.specs.declared.learnt.Learnt.{Learnt}
use Rattle.roc_depgraph.specs.declared.learnt.Learnt.TheVariants.{New, Repeat, Differs}
use Rattle.roc_depgraph.specs.Closure.{IsRisingListOf}
use Rattle.roc_depgraph.specs.Deps.{list_of, entries_of, Precedes, PrecedesNow, learnt}
use Rattle.roc_depgraph.specs.Learnt.{Learns}
use Rattle.roc_component.specs.Components.{among}
use Rattle.roc_component.specs.Inner.Within.{within}

-- a rising list stays one where entries are left out
below_filter : (p : Dependency → Bool) (id : TxnId) (es : List Dependency) → IsBelowAll id es → IsBelowAll id (filter p es)
below_filter p id [] h = tt
below_filter p id (e ∷ es) h = elim (p e) as (λ b. IsBelowAll id (cond b (e ∷ filter p es) (filter p es))) [ true ↦ (h.0, below_filter p id es h.1) | false ↦ below_filter p id es h.1 ]

rising_filter : (p : Dependency → Bool) (es : List Dependency) → IsRising comes_before es → IsRising comes_before (filter p es)
rising_filter p [] h = tt
rising_filter p (e ∷ es) h = elim (p e) as (λ b. IsRising comes_before (cond b (e ∷ filter p es) (filter p es))) [ true ↦ (below_filter p e.from es h.0, rising_filter p es h.1) | false ↦ rising_filter p es h.1 ]

pub united_within : (p : Dependency → Bool) (es among edges : List Dependency) → IsRising comes_before es → among ≡ filter p es → edges ≡ united ([] ++ among) → edges ≡ filter p es
united_within p es among edges r e f = f ∙ (ap united e ∙ united-rising (filter p es) (rising_filter p es r))

-- in a list that rises strictly no id stands twice
pub not_behind : (x : TxnId) (xs : List TxnId) → AllByRecursion (λ y. txn_cmp x y ≡ Less) xs → ¬ IsListed is_txn xs x
not_behind x [] h l = omega arith
not_behind x (y ∷ xs) h l =
    elim (listed_cases is_txn y xs x l) [
      | inl e ↦ false≢true (sym (txn_lt-itself x) ∙ subst (λ v. txn_lt x v ≡ true) (sym (is_txn-true x y e)) (sym (is_lt-txn_cmp x y) ∙ ap is_lt h.0))
      | inr k ↦ not_behind x xs h.1 k.1
    ]

pub once_from_rising : (xs : List TxnId) → IsStrictlySortedBy txn_cmp xs → NoneTwice is_txn xs
once_from_rising [] h = tt
once_from_rising (x ∷ xs) h = (not_behind x xs (sorted_head txn_cmp x xs h), once_from_rising xs (sorted_tail txn_cmp x xs h))

-- what stands at a place is in the list
pub listed_at : (xs : List TxnId) (i : ℕ) (x none : TxnId) → i < length xs → x ≡ get_or xs i none → IsListed is_txn xs x
listed_at [] i x none h e = absurd (omega arith)
listed_at (y ∷ xs) zero x none h e = subst (λ v. IsListed is_txn (v ∷ xs) x) e (listed_head is_txn x xs (is_txn-same x))
listed_at (y ∷ xs) (suc i) x none h e = listed_tail is_txn y xs x (listed_at xs i x none (omega arith) e)

-- and is not among what is before it
pub new_at : (xs : List TxnId) (i : ℕ) (x none : TxnId) → NoneTwice is_txn xs → i < length xs → x ≡ get_or xs i none → ¬ IsListed is_txn (take i xs) x
new_at [] i x none n h e l = absurd (omega arith)
new_at (y ∷ xs) zero x none n h e l = omega arith
new_at (y ∷ xs) (suc i) x none n h e l =
    elim (listed_cases is_txn y (take i xs) x l) [
      | inl f ↦ n.0 (subst (IsListed is_txn xs) (is_txn-true x y f) (listed_at xs i x none (omega arith) e))
      | inr k ↦ new_at xs i x none n.1 (omega arith) e k.1
    ]

module _ (known : List KnownList) (M : List TxnId) where
  abbrev kept : TxnId → List Dependency
  kept t = filter (λ d. is_listed is_txn M d.from) (entries_of known t)

  list_of-listed : (ids : List TxnId) (t : TxnId) → IsListed is_txn ids t → list_of t (within known M ids) ≡ Some (kept t)
  list_of-listed [] t h = absurd (omega arith)
  list_of-listed (x ∷ ids) t h = go (is_txn x t) refl (list_of-listed ids t)
    where
      go : (b : Bool) → is_txn x t ≡ b → (IsListed is_txn ids t → list_of t (within known M ids) ≡ Some (kept t)) → cond b (Some (kept x)) (list_of t (within known M ids)) ≡ Some (kept t)
      go true e ih = ap (λ v. Some (kept v)) (is_txn-true x t e)
      go false e ih =
          ih (elim (listed_cases is_txn x ids t h) [
            | inl f ↦ absurd (false≢true (sym e ∙ subst (λ v. is_txn v t ≡ true) (is_txn-true t x f) (is_txn-same t)))
            | inr k ↦ k.1
          ])

  list_of-unlisted : (ids : List TxnId) (t : TxnId) → ¬ IsListed is_txn ids t → list_of t (within known M ids) ≡ None
  list_of-unlisted [] t n = refl
  list_of-unlisted (x ∷ ids) t n =
      cond-false (is_txn x t) (Some (kept x)) (list_of t (within known M ids)) (is_txn-ne x t (λ e. n (subst (λ v. IsListed is_txn (v ∷ ids) t) (sym e) (listed_head is_txn t ids (is_txn-same t)))))
      ∙ list_of-unlisted ids t (λ h. n (listed_tail is_txn x ids t h))

  within-append : (xs ys : List TxnId) → within known M (xs ++ ys) ≡ within known M xs ++ within known M ys
  within-append [] ys = refl
  within-append (x ∷ xs) ys = ap (λ l. record { of = x; edges = kept x } ∷ l) (within-append xs ys)

  -- one more list is taught
  pub learns_within : (ids : List TxnId) (i : ℕ) (id none : TxnId) (lists more : List KnownList) (answer : Learnt) (edges : List Dependency) → NoneTwice is_txn ids → i < length ids → id ≡ get_or ids i none → lists ≡ within known M (take i ids) → edges ≡ kept id → Learns id edges lists answer more → more ≡ within known M (take (i + 1) ids)
  learns_within ids i id none lists more answer edges n h e l k a = go answer a
    where
      unknown : list_of id lists ≡ None
      unknown = ap (list_of id) l ∙ list_of-unlisted (take i ids) id (new_at ids i id none n h e)

      go : (answer : Learnt) → Learns id edges lists answer more → more ≡ within known M (take (i + 1) ids)
      go New a =
          a.1
          ∙ (ap (λ v. learnt v id edges) l
          ∙ (ap (λ es. learnt (within known M (take i ids)) id es) k
          ∙ sym (ap (within known M) (take_more ids i none h ∙ ap (λ x. take i ids ++ x ∷ []) (sym e)) ∙ within-append (take i ids) (id ∷ []))))
      go Repeat a = absurd (let f : Some edges ≡ None = sym a.0 ∙ unknown in cc)
      go Differs a = absurd (let f : Some a.0.0 ≡ None = sym a.0.1 ∙ unknown in cc)

  -- what is left of a list, by its entries
  kept_any : (p : Dependency → Bool) (t : TxnId) → list_any p (kept t) ≡ true → (d : Dependency) × Has d (entries_of known t) × (is_listed is_txn M d.from ≡ true) × (p d ≡ true)
  kept_any p t h =
      let r = any_has p (kept t) h in
      let f = from_has_filter (λ d. is_listed is_txn M d.from) r.0 (entries_of known t) r.1 in
      (r.0, f.0, f.1, r.2)

  any_kept : (p : Dependency → Bool) (t : TxnId) (d : Dependency) → Has d (entries_of known t) → is_listed is_txn M d.from ≡ true → p d ≡ true → list_any p (kept t) ≡ true
  any_kept p t d h k e = has_any p (kept t) d (has_filter (λ d. is_listed is_txn M d.from) d (entries_of known t) h k) e

-- S are the members of M
module _ (known : List KnownList) (M S : List TxnId) (all : IsRisingListOf (IsListed is_txn M) S) where
  abbrev L : List KnownList
  L = within known S S

  abbrev A : TxnId → TxnId → Type 0
  A = among M (Precedes known)

  -- an entry of the lists that are left is one among the members
  from_entry : (p : Dependency → Bool) (u t : TxnId) → ((d : Dependency) → p d ≡ true → d.from ≡ u) → list_any p (entries_of L t) ≡ true → IsListed is_txn M u × IsListed is_txn M t × (list_any p (entries_of known t) ≡ true)
  from_entry p u t key h =
      elim (listed_or_not is_txn S t) [
        | inr n ↦ absurd (false≢true (subst (λ (o : Option (List Dependency)). list_any p (unwrap_or o []) ≡ true) (list_of-unlisted known S S t n) h))
        | inl l ↦
            (let r = kept_any known S p t (subst (λ (o : Option (List Dependency)). list_any p (unwrap_or o []) ≡ true) (list_of-listed known S S t l) h) in
            (all.sound u (subst (IsListed is_txn S) (key r.0 r.3) (listed_true is_txn S r.0.from r.2)), all.sound t l, has_any p (entries_of known t) r.0 r.1 r.3))
      ]

  to_entry : (p : Dependency → Bool) (u t : TxnId) → ((d : Dependency) → p d ≡ true → d.from ≡ u) → IsListed is_txn M u → IsListed is_txn M t → list_any p (entries_of known t) ≡ true → list_any p (entries_of L t) ≡ true
  to_entry p u t key hu ht h =
      let r = any_has p (entries_of known t) h in
      subst (λ (o : Option (List Dependency)). list_any p (unwrap_or o []) ≡ true) (sym (list_of-listed known S S t (all.complete t ht)))
      (any_kept known S p t r.0 r.1 (subst (λ v. is_listed is_txn S v ≡ true) (sym (key r.0 r.2)) (listed_test is_txn S u (all.complete u hu))) r.2)

  now_key : (u : TxnId) (d : Dependency) → (is_txn d.from u && d.imm) ≡ true → d.from ≡ u
  now_key u d h = is_txn-true d.from u (and_parts (is_txn d.from u) d.imm h).0

  pub among_from : (u t : TxnId) → Precedes L u t → A u t
  among_from u t = from_entry (λ d. is_txn d.from u) u t (λ d. is_txn-true d.from u)

  pub among_to : (u t : TxnId) → A u t → Precedes L u t
  among_to u t e = to_entry (λ d. is_txn d.from u) u t (λ d. is_txn-true d.from u) e.0 e.1 e.2

  pub among_now_from : (u t : TxnId) → PrecedesNow L u t → among M (PrecedesNow known) u t
  among_now_from u t = from_entry (λ d. is_txn d.from u && d.imm) u t (now_key u)

  pub among_now_to : (u t : TxnId) → among M (PrecedesNow known) u t → PrecedesNow L u t
  among_now_to u t e = to_entry (λ d. is_txn d.from u && d.imm) u t (now_key u) e.0 e.1 e.2
