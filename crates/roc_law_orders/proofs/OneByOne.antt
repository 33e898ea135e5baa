-- Where the groups of transactions stand, one transaction after another
use Rattle.std.proofs.Common.{◌≡◌, ◌≢◌, ℕ, suc, Bool, true, false, cond, ◌&&◌, ◌==◌, List, [], ◌∷◌, length, refl, sym, ap, subst, ◌∙◌, arith, map, ◌⊎◌, inl, inr}
use Rattle.roc_sequence.specs.Places.{place_of, IsListed, IsListedBefore, NoneTwice}
use Rattle.roc_sequence.proofs.Places.{place_of-here, place_of-there, listed_cases, listed_head, listed_tail}
use Rattle.roc_sequence.proofs.Appended.{listed_front, listed_behind, listed_either, before_front, before_behind, before_new, NoneTwice-append}
use Rattle.roc_base.specs.declared.id.TxnId.{TxnId}
use Rattle.roc_base.specs.TxnId.{is_txn}
use Rattle.roc_base.specs.Equalities.{is_txn-true, is_txn-same}
use Rattle.roc_base.proofs.Ids.{is_txn-eq, is_txn-ne, is_txn-false}
use Rattle.roc_law_orders.specs.Behaviour.{TxnGroup, is_txn_group, is_group_number, Behaviour, IsLawful}
use Rattle.roc_law_orders.specs.Orders.{all_groups, one_by_one, StandOneByOne}
use Rattle.roc_law_orders.proofs.SameGroups.{is_group-same}

abbrev pub group_in : TxnId → ℕ → TxnGroup
group_in t g = record { txn = t; group = g }

pub one_or_other : (a b : TxnId) → (a ≡ b) ⊎ (a ≢ b)
one_or_other a b = go (is_txn a b) refl
  where
    go : (s : Bool) → is_txn a b ≡ s → (a ≡ b) ⊎ (a ≢ b)
    go true e = inl (is_txn-true a b e)
    go false e = inr (is_txn-false a b e)

-- ---- in the groups of one transaction

length_own : (t : TxnId) (gs : List ℕ) → length (map (group_in t) gs) ≡ length gs
length_own t [] = refl
length_own t (g ∷ gs) = ap suc (length_own t gs)

place_own : (r : TxnGroup) (t : TxnId) (gs : List ℕ) → r.txn ≡ t → place_of (is_txn_group r) (map (group_in t) gs) ≡ place_of (is_group_number r.group) gs
place_own r t [] e = refl
place_own r t (g ∷ gs) e =
    subst (λ b. cond (b && (r.group == g)) 0 (suc (place_of (is_txn_group r) (map (group_in t) gs))) ≡ cond (r.group == g) 0 (suc (place_of (is_group_number r.group) gs))) (sym (is_txn-eq r.txn t e))
    (ap (λ n. cond (r.group == g) 0 (suc n)) (place_own r t gs e))

-- those of another transaction are not among them
place_other : (r : TxnGroup) (t : TxnId) (gs : List ℕ) → r.txn ≢ t → place_of (is_txn_group r) (map (group_in t) gs) ≡ length (map (group_in t) gs)
place_other r t [] n = refl
place_other r t (g ∷ gs) n =
    subst (λ b. cond (b && (r.group == g)) 0 (suc (place_of (is_txn_group r) (map (group_in t) gs))) ≡ suc (length (map (group_in t) gs))) (sym (is_txn-ne r.txn t n))
    (ap suc (place_other r t gs n))

none_twice_own : (t : TxnId) (gs : List ℕ) → NoneTwice is_group_number gs → NoneTwice is_txn_group (map (group_in t) gs)
none_twice_own t [] h = tt
none_twice_own t (g ∷ gs) h =
    (λ i. h.0 (let e = place_own (group_in t g) t gs refl in omega (arith, length_own t gs)), none_twice_own t gs h.1)

module _ (B : Behaviour) where
  own_listed : (r : TxnGroup) (t : TxnId) → r.txn ≡ t → IsListed is_group_number (B.groups r.txn) r.group → IsListed is_txn_group (all_groups B t) r
  own_listed r t e h = subst (λ u. IsListed is_txn_group (all_groups B u) r) e (let p = place_own r r.txn (B.groups r.txn) refl in omega (arith, length_own r.txn (B.groups r.txn)))

  from_own : (r : TxnGroup) (t : TxnId) → IsListed is_txn_group (all_groups B t) r → (r.txn ≡ t) × IsListed is_group_number (B.groups r.txn) r.group
  from_own r t h =
      elim (one_or_other r.txn t) [
        | inl e ↦
            (let i = subst (λ u. IsListed is_txn_group (all_groups B u) r) (sym e) h in
            let p = place_own r r.txn (B.groups r.txn) refl in
            (e, omega (arith, length_own r.txn (B.groups r.txn))))
        | inr n ↦ (let o = place_other r t (B.groups t) n in absurd (omega arith))
      ]

  apart_own : (r : TxnGroup) (t : TxnId) → r.txn ≢ t → ¬ IsListed is_txn_group (all_groups B t) r
  apart_own r t n h = n (from_own r t h).0

  own_before : (q r : TxnGroup) (t : TxnId) → q.txn ≡ r.txn → r.txn ≡ t → IsListedBefore is_group_number (B.groups r.txn) q.group r.group → IsListedBefore is_txn_group (all_groups B t) q r
  own_before q r t s e h =
      subst (λ u. IsListedBefore is_txn_group (all_groups B u) q r) e
      (let a = place_own q r.txn (B.groups r.txn) s in let b = place_own r r.txn (B.groups r.txn) refl in omega arith)

  -- ---- in those of all

  in_rest : (t u : TxnId) (O : List TxnId) → u ≢ t → IsListed is_txn (t ∷ O) u → IsListed is_txn O u
  in_rest t u O n h = elim (listed_cases is_txn t O u h) [ inl e ↦ absurd (n (is_txn-true u t e)) | inr k ↦ k.1 ]

  pub in_order : (O : List TxnId) (r : TxnGroup) → IsListed is_txn O r.txn → IsListed is_group_number (B.groups r.txn) r.group → IsListed is_txn_group (one_by_one B O) r
  in_order [] r h k = absurd (omega arith)
  in_order (t ∷ O) r h k =
      elim (one_or_other r.txn t) [
        | inl e ↦ listed_front is_txn_group (all_groups B t) (one_by_one B O) r (own_listed r t e k)
        | inr n ↦ listed_behind is_txn_group (all_groups B t) (one_by_one B O) r (in_order O r (in_rest t r.txn O n h) k)
      ]

  pub from_order : (O : List TxnId) (r : TxnGroup) → IsListed is_txn_group (one_by_one B O) r → IsListed is_txn O r.txn × IsListed is_group_number (B.groups r.txn) r.group
  from_order [] r h = absurd (omega arith)
  from_order (t ∷ O) r h =
      elim (listed_either is_txn_group (all_groups B t) (one_by_one B O) r h) [
        | inl j ↦ (let f = from_own r t j in (subst (IsListed is_txn (t ∷ O)) (sym f.0) (listed_head is_txn t O (is_txn-same t)), f.1))
        | inr j ↦ (let f = from_order O r j.1 in (listed_tail is_txn t O r.txn f.0, f.1))
      ]

  -- of two transactions, the earlier one's groups come first
  pub across : (O : List TxnId) (q r : TxnGroup) → IsListedBefore is_txn O q.txn r.txn → IsListed is_group_number (B.groups q.txn) q.group → IsListedBefore is_txn_group (one_by_one B O) q r
  across [] q r h k = absurd (omega arith)
  across (t ∷ O) q r h k = go (one_or_other q.txn t) (one_or_other r.txn t) (across O q r)
    where
      go : (q.txn ≡ t) ⊎ (q.txn ≢ t) → (r.txn ≡ t) ⊎ (r.txn ≢ t)
          → (IsListedBefore is_txn O q.txn r.txn → IsListed is_group_number (B.groups q.txn) q.group → IsListedBefore is_txn_group (one_by_one B O) q r)
          → IsListedBefore is_txn_group (one_by_one B (t ∷ O)) q r
      go e (inl f) ih = let a = place_of-here (is_txn r.txn) t O (is_txn-eq r.txn t f) in absurd (omega arith)
      go (inl e) (inr n) ih = before_new is_txn_group (all_groups B t) (one_by_one B O) q r (own_listed q t e k) (apart_own r t n)
      go (inr m) (inr n) ih =
          let a = place_of-there (is_txn q.txn) t O (is_txn-ne q.txn t m) in
          let b = place_of-there (is_txn r.txn) t O (is_txn-ne r.txn t n) in
          before_behind is_txn_group (all_groups B t) (one_by_one B O) q r (apart_own q t m) (apart_own r t n) (ih (omega arith) k)

  -- and of one transaction, the earlier group
  pub within : (O : List TxnId) (q r : TxnGroup) → q.txn ≡ r.txn → IsListed is_txn O r.txn → IsListedBefore is_group_number (B.groups r.txn) q.group r.group → IsListedBefore is_txn_group (one_by_one B O) q r
  within [] q r s h k = absurd (omega arith)
  within (t ∷ O) q r s h k =
      elim (one_or_other r.txn t) [
        | inl e ↦ before_front is_txn_group (all_groups B t) (one_by_one B O) q r (own_before q r t s e k)
        | inr n ↦ before_behind is_txn_group (all_groups B t) (one_by_one B O) q r (apart_own q t (λ f. n (sym s ∙ f))) (apart_own r t n) (within O q r s (in_rest t r.txn O n h) k)
      ]

  pub none_twice : ((t : TxnId) → NoneTwice is_group_number (B.groups t)) → (O : List TxnId) → NoneTwice is_txn O → NoneTwice is_txn_group (one_by_one B O)
  none_twice once [] h = tt
  none_twice once (t ∷ O) h =
      NoneTwice-append is_txn_group is_group-same (all_groups B t) (one_by_one B O) (none_twice_own t (B.groups t) (once t)) (none_twice once O h.1)
      (λ r i j. h.0 (subst (IsListed is_txn O) (from_own r t j).0 (from_order O r i).0))

  pub stand : IsLawful B → (O : List TxnId) → StandOneByOne B O
  stand lawful O =
      record {
        once = none_twice lawful.once O;
        all = in_order O;
        of_order = λ r h. (from_order O r h).0;
        are_groups = λ r h. (from_order O r h).1;
        across = across O;
        within = within O;
      }
