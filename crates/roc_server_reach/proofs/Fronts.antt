-- The least of a list are those of what is met of it
use Rattle.std.proofs.Common.{◌≡◌, ℕ, zero, suc, ◌≤◌, true, List, [], ◌∷◌, ◌⊎◌, length, take, IsTrue, refl, sym, ap, subst, ◌∙◌, arith, inl, inr}
use Rattle.std.proofs.lemmas.Bool.{false≢true}
use Rattle.std.specs.List.{AllByRecursion}
use Rattle.std.specs.List.Sorted.{IsStrictlySortedBy}
use Rattle.roc_sequence.specs.Places.{IsListed}
use Rattle.roc_sequence.proofs.Holds.{all_weaker}
use Rattle.roc_base.specs.declared.id.TxnId.{TxnId}
use Rattle.roc_base.specs.TxnId.{is_txn, txn_cmp, txn_lt}
use Rattle.roc_base.proofs.Ids.{txn_lt-itself, txn_lt-asym, none_rise}
use Rattle.roc_depgraph.proofs.RisingLists.{none_listed}
use Rattle.roc_server_reach.specs.Least.{most_least_ids, AreLeastIds}
use Rattle.roc_server_reach.proofs.Rises.{rises, first_before, rest_rises, first_or_rest, in_first, in_rest}
use Rattle.roc_server_reach.proofs.Put.{has_rising}

-- n of xs come before u
pub record HasBefore (n : ℕ) (xs : List TxnId) (u : TxnId) : Type 0 where
  pub ids : List TxnId
  pub rising : IsStrictlySortedBy txn_cmp ids
  pub many : n ≤ length ids
  pub each : AllByRecursion (λ k. IsListed is_txn xs k × IsTrue (txn_lt k u)) ids

-- all of which P holds is met, or as many that were met come before it as are the least
pub record CoversLeast (P : TxnId → Type 0) (met : List TxnId) : Type 0 where
  pub full : List TxnId
  pub sound : (u : TxnId) → IsListed is_txn full u → P u
  pub complete : (u : TxnId) → P u → IsListed is_txn full u
  pub among : (u : TxnId) → IsListed is_txn met u → IsListed is_txn full u
  pub near : (u : TxnId) → IsListed is_txn full u → IsListed is_txn met u ⊎ HasBefore most_least_ids met u

not_before_itself : (u v : TxnId) → txn_lt u v ≡ true → u ≡ v → ⊥
not_before_itself u v h e = false≢true (sym (txn_lt-itself u) ∙ (ap (txn_lt u) e ∙ h))

not_both : (u v : TxnId) → txn_lt u v ≡ true → txn_lt v u ≡ true → ⊥
not_both u v h k = false≢true (sym (txn_lt-asym u v h) ∙ k)

-- n that were met come before it, and are met in a longer list too
pub before_more : (n : ℕ) (xs ys : List TxnId) (u : TxnId) → ((v : TxnId) → IsListed is_txn xs v → IsListed is_txn ys v) → HasBefore n xs u → HasBefore n ys u
before_more n xs ys u more h =
    record {
      ids = h.ids;
      rising = h.rising;
      many = h.many;
      each = all_weaker (λ k. IsListed is_txn xs k × IsTrue (txn_lt k u)) (λ k. IsListed is_txn ys k × IsTrue (txn_lt k u)) (λ k p. (more k p.0, p.1)) h.ids h.each;
    }

-- a member of the front is one of the list
pub listed_taken : (n : ℕ) (xs : List TxnId) (u : TxnId) → IsListed is_txn (take n xs) u → IsListed is_txn xs u
listed_taken zero xs u l = absurd (none_listed u l)
listed_taken (suc n) [] u l = absurd (none_listed u l)
listed_taken (suc n) (x ∷ xs) u l = elim (first_or_rest x (take n xs) u l) [
  | inl e ↦ subst (IsListed is_txn (x ∷ xs)) (sym e) (in_first x xs)
  | inr k ↦ in_rest x xs u (listed_taken n xs u k)
]

-- the front of a rising list rises
pub taken_rises : (n : ℕ) (xs : List TxnId) → IsStrictlySortedBy txn_cmp xs → IsStrictlySortedBy txn_cmp (take n xs)
taken_rises zero xs r = none_rise
taken_rises (suc n) [] r = none_rise
taken_rises (suc n) (x ∷ xs) r = rises x (take n xs) (taken_rises n xs (rest_rises x xs r)) (λ u l. first_before x xs r u (listed_taken n xs u l))

-- one of a rising list is in its front of n, or n of the front come before it
pub near_front : (n : ℕ) (xs : List TxnId) → IsStrictlySortedBy txn_cmp xs → (u : TxnId) → IsListed is_txn xs u → IsListed is_txn (take n xs) u ⊎ HasBefore n (take n xs) u
near_front zero xs r u l = inr (record { ids = []; rising = none_rise; many = omega arith; each = tt })
near_front (suc n) [] r u l = absurd (none_listed u l)
near_front (suc n) (x ∷ xs) r u l = elim (first_or_rest x xs u l) [
  | inl e ↦ inl (subst (IsListed is_txn (x ∷ take n xs)) (sym e) (in_first x (take n xs)))
  | inr k ↦ elim (near_front n xs (rest_rises x xs r) u k) [
    | inl m ↦ inl (in_rest x (take n xs) u m)
    | inr b ↦ inr (behind b k)
  ]
]
  where
    rest : (ids : List TxnId) → AllByRecursion (λ k. IsListed is_txn (take n xs) k × IsTrue (txn_lt k u)) ids → (v : TxnId) → IsListed is_txn ids v → IsListed is_txn (take n xs) v
    rest [] each v m = absurd (none_listed v m)
    rest (i ∷ ids) each v m = elim (first_or_rest i ids v m) [ inl e ↦ subst (IsListed is_txn (take n xs)) (sym e) each.0.0 | inr j ↦ rest ids each.1 v j ]

    behind : HasBefore n (take n xs) u → IsListed is_txn xs u → HasBefore (suc n) (x ∷ take n xs) u
    behind b k =
        record {
          ids = x ∷ b.ids;
          rising = rises x b.ids b.rising (λ v m. first_before x xs r v (listed_taken n xs v (rest b.ids b.each v m)));
          many = let many = b.many in omega arith;
          each = (
            (in_first x (take n xs), first_before x xs r u k),
            all_weaker (λ k. IsListed is_txn (take n xs) k × IsTrue (txn_lt k u)) (λ k. IsListed is_txn (x ∷ take n xs) k × IsTrue (txn_lt k u))
                (λ v p. (in_rest x (take n xs) v p.0, p.1)) b.ids b.each,
          );
        }

-- of two rising lists, of which each member of the first is in the second, or n of the second come before it, the fronts of n are one
abbrev AreNear : (n : ℕ) (all met : List TxnId) → Type 0
AreNear n all met = (u : TxnId) → IsListed is_txn all u → IsListed is_txn met u ⊎ HasBefore n met u

module _ (x y : TxnId) (xs ys : List TxnId) (r : IsStrictlySortedBy txn_cmp (x ∷ xs)) (q : IsStrictlySortedBy txn_cmp (y ∷ ys))
    (among : (u : TxnId) → IsListed is_txn (y ∷ ys) u → IsListed is_txn (x ∷ xs) u) (n : ℕ) (near : AreNear (suc n) (x ∷ xs) (y ∷ ys)) where
  -- nothing of the second list comes before the first of the first
  none_before : (u : TxnId) → IsListed is_txn (y ∷ ys) u → txn_lt u x ≡ true → ⊥
  none_before u l h = elim (first_or_rest x xs u (among u l)) [ inl e ↦ not_before_itself u x h e | inr k ↦ not_both u x h (first_before x xs r u k) ]

  x_met : IsListed is_txn (y ∷ ys) x
  x_met = elim (near x (in_first x xs)) [ inl l ↦ l | inr b ↦ absurd (none b.ids b.many b.each) ]
    where
      none : (ids : List TxnId) → suc n ≤ length ids → AllByRecursion (λ k. IsListed is_txn (y ∷ ys) k × IsTrue (txn_lt k x)) ids → ⊥
      none [] many each = omega arith
      none (i ∷ ids) many each = none_before i each.0.0 each.0.1

  firsts : x ≡ y
  firsts = elim (first_or_rest y ys x x_met) [
    | inl e ↦ e
    | inr k ↦ absurd (none_before y (in_first y ys) (first_before y ys q x k))
  ]

  rest_among : (u : TxnId) → IsListed is_txn ys u → IsListed is_txn xs u
  rest_among u l = elim (first_or_rest x xs u (among u (in_rest y ys u l))) [
    | inl e ↦ absurd (not_before_itself y u (first_before y ys q u l) (sym firsts ∙ sym e))
    | inr k ↦ k
  ]

  -- one behind a member comes behind the first
  behind_first : (u v : TxnId) → IsListed is_txn (y ∷ ys) u → txn_lt u v ≡ true → IsListed is_txn (y ∷ ys) v → IsListed is_txn ys v
  behind_first u v l h m = elim (first_or_rest y ys v m) [
    | inr k ↦ k
    | inl e ↦ absurd (none_before u l (subst (λ w. txn_lt u w ≡ true) (e ∙ sym firsts) h))
  ]

  rest_near : AreNear n xs ys
  rest_near u l = elim (near u (in_rest x xs u l)) [
    | inl m ↦ elim (first_or_rest y ys u m) [ inl e ↦ absurd (not_before_itself x u (first_before x xs r u l) (firsts ∙ sym e)) | inr k ↦ inl k ]
    | inr b ↦ inr (rest b.ids b.rising b.many b.each)
  ]
    where
      behind : (i : TxnId) (ids : List TxnId) → IsListed is_txn (y ∷ ys) i → IsStrictlySortedBy txn_cmp (i ∷ ids)
          → (js : List TxnId) → ((v : TxnId) → IsListed is_txn js v → IsListed is_txn ids v)
          → AllByRecursion (λ k. IsListed is_txn (y ∷ ys) k × IsTrue (txn_lt k u)) js → AllByRecursion (λ k. IsListed is_txn ys k × IsTrue (txn_lt k u)) js
      behind i ids l s [] all each = tt
      behind i ids l s (j ∷ js) all each =
          ((behind_first i j l (first_before i ids s j (all j (in_first j js))) each.0.0, each.0.1), behind i ids l s js (λ v m. all v (in_rest j js v m)) each.1)

      rest : (ids : List TxnId) → IsStrictlySortedBy txn_cmp ids → suc n ≤ length ids → AllByRecursion (λ k. IsListed is_txn (y ∷ ys) k × IsTrue (txn_lt k u)) ids → HasBefore n ys u
      rest [] s many each = absurd (omega arith)
      rest (i ∷ ids) s many each =
          record { ids = ids; rising = rest_rises i ids s; many = omega arith; each = behind i ids each.0.0 s ids (λ v m. m) each.1 }

pub same_front : (n : ℕ) (xs ys : List TxnId) → IsStrictlySortedBy txn_cmp xs → IsStrictlySortedBy txn_cmp ys
    → ((u : TxnId) → IsListed is_txn ys u → IsListed is_txn xs u) → AreNear n xs ys → take n xs ≡ take n ys
same_front zero xs ys r q among near = refl
same_front (suc n) [] [] r q among near = refl
same_front (suc n) [] (y ∷ ys) r q among near = absurd (none_listed y (among y (in_first y ys)))
same_front (suc n) (x ∷ xs) [] r q among near = absurd (elim (near x (in_first x xs)) [ inl l ↦ none_listed x l | inr b ↦ none b.ids b.many b.each ])
  where
    none : (ids : List TxnId) → suc n ≤ length ids → AllByRecursion (λ k. IsListed is_txn [] k × IsTrue (txn_lt k x)) ids → ⊥
    none [] many each = omega arith
    none (i ∷ ids) many each = none_listed i each.0.0
same_front (suc n) (x ∷ xs) (y ∷ ys) r q among near =
    let first : x ≡ y = firsts x y xs ys r q among n near in
    let rest : take n xs ≡ take n ys = same_front n xs ys (rest_rises x xs r) (rest_rises y ys q) (rest_among x y xs ys r q among n near) (rest_near x y xs ys r q among n near) in
    λ i. first i ∷ rest i

-- the least of what was met of all of which P holds
pub least_met : (P : TxnId → Type 0) (met ids : List TxnId) → CoversLeast P met → AreLeastIds (IsListed is_txn met) ids → AreLeastIds P ids
least_met P met ids m l =
    let full = has_rising m.full in
    record {
      all = full.ids;
      rising = record {
        rising = full.members.rising;
        sound = λ u k. m.sound u (full.members.sound u k);
        complete = λ u p. full.members.complete u (m.complete u p);
      };
      first = l.first ∙ sym (same_front most_least_ids full.ids l.all full.members.rising l.rising.rising
          (λ u k. full.members.complete u (m.among u (l.rising.sound u k)))
          (λ u k. elim (m.near u (full.members.sound u k)) [
            | inl h ↦ inl (l.rising.complete u h)
            | inr b ↦ inr (before_more most_least_ids met l.all u l.rising.complete b)
          ]));
      rises = l.rises;
    }
