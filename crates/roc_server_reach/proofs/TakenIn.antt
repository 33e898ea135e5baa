-- The least of a list with one more
use Rattle.std.proofs.Common.{◌≡◌, ℕ, zero, suc, ◌≤◌, ◌<◌, true, List, [], ◌∷◌, ◌++◌, ◌⊎◌, length, take, get_or, refl, sym, ap, subst, ◌∙◌, arith, inl, inr}
use Rattle.std.proofs.lemmas.Bool.{cases_lt}
use Rattle.std.proofs.lemmas.Bool.Decides.{nat_tests}
use Rattle.std.proofs.lemmas.List.{take_all, length-take}
use Rattle.std.proofs.lemmas.Map.Keys.{Less-from_sorted}
use Rattle.std.proofs.lemmas.List.Sorted.{searchable_from_sorted}
use Rattle.std.specs.Prelude.{insert}
use Rattle.std.specs.List.Sorted.{IsStrictlySortedBy, IsNonDecreasingBy, IsPartitionPoint}
use Rattle.std.specs.Ordering.{is_lt, ordering_index, ordering_reverse, partial_lt}
use Rattle.std.specs.declared.cmp.Ordering.TheVariants.{Less, Equal, Greater}
use Rattle.roc_sequence.specs.Places.{IsListed}
use Rattle.roc_sequence.proofs.Rising.{less_from_test}
use Rattle.roc_sequence.proofs.Appended.{listed_front, listed_behind, listed_either}
use Rattle.roc_base.specs.declared.id.TxnId.{TxnId}
use Rattle.roc_base.specs.TxnId.{is_txn, txn_cmp, txn_lt}
use Rattle.roc_base.specs.contracts.id.TxnIdPartialOrd.TheImpl.{partial_cmp-value}
use Rattle.roc_base.proofs.Ids.{txn_cmp-total, txn_cmp-exact, is_lt-txn_cmp, txn_lt-trans, none_rise}
use Rattle.roc_depgraph.proofs.Listed.{listed_one, in_one}
use Rattle.roc_depgraph.proofs.RisingLists.{none_listed}
use Rattle.roc_depgraph.proofs.Searched.{none, listed_there, stands_at, ids_sorted}
use Rattle.roc_server_reach.specs.Least.{most_least_ids, AreLeastIds}
use Rattle.roc_server_reach.proofs.Rises.{rises, first_before, rest_rises, first_or_rest, in_first, in_rest}
use Rattle.roc_server_reach.proofs.Fronts.{CoversLeast, before_more, listed_taken, taken_rises, near_front, least_met}

module _ (x : TxnId) where
  inserted_own : (ids : List TxnId) (i : ℕ) → i ≤ length ids → IsListed is_txn (insert ids i x) x
  inserted_own [] zero h = in_first x []
  inserted_own [] (suc i) h = absurd (omega arith)
  inserted_own (y ∷ ys) zero h = in_first x (y ∷ ys)
  inserted_own (y ∷ ys) (suc i) h = in_rest y (insert ys i x) x (inserted_own ys i (omega arith))

  inserted_has : (ids : List TxnId) (i : ℕ) → i ≤ length ids → (u : TxnId) → IsListed is_txn ids u → IsListed is_txn (insert ids i x) u
  inserted_has [] zero h u l = absurd (none_listed u l)
  inserted_has [] (suc i) h u l = absurd (omega arith)
  inserted_has (y ∷ ys) zero h u l = in_rest x (y ∷ ys) u l
  inserted_has (y ∷ ys) (suc i) h u l = elim (first_or_rest y ys u l) [
    | inl e ↦ subst (IsListed is_txn (y ∷ insert ys i x)) (sym e) (in_first y (insert ys i x))
    | inr k ↦ in_rest y (insert ys i x) u (inserted_has ys i (omega arith) u k)
  ]

  inserted_only : (ids : List TxnId) (i : ℕ) → i ≤ length ids → (u : TxnId) → IsListed is_txn (insert ids i x) u → (u ≡ x) ⊎ IsListed is_txn ids u
  inserted_only [] zero h u l = first_or_rest x [] u l
  inserted_only [] (suc i) h u l = absurd (omega arith)
  inserted_only (y ∷ ys) zero h u l = first_or_rest x (y ∷ ys) u l
  inserted_only (y ∷ ys) (suc i) h u l = elim (first_or_rest y (insert ys i x) u l) [
    | inl e ↦ inr (subst (IsListed is_txn (y ∷ ys)) (sym e) (in_first y ys))
    | inr k ↦ elim (inserted_only ys i (omega arith) u k) [ inl e ↦ inl e | inr m ↦ inr (in_rest y ys u m) ]
  ]

  -- in front of the place are those before x, and behind it those that x comes before
  abbrev pub IsPlace : List TxnId → ℕ → Type 0
  IsPlace ids i = IsPartitionPoint (λ y. txn_cmp y x ≡ Less) (λ y. txn_cmp y x ≡ Greater) ids i

  lt_from_less : (y z : TxnId) → txn_cmp y z ≡ Less → txn_lt y z ≡ true
  lt_from_less y z e = sym (is_lt-txn_cmp y z) ∙ ap is_lt e

  lt_from_greater : (y : TxnId) → txn_cmp y x ≡ Greater → txn_lt x y ≡ true
  lt_from_greater y e = lt_from_less x y (txn_cmp-total.antisymm x y ∙ ap ordering_reverse e)

  inserted_rises : (ids : List TxnId) (i : ℕ) → i ≤ length ids → IsStrictlySortedBy txn_cmp ids → IsPlace ids i → IsStrictlySortedBy txn_cmp (insert ids i x)
  inserted_rises [] zero h r p = rises x [] r (λ u l. absurd (none_listed u l))
  inserted_rises [] (suc i) h r p = absurd (omega arith)
  inserted_rises (y ∷ ys) zero h r p =
      rises x (y ∷ ys) r (λ u l.
      let at = stands_at (y ∷ ys) u l in
      lt_from_greater u (subst (λ v. txn_cmp v x ≡ Greater) (at.is none) (p.1 at.place none (omega arith) at.within)))
  inserted_rises (y ∷ ys) (suc i) h r p =
      rises y (insert ys i x)
      (inserted_rises ys i (omega arith) (rest_rises y ys r) (λ k d low high. p.0 (suc k) d (omega arith) (omega arith), λ k d low high. p.1 (suc k) d (omega arith) (omega arith)))
      (λ u l. elim (inserted_only ys i (omega arith) u l) [
        | inl e ↦ subst (λ v. txn_lt y v ≡ true) (sym e) (lt_from_less y x (p.0 0 none (omega arith) (omega arith)))
        | inr k ↦ first_before y ys r u k
      ])

  -- a front before the place stays
  front_stays : (ids : List TxnId) (i n : ℕ) → n ≤ i → i ≤ length ids → take n (insert ids i x) ≡ take n ids
  front_stays ids i zero h k = refl
  front_stays ids zero (suc n) h k = absurd (omega arith)
  front_stays [] (suc i) (suc n) h k = absurd (omega arith)
  front_stays (y ∷ ys) (suc i) (suc n) h k = ap (λ v. y ∷ v) (front_stays ys i n (omega arith) (omega arith))

-- what a search for x says of where it would stand
abbrev pub SaysPlace : (ids : List TxnId) (x : TxnId) (at : ℕ) → Type 0
SaysPlace ids x at = IsNonDecreasingBy (λ y. ordering_index (txn_cmp y x)) ids → IsPlace x ids at

-- the order of ids that code has is the one of clauses
pub code_lt : (a b : TxnId) → partial_lt partial_cmp-value.it a b ≡ txn_lt a b
code_lt a b = grind (arith, nat_tests)

-- the least of a list, with one more, give those of the list with one more
module _ (xs ids : List TxnId) (id : TxnId) (l : AreLeastIds (IsListed is_txn xs) ids) where
  least_listed : (u : TxnId) → IsListed is_txn ids u → IsListed is_txn xs u
  least_listed u k = l.rising.sound u (listed_taken most_least_ids l.all u (subst (λ v. IsListed is_txn v u) l.first k))

  few : length ids ≤ most_least_ids
  few = let e : length ids ≡ length (take most_least_ids l.all) = ap length l.first in let k = length-take most_least_ids l.all in omega arith

  covers : CoversLeast (IsListed is_txn (xs ++ id ∷ [])) (ids ++ id ∷ [])
  covers =
      record {
        full = xs ++ id ∷ [];
        sound = λ u k. k;
        complete = λ u k. k;
        among = λ u k. elim (listed_either is_txn ids (id ∷ []) u k) [ inl m ↦ listed_front is_txn xs (id ∷ []) u (least_listed u m) | inr m ↦ listed_behind is_txn xs (id ∷ []) u m.1 ];
        near = λ u k. elim (listed_either is_txn xs (id ∷ []) u k) [
          | inl m ↦ elim (near_front most_least_ids l.all l.rising.rising u (l.rising.complete u m)) [
            | inl f ↦ inl (listed_front is_txn ids (id ∷ []) u (subst (λ v. IsListed is_txn v u) (sym l.first) f))
            | inr b ↦ inr (before_more most_least_ids (take most_least_ids l.all) (ids ++ id ∷ []) u (λ v f. listed_front is_txn ids (id ∷ []) v (subst (λ w. IsListed is_txn w v) (sym l.first) f)) b)
          ]
          | inr m ↦ inl (listed_behind is_txn ids (id ∷ []) u m.1)
        ];
      }

  module _ (at : ℕ) (within : at ≤ length ids) (said : SaysPlace ids id at) where
    place : IsPlace id ids at
    place = said (searchable_from_sorted txn_cmp-total (λ y. y) ids id (ids_sorted ids id l.rises))

    pub taken_in : AreLeastIds (IsListed is_txn (xs ++ id ∷ [])) (take most_least_ids (insert ids at id))
    taken_in =
        least_met (IsListed is_txn (xs ++ id ∷ [])) (ids ++ id ∷ []) (take most_least_ids (insert ids at id)) covers
        (record {
          all = insert ids at id;
          rising = record {
            rising = inserted_rises id ids at within l.rises place;
            sound = λ u k. elim (inserted_only id ids at within u k) [
              | inl e ↦ listed_behind is_txn ids (id ∷ []) u (subst (IsListed is_txn (id ∷ [])) (sym e) (in_one id))
              | inr m ↦ listed_front is_txn ids (id ∷ []) u m
            ];
            complete = λ u k. elim (listed_either is_txn ids (id ∷ []) u k) [
              | inl m ↦ inserted_has id ids at within u m
              | inr m ↦ subst (IsListed is_txn (insert ids at id)) (sym (listed_one id u m.1)) (inserted_own id ids at within)
            ];
          };
          first = refl;
          rises = taken_rises most_least_ids (insert ids at id) (inserted_rises id ids at within l.rises place);
        })

    pub passed : most_least_ids ≤ at → AreLeastIds (IsListed is_txn (xs ++ id ∷ [])) ids
    passed h = subst (AreLeastIds (IsListed is_txn (xs ++ id ∷ []))) (front_stays id ids at most_least_ids h within ∙ take_all most_least_ids ids few) taken_in

  -- where as many are kept as are the least, and the last of them comes before the id, all of them do
  module _ (last : TxnId) (long : 15 < length ids) (is : (d : TxnId) → last ≡ get_or ids 15 d) (lower : txn_lt last id ≡ true) where
    last_lower : (d : TxnId) → txn_lt (get_or ids 15 d) id ≡ true
    last_lower d = subst (λ v. txn_lt v id ≡ true) (is d) lower

    all_lower : (k : ℕ) (d : TxnId) → k < length ids → txn_lt (get_or ids k d) id ≡ true
    all_lower k d h =
        elim (cases_lt k 15) [
          | inl low ↦
              txn_lt-trans (get_or ids k d) (get_or ids 15 d) id (lt_from_less id (get_or ids k d) (get_or ids 15 d) (Less-from_sorted txn_cmp ids k 15 d l.rises low long)) (last_lower d)
          | inr high ↦ (let e : 15 ≡ k = (let f = few in omega arith) in subst (λ i. txn_lt (get_or ids i d) id ≡ true) e (last_lower d))
        ]

    pub beyond : AreLeastIds (IsListed is_txn (xs ++ id ∷ [])) ids
    beyond =
        passed (length ids) (omega arith)
        (λ rise. (λ k d low high. less_from_test (txn_cmp (get_or ids k d) id) (is_lt-txn_cmp (get_or ids k d) id ∙ all_lower k d high), λ k d low high. absurd (omega arith)))
        (omega arith)

  was_in : IsListed is_txn ids id → AreLeastIds (IsListed is_txn (xs ++ id ∷ [])) ids
  was_in here =
      record {
        all = l.all;
        rising = record {
          rising = l.rising.rising;
          sound = λ u k. listed_front is_txn xs (id ∷ []) u (l.rising.sound u k);
          complete = λ u k. elim (listed_either is_txn xs (id ∷ []) u k) [
            | inl m ↦ l.rising.complete u m
            | inr m ↦ l.rising.complete u (subst (IsListed is_txn xs) (sym (listed_one id u m.1)) (least_listed id here))
          ];
        };
        first = l.first;
        rises = l.rises;
      }

  pub found_in : (at : ℕ) → at < length ids → ((d : TxnId) → txn_cmp (get_or ids at d) id ≡ Equal) → AreLeastIds (IsListed is_txn (xs ++ id ∷ [])) ids
  found_in at within is = was_in (listed_there ids at none id within (txn_cmp-exact (get_or ids at none) id (is none)))

-- of nothing
pub none_least : AreLeastIds (IsListed is_txn []) []
none_least = record { all = []; rising = record { rising = none_rise; sound = λ u k. k; complete = λ u k. k }; first = refl; rises = none_rise }
