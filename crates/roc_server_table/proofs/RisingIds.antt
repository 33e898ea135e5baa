-- The keys of a set, by id rising, are its keys
use Rattle.std.proofs.Common.{◌≡◌, ◌&&◌, Bool, true, false, not, if◌then◌else◌, List, [], ◌∷◌, ◌++◌, ◌⊎◌, refl, sym, ap, subst, ◌∙◌, inl, inr}
use Rattle.std.proofs.lemmas.Bool.{and_parts, false≢true, not-true, not_from_false}
use Rattle.std.specs.List.Sorted.{IsStrictlySortedBy}
use Rattle.roc_sequence.specs.Places.{IsListed, is_listed}
use Rattle.roc_sequence.proofs.Places.{listed_test, unlisted_test, listed_true, listed_false}
use Rattle.roc_sequence.proofs.Appended.{listed_front, listed_behind, listed_either}
use Rattle.roc_base.specs.declared.id.TxnId.{TxnId}
use Rattle.roc_base.specs.TxnId.{is_txn, txn_cmp, txn_lt}
use Rattle.roc_base.proofs.Ids.{txn_lt-trans, txn_cases, none_rise}
use Rattle.roc_depgraph.specs.declared.known.KnownList.{KnownList}
use Rattle.roc_depgraph.specs.Closure.{IsRisingListOf}
use Rattle.roc_step.specs.New.{AreAllNew}
use Rattle.roc_depgraph.proofs.Listed.{listed_one, in_one}
use Rattle.roc_depgraph.proofs.RisingLists.{none_listed, rising_one}
use Rattle.roc_server_reach.proofs.Rises.{rises, first_before, rest_rises, first_or_rest, in_first, in_rest}
use Rattle.roc_server_table.specs.Inner.Rising.{with_id, rising_ids}

-- ys has one more than xs, and rises
record IsPut (id : TxnId) (xs ys : List TxnId) : Type 0 where
  rising : IsStrictlySortedBy txn_cmp ys
  here : IsListed is_txn ys id
  there : (u : TxnId) → IsListed is_txn xs u → IsListed is_txn ys u
  only : (u : TxnId) → IsListed is_txn ys u → (u ≡ id) ⊎ IsListed is_txn xs u

neither : (a x : TxnId) → txn_lt a x ≡ false → txn_lt x a ≡ false → a ≡ x
neither a x h k = elim (txn_cases a x) [
  | inl e ↦ absurd (false≢true (sym h ∙ e))
  | inr r ↦ elim r [ inl e ↦ e | inr e ↦ absurd (false≢true (sym k ∙ e)) ]
]

put : (a : TxnId) (xs : List TxnId) → IsStrictlySortedBy txn_cmp xs → IsPut a xs (with_id a xs)
unfolding with_id
put a [] r =
    record {
      rising = rises a [] r (λ u l. absurd (none_listed u l));
      here = in_one a;
      there = λ u l. absurd (none_listed u l);
      only = λ u l. inl (listed_one a u l);
    }
put a (x ∷ xs) r = go (with_id a xs) (put a xs (rest_rises x xs r)) (txn_lt a x) refl (txn_lt x a) refl
  where
    go : (ys : List TxnId) → IsPut a xs ys → (b : Bool) → txn_lt a x ≡ b → (d : Bool) → txn_lt x a ≡ d → IsPut a (x ∷ xs) (if b then a ∷ x ∷ xs else (if d then x ∷ ys else x ∷ xs))
    go ys p true first d k =
        record {
          rising = rises a (x ∷ xs) r (λ u l. elim (first_or_rest x xs u l) [ inl e ↦ subst (λ v. txn_lt a v ≡ true) (sym e) first | inr m ↦ txn_lt-trans a x u first (first_before x xs r u m) ]);
          here = in_first a (x ∷ xs);
          there = λ u l. in_rest a (x ∷ xs) u l;
          only = λ u l. first_or_rest a (x ∷ xs) u l;
        }
    go ys p false h true behind =
        record {
          rising = rises x ys p.rising (λ u l. elim (p.only u l) [ inl e ↦ subst (λ v. txn_lt x v ≡ true) (sym e) behind | inr m ↦ first_before x xs r u m ]);
          here = in_rest x ys a p.here;
          there = λ u l. elim (first_or_rest x xs u l) [ inl e ↦ subst (IsListed is_txn (x ∷ ys)) (sym e) (in_first x ys) | inr m ↦ in_rest x ys u (p.there u m) ];
          only = λ u l. elim (first_or_rest x ys u l) [
            | inl e ↦ inr (subst (IsListed is_txn (x ∷ xs)) (sym e) (in_first x xs))
            | inr k ↦ elim (p.only u k) [ inl e ↦ inl e | inr m ↦ inr (in_rest x xs u m) ]
          ];
        }
    go ys p false h false k =
        record {
          rising = r;
          here = subst (IsListed is_txn (x ∷ xs)) (sym (neither a x h k)) (in_first x xs);
          there = λ u l. l;
          only = λ u l. inr l;
        }

pub rising_of : (xs : List TxnId) → IsRisingListOf (IsListed is_txn xs) (rising_ids xs)
unfolding rising_ids
rising_of [] = record { rising = none_rise; sound = λ u l. l; complete = λ u l. l }
rising_of (x ∷ xs) =
    let more = rising_of xs in
    let p = put x (rising_ids xs) more.rising in
    record {
      rising = p.rising;
      sound = λ u l. elim (p.only u l) [ inl e ↦ subst (IsListed is_txn (x ∷ xs)) (sym e) (in_first x xs) | inr k ↦ in_rest x xs u (more.sound u k) ];
      complete = λ u l. elim (first_or_rest x xs u l) [ inl e ↦ subst (IsListed is_txn (with_id x (rising_ids xs))) (sym e) p.here | inr k ↦ p.there u (more.complete u k) ];
    }

-- sets of the same keys are one
pub same_ids : (xs ys : List TxnId) → ((u : TxnId) → is_listed is_txn ys u ≡ is_listed is_txn xs u) → rising_ids ys ≡ rising_ids xs
same_ids xs ys same =
    let new = rising_of ys in
    rising_one (IsListed is_txn xs) (rising_ids ys) (rising_ids xs)
    (record {
      rising = new.rising;
      sound = λ u l. listed_true is_txn xs u (sym (same u) ∙ listed_test is_txn ys u (new.sound u l));
      complete = λ u l. new.complete u (listed_true is_txn ys u (same u ∙ listed_test is_txn xs u l));
    })
    (rising_of xs)

-- what is listed among the keys is listed among them in order
pub test_of : (xs : List TxnId) (u : TxnId) → is_listed is_txn xs u ≡ is_listed is_txn (rising_ids xs) u
test_of xs u = go (is_listed is_txn xs u) refl
  where
    go : (b : Bool) → is_listed is_txn xs u ≡ b → b ≡ is_listed is_txn (rising_ids xs) u
    go true e = sym (listed_test is_txn (rising_ids xs) u ((rising_of xs).complete u (listed_true is_txn xs u e)))
    go false e = sym (unlisted_test is_txn (rising_ids xs) u (λ l. listed_false is_txn xs u e ((rising_of xs).sound u l)))

-- these are added
pub ids_added : (old ids new : List TxnId) → ((u : TxnId) → is_listed is_txn new u ≡ is_listed is_txn (old ++ ids) u) → IsRisingListOf (IsListed is_txn (rising_ids old ++ ids)) (rising_ids new)
ids_added old ids new added =
    let was = rising_of old in
    let now = rising_of new in
    record {
      rising = now.rising;
      sound = λ u l. elim (listed_either is_txn old ids u (listed_true is_txn (old ++ ids) u (sym (added u) ∙ listed_test is_txn new u (now.sound u l)))) [
        | inl k ↦ listed_front is_txn (rising_ids old) ids u (was.complete u k)
        | inr k ↦ listed_behind is_txn (rising_ids old) ids u k.1
      ];
      complete = λ u l. now.complete u (listed_true is_txn new u (added u ∙ listed_test is_txn (old ++ ids) u (elim (listed_either is_txn (rising_ids old) ids u l) [
        | inl k ↦ listed_front is_txn old ids u (was.sound u k)
        | inr k ↦ listed_behind is_txn old ids u k.1
      ])));
    }

-- and these are left out
pub ids_left : (old ids new : List TxnId) → ((u : TxnId) → is_listed is_txn new u ≡ (is_listed is_txn old u && not (is_listed is_txn ids u)))
    → IsRisingListOf (λ t. IsListed is_txn (rising_ids old) t × (is_listed is_txn ids t ≡ false)) (rising_ids new)
ids_left old ids new left =
    let was = rising_of old in
    let now = rising_of new in
    record {
      rising = now.rising;
      sound = λ u l.
          let p = and_parts (is_listed is_txn old u) (not (is_listed is_txn ids u)) (sym (left u) ∙ listed_test is_txn new u (now.sound u l)) in
          (was.complete u (listed_true is_txn old u p.0), not-true (is_listed is_txn ids u) p.1);
      complete = λ u p. now.complete u (listed_true is_txn new u (left u ∙ both (listed_test is_txn old u (was.sound u p.0)) (not_from_false (is_listed is_txn ids u) p.1)));
    }
  where
    both : {a b : Bool} → a ≡ true → b ≡ true → (a && b) ≡ true
    both e f = λ i. e i && f i

-- what is new beside these is new beside them in order
pub new_in_order : (before : List TxnId) (known : List KnownList) (ids : List TxnId) → AreAllNew (IsListed is_txn before) known ids → AreAllNew (IsListed is_txn (rising_ids before)) known ids
new_in_order before known ids new =
    let was = rising_of before in
    record { only = λ t l. let n = new.only t l in (n.0, λ k. n.1 (was.sound t k)); all = λ t n. new.all t (n.0, λ k. n.1 (was.complete t k)) }

pub order_is_new : (before : List TxnId) (known : List KnownList) (ids : List TxnId) → AreAllNew (IsListed is_txn (rising_ids before)) known ids → AreAllNew (IsListed is_txn before) known ids
order_is_new before known ids new =
    let was = rising_of before in
    record { only = λ t l. let n = new.only t l in (n.0, λ k. n.1 (was.complete t k)); all = λ t n. new.all t (n.0, λ k. n.1 (was.sound t k)) }

pub no_ids : (xs : List TxnId) → xs ≡ [] → rising_ids xs ≡ []
unfolding rising_ids
no_ids xs e = ap rising_ids e
