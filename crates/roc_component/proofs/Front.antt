-- Taking members one by one
use Rattle.std.proofs.Common.{◌≡◌, ◌-◌, ◌<◌, ◌≤◌, Bool, true, false, List, [], ◌∷◌, ◌++◌, map, length, refl, sym, ap, subst, inl, inr, arith, length-append, Some, None}
use Rattle.std.proofs.lemmas.Map.Made.{length-le_from_is_member}
use Rattle.std.specs.Cmp.{eq_by_cmp_equiv}
use Rattle.std.specs.List.{AllByRecursion, IsDistinct}
use Rattle.std.specs.Ordering.{eq_by_cmp, is_eq}
use Rattle.roc_sequence.specs.Places.{IsListed, IsListedBefore, NoneTwice}
use Rattle.roc_sequence.proofs.Places.{listed_or_not, listed_head, listed_tail}
use Rattle.roc_sequence.proofs.Appended.{listed_either, before_front, from_before_front, before_new, NoneTwice-append, place_of-behind}
use Rattle.roc_base.specs.declared.id.TxnId.{TxnId}
use Rattle.roc_base.specs.TxnId.{is_txn, txn_cmp}
use Rattle.roc_base.proofs.Ids.{txn_cmp-total}
use Rattle.roc_base.specs.Equalities.{is_txn-same}
use Rattle.roc_depgraph.proofs.Listed.{under_has, has_from_listed, listed_from_has, is_eq-true, listed_one, in_one}
use Rattle.roc_component.proofs.Member.{Member}
use Rattle.roc_component.specs.Components.{IsNext, among, IsComponentOrder}
use Rattle.roc_component.proofs.Member.{next_of}
use Rattle.roc_component.proofs.MembersOf.{AreMembers}
use Rattle.roc_component.proofs.NextMember.{IsFront, next_is, none_is}
use Rattle.roc_component.proofs.Relations.{next_by}

-- ids of which none is listed twice are distinct keys
apart : (x : TxnId) (xs : List TxnId) → ¬ IsListed is_txn xs x → AllByRecursion (λ y. eq_by_cmp txn_cmp x y ≡ false) xs
apart x [] n = tt
apart x (y ∷ xs) n = (go (is_eq (txn_cmp x y)) refl, apart x xs (λ h. n (listed_tail is_txn y xs x h)))
  where
    go : (b : Bool) → is_eq (txn_cmp x y) ≡ b → b ≡ false
    go true e = absurd (n (subst (λ v. IsListed is_txn (v ∷ xs) x) (is_eq-true x y e) (listed_head is_txn x xs (is_txn-same x))))
    go false e = refl

distinct : (xs : List TxnId) → NoneTwice is_txn xs → IsDistinct (eq_by_cmp txn_cmp) xs
unfolding IsDistinct
distinct [] h = tt
distinct (x ∷ xs) h = (apart x xs h.0, distinct xs h.1)

-- a list without repeats is not longer than one that has all of it
pub length-le_from_listed : (xs ys : List TxnId) → NoneTwice is_txn xs → ((u : TxnId) → IsListed is_txn xs u → IsListed is_txn ys u) → length xs ≤ length ys
length-le_from_listed xs ys n h =
    length-le_from_is_member (eq_by_cmp_equiv txn_cmp-total) xs ys (distinct xs n) (λ q k. has_from_listed ys q (h q (listed_from_has xs q k)))

module _ (E I : TxnId → TxnId → Type 0) (M : List TxnId) where
  pub front_none : IsFront E I M []
  front_none = record { once = tt; from = λ x h. absurd (omega arith); next = λ x h. absurd (omega arith) }

  module _ (xs : List TxnId) (x : TxnId) (f : IsFront E I M xs) (n : IsNext (among M E) (among M I) M (IsListed is_txn xs) x) (new : ¬ IsListed is_txn xs x) (m : IsListed is_txn M x) where
    abbrev longer : List TxnId
    longer = xs ++ x ∷ []

    next_front : (z : TxnId) → IsListed is_txn xs z → IsNext (among M E) (among M I) M (λ u. IsListedBefore is_txn longer u z) z
    next_front z h =
        next_by (among M E) (among M I) (λ u. IsListedBefore is_txn xs u z) (λ u. IsListedBefore is_txn longer u z)
        (λ u. before_front is_txn xs (x ∷ []) u z) (λ u. from_before_front is_txn xs (x ∷ []) u z h) M z (f.next z h)

    next_last : IsNext (among M E) (among M I) M (λ u. IsListedBefore is_txn longer u x) x
    next_last =
        next_by (among M E) (among M I) (IsListed is_txn xs) (λ u. IsListedBefore is_txn longer u x)
        (λ u h. before_new is_txn xs (x ∷ []) u x h new) earlier M x n
      where
        earlier : (u : TxnId) → IsListedBefore is_txn longer u x → IsListed is_txn xs u
        earlier u h =
            elim (listed_or_not is_txn xs u) [
              | inl l ↦ l
              | inr k ↦
                  (let a = place_of-behind (is_txn u) xs (x ∷ []) (omega arith) in
                  let b = place_of-behind (is_txn x) xs (x ∷ []) (omega arith) in
                  let c = in_one x in
                  absurd (omega arith))
            ]

    pub front_more : IsFront E I M (xs ++ x ∷ [])
    front_more =
        record {
          once = NoneTwice-append is_txn is_txn-same xs (x ∷ []) f.once (λ h. absurd (omega arith), tt) (λ a h k. new (subst (IsListed is_txn xs) (listed_one x a h) k));
          from = λ z h. elim (listed_either is_txn xs (x ∷ []) z h) [ inl k ↦ f.from z k | inr k ↦ subst (IsListed is_txn M) (sym (listed_one x z k.1)) m ];
          next = λ z h. elim (listed_either is_txn xs (x ∷ []) z h) [
            | inl k ↦ next_front z k
            | inr k ↦ (let P : TxnId → Type 0 = λ v. IsNext (among M E) (among M I) M (λ u. IsListedBefore is_txn longer u v) v in subst P (sym (listed_one x z k.1)) next_last)
          ];
        }

  module _ (members : List Member) (ms : AreMembers E I M members) where
    -- there are not more than the members
    front_bounded : (xs : List TxnId) → IsFront E I M xs → length xs ≤ length (map (λ m. m.id) members)
    front_bounded xs f = length-le_from_listed xs (map (λ m. m.id) members) f.once (λ u h. let m = ms.complete u (f.from u h) in subst (IsListed is_txn (map (λ m. m.id) members)) m.2 (under_has (λ m. m.id) members m.0 m.1))

    pub front_next : (xs more : List TxnId) (x : TxnId) → IsFront E I M xs → Some x ≡ next_of xs members → more ≡ xs ++ x ∷ [] → IsFront E I M more × (length (map (λ (m : Member). m.id) members) - length more < length (map (λ (m : Member). m.id) members) - length xs)
    front_next xs more x f e p =
        let n = next_is E I M members ms xs f x (sym e) in
        let g = subst (IsFront E I M) (sym p) (front_more xs x f n.0 n.1 n.2) in
        let a = front_bounded more g in
        let b = ap length p in
        let c = length-append xs (x ∷ []) in
        (g, omega arith)

    pub front_done : (xs : List TxnId) → IsFront E I M xs → None ≡ next_of xs members → IsComponentOrder E I M xs
    front_done xs f e = record { once = f.once; from = f.from; all = none_is E I M members ms xs f (sym e); next = f.next }
