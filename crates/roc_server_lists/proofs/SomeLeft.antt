-- What a test leaves of lists, and of components that have no member twice
use Rattle.std.proofs.Common.{◌≡◌, ◌++◌, Bool, true, false, cond, not, List, [], ◌∷◌, filter, refl, sym, ap, subst, ◌∙◌, ◌⊎◌, inl, inr}
use Rattle.std.proofs.lemmas.Bool.{false≢true, not_from_false}
use Rattle.std.proofs.lemmas.Grind.{flat_map-append}
use Rattle.std.specs.List.{flat_map, list_any}
use Rattle.roc_sequence.specs.Lists.{Has}
use Rattle.roc_sequence.specs.Places.{is_listed, IsListed, NoneTwice}
use Rattle.roc_sequence.proofs.Appended.{listed_behind, listed_either, listed_front, NoneTwice-append}
use Rattle.roc_sequence.proofs.Holds.{any_has, has_any, same_tests}
use Rattle.roc_sequence.proofs.Members.{from_has_filter, from_has_flat_map, has_filter, has_flat_map, has_left}
use Rattle.roc_sequence.proofs.Places.{listed_test, listed_true}
use Rattle.roc_base.specs.declared.id.TxnId.{TxnId}
use Rattle.roc_base.specs.TxnId.{is_txn}
use Rattle.roc_base.specs.Equalities.{is_txn-same, is_txn-true}
use Rattle.roc_component.proofs.OneTaken.{none_behind, none_in_both}
use Rattle.roc_depgraph.specs.Closure.{IsRisingListOf}
use Rattle.roc_depgraph.proofs.Listed.{has_listed, listed_has}

-- nothing passes a test that it did not pass
pub none_of_others : {A : Type 0} (p : A → Bool) (xs : List A) → filter p (filter (λ x. not (p x)) xs) ≡ []
none_of_others p [] = refl
none_of_others p (x ∷ xs) = go (p x) refl (none_of_others p xs)
  where
    go : (b : Bool) → p x ≡ b → filter p (filter (λ y. not (p y)) xs) ≡ [] → filter p (cond (not b) (x ∷ filter (λ y. not (p y)) xs) (filter (λ y. not (p y)) xs)) ≡ []
    go true e ih = ih
    go false e ih = ap (λ b. cond b (x ∷ filter p (filter (λ y. not (p y)) xs)) (filter p (filter (λ y. not (p y)) xs))) e ∙ ih

-- about one that is not forgotten a test of the ids says the same of what is left
pub any_some : {A : Type 0} (id_of : A → TxnId) (forgotten : TxnId → Bool) (t : TxnId) → forgotten t ≡ false → (xs : List A)
    → list_any (λ x. is_txn (id_of x) t) (filter (λ x. not (forgotten (id_of x))) xs) ≡ list_any (λ x. is_txn (id_of x) t) xs
any_some {A = A} id_of forgotten t n xs = same_tests (list_any is (filter stays xs)) (list_any is xs) back there
  where
    is : A → Bool
    is x = is_txn (id_of x) t

    stays : A → Bool
    stays x = not (forgotten (id_of x))

    back : list_any is (filter stays xs) ≡ true → list_any is xs ≡ true
    back e = let x = any_has is (filter stays xs) e in has_any is xs x.0 (from_has_filter stays x.0 xs x.1).0 x.2

    there : list_any is xs ≡ true → list_any is (filter stays xs) ≡ true
    there e =
        let x = any_has is xs e in
        has_any is (filter stays xs) x.0 (has_filter stays x.0 xs x.1 (not_from_false (forgotten (id_of x.0)) (ap forgotten (is_txn-true (id_of x.0) t x.2) ∙ n))) x.2

-- a rising list of these lists the same
pub rising_lists : (all ids : List TxnId) → IsRisingListOf (IsListed is_txn all) ids → (t : TxnId) → is_listed is_txn ids t ≡ is_listed is_txn all t
rising_lists all ids are t =
    same_tests (is_listed is_txn ids t) (is_listed is_txn all t)
    (λ e. listed_test is_txn all t (are.sound t (listed_true is_txn ids t e)))
    (λ e. listed_test is_txn ids t (are.complete t (listed_true is_txn all t e)))

-- ---- components

abbrev pub members : List (List TxnId) → List TxnId
members cs = flat_map (λ c. c) cs

-- what is listed among components, old and new
pub among_more : (old more : List (List TxnId)) (t : TxnId) → IsListed is_txn (members (old ++ more)) t → IsListed is_txn (members old) t ⊎ IsListed is_txn (members more) t
among_more old more t l =
    elim (listed_either is_txn (members old) (members more) t (subst (λ ts. IsListed is_txn ts t) (flat_map-append (λ c. c) old more) l)) [ inl k ↦ inl k | inr k ↦ inr k.1 ]

pub more_among : (old more : List (List TxnId)) (t : TxnId) → IsListed is_txn (members old) t ⊎ IsListed is_txn (members more) t → IsListed is_txn (members (old ++ more)) t
more_among old more t l =
    subst (λ ts. IsListed is_txn ts t) (sym (flat_map-append (λ c. c) old more))
    (elim l [ inl k ↦ listed_front is_txn (members old) (members more) t k | inr k ↦ listed_behind is_txn (members old) (members more) t k ])

module _ (p : List TxnId → Bool) where
  -- one that has a member is one of two by the test
  pub member_some : (cs : List (List TxnId)) (c : List TxnId) (t : TxnId) → Has c cs → Has t c → p c ≡ true → IsListed is_txn (members (filter p cs)) t
  member_some cs c t h k e = has_listed (members (filter p cs)) t (has_flat_map (λ c. c) t c (filter p cs) (has_filter p c cs h e) k)

  pub some_member : (cs : List (List TxnId)) (t : TxnId) → IsListed is_txn (members (filter p cs)) t → (c : List TxnId) × Has c cs × Has t c × (p c ≡ true)
  some_member cs t l =
      let c = from_has_flat_map (λ c. c) t (filter p cs) (listed_has (members (filter p cs)) t l) in
      let k = from_has_filter p c.0 cs c.1 in
      (c.0, k.0, c.2, k.1)

  pub member_all : (cs : List (List TxnId)) (t : TxnId) → IsListed is_txn (members (filter p cs)) t → IsListed is_txn (members cs) t
  member_all cs t l = let c = some_member cs t l in has_listed (members cs) t (has_flat_map (λ c. c) t c.0 cs c.1 c.2)

  -- no transaction is in two of them, so in none that passes and in one that does not
  pub not_in_two : (cs : List (List TxnId)) → NoneTwice is_txn (members cs) → (c d : List TxnId) (t : TxnId) → Has c cs → Has d cs → Has t c → Has t d → p c ≡ true → p d ≡ false → ⊥
  not_in_two [] once c d t h k m n e f = h
  not_in_two (x ∷ xs) once c d t (inl h) (inl k) m n e f = false≢true (sym f ∙ ap p (k ∙ sym h) ∙ e)
  not_in_two (x ∷ xs) once c d t (inl h) (inr k) m n e f = none_in_both x (members xs) once t (subst (Has t) h m) (has_flat_map (λ c. c) t d xs k n)
  not_in_two (x ∷ xs) once c d t (inr h) (inl k) m n e f = none_in_both x (members xs) once t (subst (Has t) k n) (has_flat_map (λ c. c) t c xs h m)
  not_in_two (x ∷ xs) once c d t (inr h) (inr k) m n e f = not_in_two xs (none_behind x (members xs) once) c d t h k m n e f

  pub members_once : (cs : List (List TxnId)) → NoneTwice is_txn (members cs) → NoneTwice is_txn (members (filter p cs))
  members_once [] once = tt
  members_once (x ∷ xs) once = go (p x) (members_once xs (none_behind x (members xs) once))
    where
      front : (us vs : List TxnId) → NoneTwice is_txn (us ++ vs) → NoneTwice is_txn us
      front [] vs n = tt
      front (u ∷ us) vs n = (λ l. n.0 (has_listed (us ++ vs) u (has_left u us vs (listed_has us u l))), front us vs n.1)

      go : (b : Bool) → NoneTwice is_txn (members (filter p xs)) → NoneTwice is_txn (members (cond b (x ∷ filter p xs) (filter p xs)))
      go false ih = ih
      go true ih =
          NoneTwice-append is_txn is_txn-same x (members (filter p xs)) (front x (members xs) once) ih
          (λ t l k. none_in_both x (members xs) once t (listed_has x t k) (listed_has (members xs) t (member_all xs t l)))
