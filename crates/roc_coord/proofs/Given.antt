-- The ids that a coordinator has given, and the next one
use Rattle.std.proofs.Common.{◌≡◌, ◌+◌, ◌<◌, ℕ, List, [], ◌∷◌, ◌++◌, IsTrue, refl, arith, true, Bool, false, cond, not, filter, map, ap, sym, subst, ◌∙◌}
use Rattle.std.proofs.lemmas.Bool.Decides.{nat_tests}
use Rattle.std.proofs.lemmas.List.{map-append}
use Rattle.std.specs.List.{AllByRecursion}
use Rattle.roc_sequence.proofs.Rising.{rising_more, rising_filter}
use Rattle.roc_base.specs.declared.id.TxnId.{TxnId}
use Rattle.roc_base.specs.TxnId.{is_txn, txn_lt}
use Rattle.roc_coord.specs.Inner.Given.{AreGiven, AreOwn}

txn_lt-seq : (a b : TxnId) → a.coord ≡ b.coord → a.seq < b.seq → txn_lt a b ≡ true
txn_lt-seq a b e l = grind (arith, nat_tests)

-- each comes before the next one
given_below : (id : TxnId) (ids : List TxnId) → AreGiven id.coord id.seq ids → AllByRecursion (λ earlier. IsTrue (txn_lt earlier id)) ids
given_below id [] h = tt
given_below id (x ∷ ids) h = (txn_lt-seq x id h.0.own h.0.past, given_below id ids h.1)

-- the next one given
given_push : (id : TxnId) (ids : List TxnId) → AreGiven id.coord id.seq ids → AreGiven id.coord (id.seq + 1) (ids ++ id ∷ [])
given_push id [] h = (record { own = refl; past = omega arith }, tt)
given_push id (x ∷ ids) h = (record { own = h.0.own; past = let l = h.0.past in omega arith }, given_push id ids h.1)

given_later : (number next : ℕ) (ids : List TxnId) → AreGiven number next ids → AreGiven number (next + 1) ids
given_later number next [] h = tt
given_later number next (x ∷ ids) h = (record { own = h.0.own; past = let l = h.0.past in omega arith }, given_later number next ids h.1)

given_filter : (p : TxnId → Bool) (number next : ℕ) (ids : List TxnId) → AreGiven number next ids → AreGiven number next (filter p ids)
given_filter p number next [] h = tt
given_filter p number next (x ∷ ids) h =
    let rest = given_filter p number next ids h.1 in
    elim (p x) as (λ b. AreGiven number next (cond b (x ∷ filter p ids) (filter p ids))) [ true ↦ (h.0, rest) | false ↦ rest ]

pub own_push : (id : TxnId) (ids : List TxnId) → AreOwn id.coord id.seq ids → AreOwn id.coord (id.seq + 1) (ids ++ id ∷ [])
own_push id ids h = record { given = given_push id ids h.given; rising = rising_more txn_lt id ids h.rising (given_below id ids h.given) }

pub own_later : (number next : ℕ) (ids : List TxnId) → AreOwn number next ids → AreOwn number (next + 1) ids
own_later number next ids h = record { given = given_later number next ids h.given; rising = h.rising }

pub own_filter : (p : TxnId → Bool) (number next : ℕ) (ids : List TxnId) → AreOwn number next ids → AreOwn number next (filter p ids)
own_filter p number next ids h = record { given = given_filter p number next ids h.given; rising = rising_filter txn_lt p ids h.rising }

-- the same of the ids of what is kept
module _ {X : Type 0} (id_of : X → TxnId) where
  pub own_item : (id : TxnId) (xs : List X) (x : X) → id_of x ≡ id → AreOwn id.coord id.seq (map id_of xs) → AreOwn id.coord (id.seq + 1) (map id_of (xs ++ x ∷ []))
  own_item id xs x e h =
      let add : TxnId → List TxnId = λ v. map id_of xs ++ v ∷ [] in
      subst (AreOwn id.coord (id.seq + 1)) (sym (map-append id_of xs (x ∷ []) ∙ ap add e)) (own_push id (map id_of xs) h)

  filter_ids : (id : TxnId) (xs : List X) → map id_of (filter (λ x. not (is_txn (id_of x) id)) xs) ≡ filter (λ u. not (is_txn u id)) (map id_of xs)
  filter_ids id [] = refl
  filter_ids id (x ∷ xs) =
      let rest = filter_ids id xs in
      let kept = filter (λ y. not (is_txn (id_of y) id)) xs in
      let others = filter (λ u. not (is_txn u id)) (map id_of xs) in
      elim (not (is_txn (id_of x) id)) as (λ b. map id_of (cond b (x ∷ kept) kept) ≡ cond b (id_of x ∷ others) others) [ true ↦ ap (λ ids. id_of x ∷ ids) rest | false ↦ rest ]

  pub own_without : (id : TxnId) (number next : ℕ) (xs : List X) → AreOwn number next (map id_of xs) → AreOwn number next (map id_of (filter (λ x. not (is_txn (id_of x) id)) xs))
  own_without id number next xs h = subst (AreOwn number next) (sym (filter_ids id xs)) (own_filter (λ u. not (is_txn u id)) number next (map id_of xs) h)
