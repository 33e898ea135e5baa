-- One among others that have rising ids: its place, what a change there leaves, and the others without it
use Rattle.std.proofs.Common.{◌≡◌, ℕ, zero, suc, ◌<◌, Bool, true, false, cond, nat_lt, List, [], ◌∷◌, length, get_or, set, map, Some, None, IsTrue, refl, sym, ap, subst, ◌∙◌, arith}
use Rattle.std.proofs.lemmas.Bool.{ltb-true}
use Rattle.std.proofs.Math.Seq.{map-set_same}
use Rattle.std.proofs.lemmas.List.Folds.{find_at}
use Rattle.std.proofs.lemmas.Option.{slice_get-get_or}
use Rattle.std.specs.List.{find, filter, position, position_or_len, AllByRecursion}
use Rattle.roc_base.specs.declared.id.TxnId.{TxnId}
use Rattle.roc_base.specs.TxnId.{is_txn, txn_lt}
use Rattle.roc_base.proofs.Ids.{is_txn-eq, is_txn-swap, txn_lt-ne}
use Rattle.roc_sequence.specs.Rising.{IsRising}
use Rattle.roc_sequence.proofs.Found.{found_passes}

-- ---- the place of the first element that passes a test

pub record IsPlaceOf {X : Type 0} (p : X → Bool) (xs : List X) (i : ℕ) : Type 0 where
  pub within : i < length xs
  pub found : (d : X) → find p xs ≡ Some (get_or xs i d)
  pub passes : (d : X) → p (get_or xs i d) ≡ true

pub place_found : {X : Type 0} (p : X → Bool) (xs : List X) (i : ℕ) → position p xs ≡ Some i → IsPlaceOf p xs i
place_found {X} p xs i h = go (nat_lt (position_or_len p xs) (length xs)) refl h
  where
    at_place : position_or_len p xs < length xs → IsPlaceOf p xs (position_or_len p xs)
    at_place l =
        let found : (d : X) → find p xs ≡ Some (get_or xs (position_or_len p xs) d) = λ d. find_at p xs ∙ slice_get-get_or xs (position_or_len p xs) d l in
        record { within = l; found = found; passes = λ d. found_passes p xs (get_or xs (position_or_len p xs) d) (found d) }

    go : (b : Bool) → nat_lt (position_or_len p xs) (length xs) ≡ b → cond b (Some (position_or_len p xs)) None ≡ Some i → IsPlaceOf p xs i
    go true e f = let same : position_or_len p xs ≡ i = cc in subst (IsPlaceOf p xs) same (at_place (ltb-true _ _ e))
    go false e f = cc

-- where a test fails for the element at a place and for another one there, it leaves the same
pub filter-set : {X : Type 0} (p : X → Bool) (xs : List X) (i : ℕ) (y d : X) → i < length xs → p (get_or xs i d) ≡ false → p y ≡ false → filter p (set xs i y) ≡ filter p xs
filter-set p [] i y d l e f = refl
filter-set p (x ∷ xs) zero y d l e f =
    ap (λ b. cond b (y ∷ filter p xs) (filter p xs)) f ∙ sym (ap (λ b. cond b (x ∷ filter p xs) (filter p xs)) e)
filter-set p (x ∷ xs) (suc i) y d l e f = ap (λ ys. cond (p x) (x ∷ ys) ys) (filter-set p xs i y d (omega arith) e f)

-- what stood there is put there again
pub set-same : {X : Type 0} (xs : List X) (i : ℕ) (x y : X) → x ≡ get_or xs i x → y ≡ x → set xs i y ≡ xs
set-same [] i x y e f = refl
set-same (z ∷ zs) zero x y e f = ap (λ v. v ∷ zs) (f ∙ e)
set-same (z ∷ zs) (suc i) x y e f = ap (λ vs. z ∷ vs) (set-same zs i x y e f)

-- ---- a change at one place, among elements of rising ids

-- an id comes before all of these
abbrev pub IsBelowAll : TxnId → List TxnId → Type 0
IsBelowAll id ids = AllByRecursion (λ later. IsTrue (txn_lt id later)) ids

module _ {X : Type 0} (id_of : X → TxnId) where
  -- of ids that come behind, none is the id
  none_is : (id : TxnId) (x : X) → txn_lt id (id_of x) ≡ true → is_txn (id_of x) id ≡ false
  none_is id x h = is_txn-swap (id_of x) id ∙ txn_lt-ne id (id_of x) h

  unchanged : (x : X) (ys : List X) → IsBelowAll (id_of x) (map id_of ys) → map (λ y. cond (is_txn (id_of y) (id_of x)) x y) ys ≡ ys
  unchanged x [] h = refl
  unchanged x (y ∷ ys) h =
      let head : Bool → List X = λ b. cond b x y ∷ map (λ v. cond (is_txn (id_of v) (id_of x)) x v) ys in
      ap head (none_is (id_of x) y h.0) ∙ ap (λ vs. y ∷ vs) (unchanged x ys h.1)

  -- an earlier element is not the one at a place behind it
  not_before : (y : X) (ys : List X) (i : ℕ) (d : X) (id : TxnId) → IsBelowAll (id_of y) (map id_of ys) → i < length ys → id_of (get_or ys i d) ≡ id → is_txn (id_of y) id ≡ false
  not_before y [] i d id h l e = absurd (omega arith)
  not_before y (z ∷ zs) zero d id h l e = subst (λ v. is_txn (id_of y) v ≡ false) e (txn_lt-ne (id_of y) (id_of z) h.0)
  not_before y (z ∷ zs) (suc i) d id h l e = not_before y zs i d id h.1 (omega arith) e

  pub replaced : (xs : List X) (i : ℕ) (x d : X) → IsRising txn_lt (map id_of xs) → i < length xs → id_of (get_or xs i d) ≡ id_of x → map (λ y. cond (is_txn (id_of y) (id_of x)) x y) xs ≡ set xs i x
  replaced [] i x d h l e = absurd (omega arith)
  replaced (y ∷ ys) zero x d h l e =
      let head : Bool → List X = λ b. cond b x y ∷ map (λ v. cond (is_txn (id_of v) (id_of x)) x v) ys in
      let is_below : TxnId → Type 0 = λ id. IsBelowAll id (map id_of ys) in
      ap head (is_txn-eq (id_of y) (id_of x) e) ∙ ap (λ vs. x ∷ vs) (unchanged x ys (subst is_below e h.0))
  replaced (y ∷ ys) (suc i) x d h l e =
      let head : Bool → List X = λ b. cond b x y ∷ map (λ v. cond (is_txn (id_of v) (id_of x)) x v) ys in
      ap head (not_before y ys i d (id_of x) h.0 (omega arith) e) ∙ ap (λ vs. y ∷ vs) (replaced ys i x d h.1 (omega arith) e)

  -- the ids stay
  pub same_ids : (xs : List X) (i : ℕ) (x y : X) → x ≡ get_or xs i x → id_of y ≡ id_of x → map id_of (set xs i y) ≡ map id_of xs
  same_ids xs i x y is e = map-set_same id_of xs i y x (e ∙ ap id_of is)
