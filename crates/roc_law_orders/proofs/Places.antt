-- Groups in a list, and those before one of them
use Rattle.std.proofs.Common.{◌≡◌, suc, ◌<◌, min, Bool, true, false, cond, List, [], ◌∷◌, ◌++◌, length, append-nil, refl, sym, ap, subst, ◌∙◌, arith, map, ◌⊎◌, inl, inr}
use Rattle.std.proofs.lemmas.Bool.{cond-true, cond-false, false_from_ne_true, or_left, or_right}
use Rattle.std.specs.List.{AllByRecursion}
use Rattle.roc_sequence.specs.Places.{place_of, IsListed, IsListedBefore, NoneTwice}
use Rattle.roc_sequence.proofs.Appended.{listed_behind}
use Rattle.roc_sequence.proofs.Places.{place_of-here, place_of-there, listed_by_before, listed_cases, same_place}
use Rattle.roc_rows.specs.declared.cell.Cell.{Cell}
use Rattle.roc_rows.specs.Cells.{is_cell}
use Rattle.roc_rows.proofs.CellLaws.{is_cell-same}
use Rattle.roc_law_orders.specs.Behaviour.{TxnGroup, is_txn_group, Use, is_used}
use Rattle.roc_law_orders.proofs.SameGroups.{same_group, is_group-same}
use Rattle.roc_law_orders.specs.Runs.{groups_before}

-- two that stand at one place are one
pub one_place : (Q : List TxnGroup) (a b : TxnGroup) → IsListed is_txn_group Q a → place_of (is_txn_group a) Q ≡ place_of (is_txn_group b) Q → a ≡ b
one_place Q a b h e = same_place is_txn_group same_group Q a b h e

-- what is in the rest and is not the head
pub away : (Q : List TxnGroup) (p q : TxnGroup) → ¬ IsListed is_txn_group Q p → IsListed is_txn_group Q q → is_txn_group q p ≡ false
away Q p q n h = false_from_ne_true (is_txn_group q p) (λ e. n (subst (IsListed is_txn_group Q) (same_group q p e) h))

-- what is in a list is its head or in the rest
pub in_cases : (Q : List TxnGroup) (p q : TxnGroup) → IsListed is_txn_group (p ∷ Q) q → (q ≡ p) ⊎ ((is_txn_group q p ≡ false) × IsListed is_txn_group Q q)
in_cases Q p q h = elim (listed_cases is_txn_group p Q q h) [ inl e ↦ inl (same_group q p e) | inr k ↦ inr k ]

-- ---- those before one of them

pub length_before : (Q : List TxnGroup) (r : TxnGroup) → length (groups_before r Q) ≡ place_of (is_txn_group r) Q
length_before [] r = refl
length_before (q ∷ Q) r = elim (is_txn_group r q) as (λ b. length (cond b [] (q ∷ groups_before r Q)) ≡ cond b 0 (suc (place_of (is_txn_group r) Q))) [ true ↦ refl | false ↦ ap suc (length_before Q r) ]

pub place_before : (Q : List TxnGroup) (r a : TxnGroup) → place_of (is_txn_group a) (groups_before r Q) ≡ min (place_of (is_txn_group a) Q) (place_of (is_txn_group r) Q)
place_before [] r a = omega arith
place_before (q ∷ Q) r a =
    let ih = place_before Q r a in
    elim (is_txn_group r q) as (λ b. place_of (is_txn_group a) (cond b [] (q ∷ groups_before r Q)) ≡ min (cond (is_txn_group a q) 0 (suc (place_of (is_txn_group a) Q))) (cond b 0 (suc (place_of (is_txn_group r) Q)))) [
      | true ↦ omega arith
      | false ↦ elim (is_txn_group a q) as (λ s. cond s 0 (suc (place_of (is_txn_group a) (groups_before r Q))) ≡ min (cond s 0 (suc (place_of (is_txn_group a) Q))) (suc (place_of (is_txn_group r) Q))) [ true ↦ omega arith | false ↦ omega arith ]
    ]

pub listed_before : (Q : List TxnGroup) (r a : TxnGroup) → IsListedBefore is_txn_group Q a r → IsListed is_txn_group (groups_before r Q) a
listed_before Q r a h = omega (arith, place_before Q r a, length_before Q r)

pub from_before : (Q : List TxnGroup) (r a : TxnGroup) → IsListed is_txn_group (groups_before r Q) a → IsListedBefore is_txn_group Q a r
from_before Q r a h = omega (arith, place_before Q r a, length_before Q r)

-- those before one that is before another
pub before_before : (Q : List TxnGroup) (r a : TxnGroup) → IsListedBefore is_txn_group Q a r → groups_before a (groups_before r Q) ≡ groups_before a Q
before_before [] r a h = refl
before_before (q ∷ Q) r a h = go (is_txn_group r q) h (before_before Q r a)
  where
    go : (s : Bool) → place_of (is_txn_group a) (q ∷ Q) < cond s 0 (suc (place_of (is_txn_group r) Q))
        → (IsListedBefore is_txn_group Q a r → groups_before a (groups_before r Q) ≡ groups_before a Q)
        → groups_before a (cond s [] (q ∷ groups_before r Q)) ≡ groups_before a (q ∷ Q)
    go true l ih = absurd (omega arith)
    go false l ih =
        (elim (is_txn_group a q) as (λ t. cond t 0 (suc (place_of (is_txn_group a) Q)) < suc (place_of (is_txn_group r) Q) → cond t [] (q ∷ groups_before a (groups_before r Q)) ≡ cond t [] (q ∷ groups_before a Q)) [
          | true ↦ λ m. refl
          | false ↦ λ m. ap (λ xs. q ∷ xs) (ih (omega arith))
        ]) l

pub before_itself : (Q : List TxnGroup) (p : TxnGroup) → groups_before p (p ∷ Q) ≡ []
before_itself Q p = cond-true (is_txn_group p p) [] (p ∷ groups_before p Q) (is_group-same p)

pub before_next : (Q : List TxnGroup) (p q : TxnGroup) → is_txn_group q p ≡ false → groups_before q (p ∷ Q) ≡ p ∷ groups_before q Q
before_next Q p q h = cond-false (is_txn_group q p) [] (p ∷ groups_before q Q) h

pub none_twice_before : (Q : List TxnGroup) (r : TxnGroup) → NoneTwice is_txn_group Q → NoneTwice is_txn_group (groups_before r Q)
none_twice_before [] r h = tt
none_twice_before (q ∷ Q) r h =
    elim (is_txn_group r q) as (λ b. NoneTwice is_txn_group (cond b [] (q ∷ groups_before r Q))) [
      | true ↦ tt
      | false ↦ (λ i. h.0 (listed_by_before is_txn_group Q q r (from_before Q r q i)), none_twice_before Q r h.1)
    ]

-- ---- lists made of others

pub map_same : {X Y : Type 0} (f g : X → Y) (xs : List X) → AllByRecursion (λ x. f x ≡ g x) xs → map f xs ≡ map g xs
map_same f g [] h = refl
map_same f g (x ∷ xs) h = λ i. h.0 i ∷ map_same f g xs h.1 i

-- functions that agree at each cell used give one list of values
pub map_used : {Y : Type 0} (f g : Cell → Y) (uses : List Use) → ((x : Cell) → is_used x uses ≡ true → f x ≡ g x) → map (λ u. f u.cell) uses ≡ map (λ u. g u.cell) uses
map_used f g [] h = refl
map_used f g (u ∷ uses) h =
    let e = h u.cell (or_left (is_cell u.cell u.cell) (is_used u.cell uses) (is_cell-same u.cell)) in
    let es = map_used f g uses (λ x k. h x (or_right (is_cell u.cell x) (is_used x uses) k)) in
    λ i. e i ∷ es i

-- ---- of a list with more behind it

pub before_appended : (Q T : List TxnGroup) (r : TxnGroup) → IsListed is_txn_group Q r → groups_before r (Q ++ T) ≡ groups_before r Q
before_appended [] T r h = absurd (omega arith)
before_appended (q ∷ Q) T r h = go (is_txn_group r q) h (before_appended Q T r)
  where
    go : (b : Bool) → cond b 0 (suc (place_of (is_txn_group r) Q)) < suc (length Q) → (IsListed is_txn_group Q r → groups_before r (Q ++ T) ≡ groups_before r Q)
        → cond b [] (q ∷ groups_before r (Q ++ T)) ≡ cond b [] (q ∷ groups_before r Q)
    go true l ih = refl
    go false l ih = ap (λ xs. q ∷ xs) (ih (omega arith))

pub before_past : (Q T : List TxnGroup) (r : TxnGroup) → ¬ IsListed is_txn_group Q r → groups_before r (Q ++ T) ≡ Q ++ groups_before r T
before_past [] T r n = refl
before_past (q ∷ Q) T r n = go (is_txn_group r q) refl (before_past Q T r)
  where
    go : (b : Bool) → is_txn_group r q ≡ b → (¬ IsListed is_txn_group Q r → groups_before r (Q ++ T) ≡ Q ++ groups_before r T) → cond b [] (q ∷ groups_before r (Q ++ T)) ≡ q ∷ (Q ++ groups_before r T)
    go true e ih = absurd (n (let f = place_of-here (is_txn_group r) q Q e in omega arith))
    go false e ih = ap (λ xs. q ∷ xs) (ih (λ i. n (let f = place_of-there (is_txn_group r) q Q e in omega arith)))

pub before_absent : (Q : List TxnGroup) (r : TxnGroup) → ¬ IsListed is_txn_group Q r → groups_before r Q ≡ Q
before_absent Q r n = ap (groups_before r) (sym (append-nil Q)) ∙ (before_past Q [] r n ∙ append-nil Q)

pub apart : (Q T : List TxnGroup) (r : TxnGroup) → NoneTwice is_txn_group (Q ++ T) → IsListed is_txn_group Q r → ¬ IsListed is_txn_group T r
apart [] T r n h = absurd (omega arith)
apart (q ∷ Q) T r n h =
    elim (in_cases Q q r h) [
      | inl e ↦ λ i. n.0 (subst (IsListed is_txn_group (Q ++ T)) e (listed_behind is_txn_group Q T r i))
      | inr f ↦ apart Q T r n.1 f.1
    ]
