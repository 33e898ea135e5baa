-- Pieces of groups in turn are the procedure's pieces in another order, in which none passes one that touches what it touches
use Rattle.std.proofs.Common.{◌≡◌, ℕ, suc, ◌<◌, Bool, true, false, cond, ◌==◌, List, [], ◌∷◌, ◌++◌, length, refl, sym, subst, ◌∙◌, ◌⊎◌, inl, inr, arith}
use Rattle.std.specs.Bool.{nat_lt}
use Rattle.std.specs.List.{AllByRecursion, list_any, flat_map}
use Rattle.std.proofs.lemmas.Bool.{false≢true, eq-eqb, eqb-true, ltb-true}
use Rattle.roc_plan.proofs.Ordered.{is_number}
use Rattle.roc_sequence.specs.Lists.{Has}
use Rattle.roc_sequence.specs.Places.{place_of, IsListed, IsListedBefore, NoneTwice}
use Rattle.roc_sequence.specs.Rising.{IsRising}
use Rattle.roc_sequence.proofs.Holds.{all_has, has_all, any_has, has_any}
use Rattle.roc_sequence.proofs.Members.{from_has_flat_map}
use Rattle.roc_rows.specs.declared.cell.Cell.{Cell}
use Rattle.roc_program.specs.Program.{Piece}
use Rattle.roc_program.specs.Conflict.{collide, conflict}
use Rattle.roc_group.proofs.Touches.{accesses, may_write, touches, writes, not_true}
use Rattle.roc_group.proofs.Covered.{collides}
use Rattle.roc_law_groups.proofs.Commuting.{AreIndependent}
use Rattle.roc_law_groups.proofs.Sorting.{MayStand}

-- ---- pieces that do not conflict touch different columns

pub conflict_of : (x y : Piece) (c : Cell) → writes x c ≡ true → touches y c ≡ true → conflict x y ≡ true
conflict_of x y c w t =
    let s = any_has (λ s. may_write s c) x.body w in
    let u = any_has (λ s. accesses s c) y.body t in
    has_any (λ s. list_any (collide s) y.body) x.body s.0 s.1 (has_any (collide s.0) y.body u.0 u.1 (collides c s.0 u.0 s.2 u.2))

-- ---- one before another

-- h stands behind g
abbrev pub IsBehind : List ℕ → (g h : ℕ) → Type 0
IsBehind [] g h = ⊥
IsBehind (o ∷ os) g h = ((g ≡ o) × Has h os) ⊎ IsBehind os g h

pub listed_has : (xs : List ℕ) (a : ℕ) → Has a xs → IsListed is_number xs a
listed_has [] a h = absurd h
listed_has (x ∷ xs) a h = go (a == x) refl h (listed_has xs a)
  where
    go : (b : Bool) → (a == x) ≡ b → Has a (x ∷ xs) → (Has a xs → IsListed is_number xs a) → cond b 0 (suc (place_of (is_number a) xs)) < suc (length xs)
    go true e k ih = omega arith
    go false e (inl k) ih = absurd (false≢true (sym e ∙ eq-eqb a x k))
    go false e (inr k) ih = let l = ih k in omega (arith, l)

pub has_listed : (xs : List ℕ) (a : ℕ) → IsListed is_number xs a → Has a xs
has_listed [] a l = absurd (omega (arith, l))
has_listed (x ∷ xs) a l = go (a == x) refl l (has_listed xs a)
  where
    go : (b : Bool) → (a == x) ≡ b → cond b 0 (suc (place_of (is_number a) xs)) < suc (length xs) → (IsListed is_number xs a → Has a xs) → Has a (x ∷ xs)
    go true e l ih = inl (eqb-true a x e)
    go false e l ih = inr (ih (omega (arith, l)))

pub behind_first : (xs : List ℕ) (g h : ℕ) → IsBehind xs g h → Has g xs
behind_first [] g h b = absurd b
behind_first (o ∷ os) g h (inl b) = inl b.0
behind_first (o ∷ os) g h (inr b) = inr (behind_first os g h b)

pub behind_second : (xs : List ℕ) (g h : ℕ) → IsBehind xs g h → Has h xs
behind_second [] g h b = absurd b
behind_second (o ∷ os) g h (inl b) = inr b.1
behind_second (o ∷ os) g h (inr b) = inr (behind_second os g h b)

pub before_by_places : (xs : List ℕ) (g h : ℕ) → NoneTwice is_number xs → IsBehind xs g h → IsListedBefore is_number xs g h
before_by_places [] g h once b = absurd b
before_by_places (o ∷ os) g h once (inl b) = go (g == o) refl (h == o) refl
  where
    go : (s : Bool) → (g == o) ≡ s → (t : Bool) → (h == o) ≡ t → cond s 0 (suc (place_of (is_number g) os)) < cond t 0 (suc (place_of (is_number h) os))
    go true e false f = omega arith
    go true e true f = absurd (once.0 (subst (λ x. IsListed is_number os x) (eqb-true h o f) (listed_has os h b.1)))
    go false e t f = absurd (false≢true (sym e ∙ eq-eqb g o b.0))
before_by_places (o ∷ os) g h once (inr b) = go (g == o) refl (h == o) refl (before_by_places os g h once.1 b)
  where
    go : (s : Bool) → (g == o) ≡ s → (t : Bool) → (h == o) ≡ t → IsListedBefore is_number os g h → cond s 0 (suc (place_of (is_number g) os)) < cond t 0 (suc (place_of (is_number h) os))
    go true e t f l = absurd (once.0 (subst (λ x. IsListed is_number os x) (eqb-true g o e) (listed_has os g (behind_first os g h b))))
    go false e true f l = absurd (once.0 (subst (λ x. IsListed is_number os x) (eqb-true h o f) (listed_has os h (behind_second os g h b))))
    go false e false f l = omega (arith, l)

-- ---- pieces of groups in turn

module _ (at : ℕ → Piece) where
  -- what is asked of a piece x that comes behind y
  abbrev pub MayFollow : (y x : ℕ) → Type 0
  MayFollow y x = ((x == y) ≡ false) × (x < y → AreIndependent (at x) (at y))

  stand_in : (ks : List ℕ) → IsRising nat_lt ks → MayStand at ks
  stand_in [] r = tt
  stand_in (k ∷ ks) r =
      (has_all (MayFollow k) ks (λ x h. let l : k < x = ltb-true k x (all_has (λ z. nat_lt k z ≡ true) x ks r.0 h) in (not_true (x == k) (λ e. let s : x ≡ k = eqb-true x k e in absurd (omega (arith, l, s))), λ less. absurd (omega (arith, l, less)))), stand_in ks r.1)

  all_of_append : (P : ℕ → Type 0) (xs ys : List ℕ) → AllByRecursion P xs → AllByRecursion P ys → AllByRecursion P (xs ++ ys)
  all_of_append P [] ys h k = k
  all_of_append P (x ∷ xs) ys h k = (h.0, all_of_append P xs ys h.1 k)

  stand_append : (xs ys : List ℕ) → MayStand at xs → MayStand at ys → ((y x : ℕ) → Has y xs → Has x ys → MayFollow y x) → MayStand at (xs ++ ys)
  stand_append [] ys m n f = n
  stand_append (x ∷ xs) ys m n f = (all_of_append (MayFollow x) xs ys m.0 (has_all (MayFollow x) ys (λ z h. f x z (inl refl) h)), stand_append xs ys m.1 n (λ y z i j. f y z (inr i) j))

  pub stand_all : (pieces : ℕ → List ℕ) (order : List ℕ) → ((g : ℕ) → IsRising nat_lt (pieces g)) → ((g h : ℕ) → IsBehind order g h → (y x : ℕ) → Has y (pieces g) → Has x (pieces h) → MayFollow y x) → MayStand at (flat_map pieces order)
  stand_all pieces [] rising cross = tt
  stand_all pieces (g ∷ gs) rising cross =
      stand_append (pieces g) (flat_map pieces gs) (stand_in (pieces g) (rising g)) (stand_all pieces gs rising (λ h k b. cross h k (inr b)))
      (λ y x i j. let r = from_has_flat_map pieces x gs j in cross g r.0 (inl (refl, r.1)) y x i r.2)
