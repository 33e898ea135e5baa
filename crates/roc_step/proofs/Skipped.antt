-- Entries that fail a test, left out of a union
use Rattle.std.proofs.Common.{◌≡◌, Bool, true, false, not, ◌&&◌, cond, List, [], ◌∷◌, ◌++◌, Option, Some, None, filter, refl, sym, ap, ◌∙◌, inl, inr}
use Rattle.std.proofs.lemmas.Bool.{false≢true}
use Rattle.std.specs.List.{AllByRecursion}
use Rattle.roc_sequence.specs.Lists.{Has}
use Rattle.roc_sequence.proofs.Members.{has_filter}
use Rattle.roc_sequence.proofs.Found.{found_has}
use Rattle.roc_base.specs.TxnId.{is_txn, txn_lt}
use Rattle.roc_base.specs.Equalities.{is_txn-true, is_txn-same}
use Rattle.roc_base.specs.Edge.{Dependency, joined}
use Rattle.roc_base.specs.Edges.{united, unite_one, entry_at, all_of, joined_with}
use Rattle.roc_base.proofs.Union.{entry_at-united}

-- ---- tests

-- a test that fails as each of its three reasons goes on to hold
pub left_still : (a b c d e f : Bool) → (a ≡ true → d ≡ true) → (b ≡ true → e ≡ true) → (c ≡ true → f ≡ true) → (not a && (not b && not c)) ≡ false → (not d && (not e && not f)) ≡ false
left_still true b c d e f x y z h = ap (λ (t : Bool). not t && (not e && not f)) (x refl)
left_still false true c true e f x y z h = refl
left_still false true c false e f x y z h = ap (λ (t : Bool). not t && not f) (y refl)
left_still false false true true e f x y z h = refl
left_still false false true false true f x y z h = refl
left_still false false true false false f x y z h = ap not (z refl)
left_still false false false d e f x y z h = absurd (false≢true (sym h))

pub left_by_third : (a b c : Bool) → c ≡ true → (not a && (not b && not c)) ≡ false
left_by_third true b c e = refl
left_by_third false true c e = refl
left_by_third false false c e = ap not e

-- ---- entries that are left out of a union

-- a test of an entry's transaction alone
abbrev pub IsOfId : (Dependency → Bool) → Type 0
IsOfId p = (a b : Dependency) → a.from ≡ b.from → p a ≡ p b

module _ (p : Dependency → Bool) (of_id : IsOfId p) where
  filter_skip : (x : Dependency) (xs : List Dependency) → p x ≡ false → filter p (x ∷ xs) ≡ filter p xs
  filter_skip x xs e = ap (λ b. cond b (x ∷ filter p xs) (filter p xs)) e

  one_skipped : (e : Dependency) → p e ≡ false → (xs : List Dependency) → filter p (unite_one e xs) ≡ filter p xs
  one_skipped e n [] = filter_skip e [] n
  one_skipped e n (x ∷ xs) = same (one_skipped e n xs) (is_txn e.from x.from) refl
    where
      here : is_txn e.from x.from ≡ true → filter p (joined e x ∷ xs) ≡ filter p (x ∷ xs)
      here h =
          let none : p x ≡ false = of_id x e (sym (is_txn-true e.from x.from h)) ∙ n in
          filter_skip (joined e x) xs (of_id (joined e x) e refl ∙ n) ∙ sym (filter_skip x xs none)

      other : filter p (unite_one e xs) ≡ filter p xs → (b : Bool) → txn_lt e.from x.from ≡ b → filter p (cond b (e ∷ x ∷ xs) (x ∷ unite_one e xs)) ≡ filter p (x ∷ xs)
      other rest true h = filter_skip e (x ∷ xs) n
      other rest false h = ap (λ ys. cond (p x) (x ∷ ys) ys) rest

      same : filter p (unite_one e xs) ≡ filter p xs → (b : Bool) → is_txn e.from x.from ≡ b → filter p (cond b (joined e x ∷ xs) (cond (txn_lt e.from x.from) (e ∷ x ∷ xs) (x ∷ unite_one e xs))) ≡ filter p (x ∷ xs)
      same rest true h = here h
      same rest false h = other rest (txn_lt e.from x.from) refl

  pub all_skipped : (xs ys : List Dependency) → AllByRecursion (λ d. p d ≡ false) xs → filter p (united (xs ++ ys)) ≡ filter p (united ys)
  all_skipped [] ys h = refl
  all_skipped (x ∷ xs) ys h = one_skipped x h.0 (united (xs ++ ys)) ∙ all_skipped xs ys h.1

  -- an entry that passes has one of its transaction in the union, which passes
  pub passed : (es : List Dependency) (d : Dependency) → Has d es → p d ≡ true → (u : Dependency) × Has u (filter p (united es)) × (u.from ≡ d.from)
  passed es d h t = go (entry_at d.from (united es)) refl
    where
      named : (xs : List Dependency) → Has d xs → (e : Dependency) × (all_of d.from xs ≡ Some e)
      named [] h = absurd h
      named (x ∷ xs) (inl e) = (joined_with x (all_of d.from xs), ap (λ b. cond b (Some (joined_with x (all_of d.from xs))) (all_of d.from xs)) (ap (λ y. is_txn y.from d.from) (sym e) ∙ is_txn-same d.from))
      named (x ∷ xs) (inr k) = elim (is_txn x.from d.from) as (λ b. (e : Dependency) × (cond b (Some (joined_with x (all_of d.from xs))) (all_of d.from xs) ≡ Some e)) [ true ↦ (joined_with x (all_of d.from xs), refl) | false ↦ named xs k ]

      go : (o : Option Dependency) → entry_at d.from (united es) ≡ o → (u : Dependency) × Has u (filter p (united es)) × (u.from ≡ d.from)
      go None e = let k = named es h in absurd (none_some k.0 (sym e ∙ entry_at-united d.from es ∙ k.1))
        where
          none_some : (x : Dependency) → None ≡ Some x → ⊥
          none_some x e = cc
      go (Some u) e =
          let f = found_has (λ x. is_txn x.from d.from) (united es) u e in
          let same : u.from ≡ d.from = is_txn-true u.from d.from f.1 in
          (u, has_filter p u (united es) f.0 (of_id u d same ∙ t), same)
