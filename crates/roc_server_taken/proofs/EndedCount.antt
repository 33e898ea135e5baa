-- How many components are looked at: no more than have an ended member
use Rattle.std.proofs.Common.{◌≡◌, ◌≤◌, ◌+◌, ℕ, suc, Bool, true, false, cond, List, [], ◌∷◌, length, map, filter, refl, sym, ap, ◌∙◌, arith}
use Rattle.std.proofs.lemmas.Bool.{and_parts, false≢true}
use Rattle.std.proofs.lemmas.Bool.Decides.{nat_tests}
use Rattle.std.specs.Prelude.{◌==◌, ◌&&◌, ◌||◌, nat_lt}
use Rattle.std.specs.List.{list_any, AllByRecursion}
use Rattle.roc_sequence.specs.Lists.{Has}
use Rattle.roc_sequence.proofs.Holds.{has_any}
use Rattle.roc_base.specs.declared.id.TxnId.{TxnId}
use Rattle.roc_server_taken.specs.declared.components.Component.{Component}
use Rattle.roc_step.specs.Below.{is_ended}
use Rattle.roc_server_taken.specs.Inner.Over.{by_turn, is_under_lower, is_under, members_by_turn, put_turned, turned_component, TurnedComponent}

-- ---- coordinator by coordinator

module _ (below : List ℕ) where
  pub none_lower : (cs : List Component) → length (filter (is_under_lower below 0) cs) ≡ 0
  none_lower [] = refl
  none_lower (c ∷ cs) = go (is_ended below c.under) (nat_lt c.under.coord 0) (grind (arith, nat_tests)) (none_lower cs)
    where
      go : (e a : Bool) → a ≡ false → length (filter (is_under_lower below 0) cs) ≡ 0 → length (cond (e && a) (c ∷ filter (is_under_lower below 0) cs) (filter (is_under_lower below 0) cs)) ≡ 0
      go false a f h = h
      go true false f h = h
      go true true f h = absurd (false≢true (sym f))

  either : (a k : ℕ) → nat_lt a (k + 1) ≡ (nat_lt a k || a == k)
  either a k = grind (arith, nat_tests)

  not_both : (a k : ℕ) → (nat_lt a k && a == k) ≡ false
  not_both a k = grind (arith, nat_tests)

  pub lower_next : (k : ℕ) (cs : List Component) → length (filter (is_under_lower below (k + 1)) cs) ≡ length (filter (is_under_lower below k) cs) + length (filter (is_under below k) cs)
  lower_next k [] = refl
  lower_next k (c ∷ cs) =
      go (is_ended below c.under) (nat_lt c.under.coord k) (c.under.coord == k) (nat_lt c.under.coord (k + 1)) (either c.under.coord k) (not_both c.under.coord k) (lower_next k cs)
    where
      go : (e a b d : Bool) → d ≡ (a || b) → (a && b) ≡ false → length (filter (is_under_lower below (k + 1)) cs)
          ≡ length (filter (is_under_lower below k) cs) + length (filter (is_under below k) cs)
          → length (cond (e && d) (c ∷ filter (is_under_lower below (k + 1)) cs) (filter (is_under_lower below (k + 1)) cs))
          ≡ length (cond (e && a) (c ∷ filter (is_under_lower below k) cs) (filter (is_under_lower below k) cs))
          + length (cond (b && e) (c ∷ filter (is_under below k) cs) (filter (is_under below k) cs))
      go e true true d is both h = absurd (false≢true (sym both))
      go false true false d is both h = h
      go false false true d is both h = h
      go false false false d is both h = h
      go true true false true is both h = omega (arith, h)
      go true false true true is both h = omega (arith, h)
      go true false false false is both h = h
      go true true false false is both h = absurd (false≢true is)
      go true false true false is both h = absurd (false≢true is)
      go true false false true is both h = absurd (false≢true (sym is))

  -- ---- each of them has an ended member

  pub lower_within : (k : ℕ) (cs : List Component) → AllByRecursion (λ (c : Component). Has c.under c.members) cs
      → length (filter (is_under_lower below k) cs) ≤ length (filter (λ (c : Component). list_any (is_ended below) c.members) cs)
  lower_within k [] among = omega arith
  lower_within k (c ∷ cs) among =
      go (is_under_lower below k c) (list_any (is_ended below) c.members)
      (λ l. has_any (is_ended below) c.members c.under among.0 (and_parts (is_ended below c.under) (nat_lt c.under.coord k) l).0) (lower_within k cs among.1)
    where
      go : (a b : Bool) → (a ≡ true → b ≡ true) → length (filter (is_under_lower below k) cs) ≤ length (filter (λ (c : Component). list_any (is_ended below) c.members) cs)
          → length (cond a (c ∷ filter (is_under_lower below k) cs) (filter (is_under_lower below k) cs))
          ≤ length (cond b (c ∷ filter (λ (c : Component). list_any (is_ended below) c.members) cs) (filter (λ (c : Component). list_any (is_ended below) c.members) cs))
      go true true h ih = omega (arith, ih)
      go true false h ih = absurd (false≢true (h refl))
      go false true h ih = omega (arith, ih)
      go false false h ih = ih

-- ---- as many wherever they stand

module _ (p : List TxnId → Bool) where
  abbrev passes : TurnedComponent → Bool
  passes x = p x.members

  put_count : (x : TurnedComponent) (ys : List TurnedComponent) → length (filter passes (put_turned x ys)) ≡ length (filter passes (x ∷ ys))
  put_count x [] = refl
  put_count x (y ∷ ys) = go (nat_lt x.turn y.turn) (later (p x.members) (p y.members) (put_count x ys))
    where
      later : (s t : Bool) → length (filter passes (put_turned x ys)) ≡ length (cond s (x ∷ filter passes ys) (filter passes ys))
          → length (cond t (y ∷ filter passes (put_turned x ys)) (filter passes (put_turned x ys)))
          ≡ length (cond s (x ∷ cond t (y ∷ filter passes ys) (filter passes ys)) (cond t (y ∷ filter passes ys) (filter passes ys)))
      later true true h = ap suc h
      later true false h = h
      later false true h = ap suc h
      later false false h = h

      go : (b : Bool) → length (filter passes (y ∷ put_turned x ys)) ≡ length (filter passes (x ∷ y ∷ ys)) → length (filter passes (cond b (x ∷ y ∷ ys) (y ∷ put_turned x ys)))
          ≡ length (filter passes (x ∷ y ∷ ys))
      go true h = refl
      go false h = h

  turned_count : (cs : List Component) → length (filter passes (by_turn cs)) ≡ length (filter (λ (c : Component). p c.members) cs)
  turned_count [] = refl
  turned_count (c ∷ cs) = put_count (turned_component c) (by_turn cs) ∙ go (p c.members) (turned_count cs)
    where
      go : (b : Bool) → length (filter passes (by_turn cs)) ≡ length (filter (λ (c : Component). p c.members) cs)
          → length (cond b (turned_component c ∷ filter passes (by_turn cs)) (filter passes (by_turn cs)))
          ≡ length (cond b (c ∷ filter (λ (c : Component). p c.members) cs) (filter (λ (c : Component). p c.members) cs))
      go true h = ap suc h
      go false h = h

  members_count : (xs : List TurnedComponent) → length (filter p (map (λ (x : TurnedComponent). x.members) xs)) ≡ length (filter passes xs)
  members_count [] = refl
  members_count (x ∷ xs) = go (p x.members) (members_count xs)
    where
      go : (b : Bool) → length (filter p (map (λ (x : TurnedComponent). x.members) xs)) ≡ length (filter passes xs)
          → length (cond b (x.members ∷ filter p (map (λ (x : TurnedComponent). x.members) xs)) (filter p (map (λ (x : TurnedComponent). x.members) xs)))
          ≡ length (cond b (x ∷ filter passes xs) (filter passes xs))
      go true h = ap suc h
      go false h = h

  pub component_count : (cs : List Component) → length (filter p (members_by_turn cs)) ≡ length (filter (λ (c : Component). p c.members) cs)
  component_count cs = members_count (by_turn cs) ∙ turned_count cs
