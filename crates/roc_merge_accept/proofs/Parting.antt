-- Groups that partition the pieces of a procedure, by tests of each
use Rattle.std.proofs.Common.{◌≡◌, ℕ, zero, suc, ◌-◌, ◌<◌, ◌≤◌, Bool, true, false, ◌==◌, cond, List, [], ◌∷◌, length, map, filter, get_or, refl, sym, ap, subst, ◌∙◌, inl, inr, arith}
use Rattle.std.proofs.lemmas.Bool.{eqb-true, eq-eqb, ltb-true}
use Rattle.std.proofs.lemmas.Bool.Decides.{nat_tests}
use Rattle.std.specs.Bool.{nat_lt}
use Rattle.std.specs.List.{AllByRecursion}
use Rattle.roc_sequence.specs.Lists.{Has}
use Rattle.roc_sequence.specs.Rising.{IsRising}
use Rattle.roc_sequence.proofs.Holds.{all_has, has_all, all_weaker, any_has, has_any}
use Rattle.roc_sequence.proofs.Members.{has_filter, from_has_filter}
use Rattle.roc_sequence.proofs.Rising.{rising_filter}
use Rattle.roc_merge_groups.specs.Groups.{first_piece}
use Rattle.roc_merge_groups.specs.Grouping.{IsGrouping}
use Rattle.roc_merge_groups.specs.Parts.{IsPart}
use Rattle.roc_merge_groups.proofs.Elements.{has_at_place}
use Rattle.roc_merge_groups.proofs.Parts.{parts_of_grouping}
use Rattle.roc_merge_accept.specs.Inner.Tests.{has_piece}

-- ---- rising by steps

module _ {A : Type 0} (f : A → ℕ) (d : A) where
  pub rising_from_steps : (xs : List A) → ((i : ℕ) → suc i < length xs → f (get_or xs i d) < f (get_or xs (suc i) d)) → IsRising (λ a b. nat_lt (f a) (f b)) xs
  rising_from_steps [] h = tt
  rising_from_steps (x ∷ []) h = (tt, tt)
  rising_from_steps (x ∷ y ∷ ys) h =
      let rest = rising_from_steps (y ∷ ys) (λ i l. h (suc i) (omega arith)) in
      let step : f x < f y = h 0 (omega arith) in
      let first : nat_lt (f x) (f y) ≡ true = grind (arith, nat_tests) in
      ((first, all_weaker (λ z. nat_lt (f y) (f z) ≡ true) (λ z. nat_lt (f x) (f z) ≡ true) (λ z k. grind (arith, nat_tests)) ys rest.0), rest)

  pub steps_from_rising : (xs : List A) → IsRising (λ a b. nat_lt (f a) (f b)) xs → (i : ℕ) → suc i < length xs → f (get_or xs i d) < f (get_or xs (suc i) d)
  steps_from_rising [] r i l = absurd (omega arith)
  steps_from_rising (x ∷ []) r i l = absurd (omega arith)
  steps_from_rising (x ∷ y ∷ ys) r zero l = ltb-true (f x) (f y) r.0.0
  steps_from_rising (x ∷ y ∷ ys) r (suc i) l = steps_from_rising (y ∷ ys) r.1 i (omega arith)

pub not_rising : (xs : List ℕ) (at : ℕ) → 1 ≤ at → at < length xs → get_or xs at 0 ≤ get_or xs (at - 1) 0 → ¬ IsRising nat_lt xs
not_rising xs zero l m h r = omega arith
not_rising xs (suc i) l m h r =
    let e : suc i - 1 ≡ i = omega arith in
    let k : get_or xs i 0 < get_or xs (suc i) 0 = steps_from_rising (λ n. n) 0 xs r i m in
    let j : get_or xs (suc i) 0 ≤ get_or xs i 0 = subst (λ n. get_or xs (suc i) 0 ≤ get_or xs n 0) e h in
    omega arith

pub not_numbered : (groups : List (List ℕ)) (at : ℕ) → 1 ≤ at → at < length groups → first_piece (get_or groups at []) ≤ first_piece (get_or groups (at - 1) [])
    → ¬ IsRising (λ g h. nat_lt (first_piece g) (first_piece h)) groups
not_numbered groups zero l m h r = omega arith
not_numbered groups (suc i) l m h r =
    let e : suc i - 1 ≡ i = omega arith in
    let k : first_piece (get_or groups i []) < first_piece (get_or groups (suc i) []) = steps_from_rising first_piece [] groups r i m in
    let j : first_piece (get_or groups (suc i) []) ≤ first_piece (get_or groups i []) = subst (λ n. first_piece (get_or groups (suc i) []) ≤ first_piece (get_or groups n [])) e h in
    omega arith

-- how many numbers can rise between two bounds
pub few_rise : {A : Type 0} (f : A → ℕ) (xs : List A) (low high : ℕ) → IsRising (λ a b. nat_lt (f a) (f b)) xs → AllByRecursion (λ a. low ≤ f a) xs → AllByRecursion (λ a. f a < high) xs → length xs ≤ high - low
few_rise f [] low high r above below = omega arith
few_rise f (x ∷ xs) low high r above below =
    let at : low ≤ f x = above.0 in
    let under : f x < high = below.0 in
    let rest = few_rise f xs (suc (f x)) high r.1 (all_weaker (λ y. nat_lt (f x) (f y) ≡ true) (λ y. suc (f x) ≤ f y) (λ y h. let l = ltb-true (f x) (f y) h in omega arith) xs r.0) below.1 in
    omega arith

-- ---- how many pass a test

pub one_passes : {A : Type 0} (p : A → Bool) (xs : List A) (a b : A) → length (filter p xs) ≤ 1 → Has a xs → Has b xs → p a ≡ true → p b ≡ true → a ≡ b
one_passes {A = A} p xs a b few h k pa pb = go (filter p xs) few (has_filter p a xs h pa) (has_filter p b xs k pb)
  where
    go : (ys : List A) → length ys ≤ 1 → Has a ys → Has b ys → a ≡ b
    go [] l m n = absurd m
    go (y ∷ []) l (inl m) (inl n) = m ∙ sym n
    go (y ∷ []) l (inr m) n = absurd m
    go (y ∷ []) l (inl m) (inr n) = absurd n
    go (y ∷ z ∷ ys) l m n = absurd (omega arith)

pub some_passes : {A : Type 0} (p : A → Bool) (xs : List A) (a : A) → Has a xs → p a ≡ true → 0 < length (filter p xs)
some_passes {A = A} p xs a h pa = go (filter p xs) (has_filter p a xs h pa)
  where
    go : (ys : List A) → Has a ys → 0 < length ys
    go [] m = absurd m
    go (y ∷ ys) m = omega arith

pub passing : {A : Type 0} (p : A → Bool) (xs : List A) → 0 < length (filter p xs) → (a : A) × Has a xs × (p a ≡ true)
passing {A = A} p xs some = go (filter p xs) some (λ a h. from_has_filter p a xs h)
  where
    go : (ys : List A) → 0 < length ys → ((a : A) → Has a ys → Has a xs × (p a ≡ true)) → (a : A) × Has a xs × (p a ≡ true)
    go [] l h = absurd (omega arith)
    go (y ∷ ys) l h = let r = h y (inl refl) in (y, r.0, r.1)

-- of rising ones at most one passes, where all that pass are one
pub few_pass : {A : Type 0} (before : A → A → Bool) (p : A → Bool) (xs : List A) → ((a : A) → before a a ≡ true → ⊥) → IsRising before xs
    → ((a b : A) → Has a xs → Has b xs → p a ≡ true → p b ≡ true → a ≡ b) → length (filter p xs) ≤ 1
few_pass {A = A} before p xs none rising same =
    go (filter p xs) (rising_filter before p xs rising) (λ a b h k. let r = from_has_filter p a xs h in let s = from_has_filter p b xs k in same a b r.0 s.0 r.1 s.1)
  where
    go : (ys : List A) → IsRising before ys → ((a b : A) → Has a ys → Has b ys → a ≡ b) → length ys ≤ 1
    go [] r e = omega arith
    go (y ∷ []) r e = omega arith
    go (y ∷ z ∷ ys) r e = absurd (none y (subst (λ c. before y c ≡ true) (sym (e y z (inl refl) (inr (inl refl)))) r.0.0))

pub filter_seen : {A B : Type 0} (p : B → Bool) (f : A → B) (xs : List A) → length (filter p (map f xs)) ≡ length (filter (λ x. p (f x)) xs)
filter_seen p f [] = refl
filter_seen p f (x ∷ xs) =
    let rest = filter_seen p f xs in
    elim (p (f x)) as (λ b. length (cond b (f x ∷ filter p (map f xs)) (filter p (map f xs))) ≡ length (cond b (x ∷ filter (λ x. p (f x)) xs) (filter (λ x. p (f x)) xs))) [
      | true ↦ ap suc rest
      | false ↦ rest
    ]

-- ---- groups

pub holds_piece : (x : ℕ) (g : List ℕ) → has_piece x g ≡ true → Has x g
holds_piece x g h = let r = any_has (λ y. y == x) g h in subst (λ k. Has k g) (eqb-true r.0 x r.2) r.1

pub piece_held : (x : ℕ) (g : List ℕ) → Has x g → has_piece x g ≡ true
piece_held x g h = has_any (λ y. y == x) g x h (eq-eqb x x refl)

pub not_before_itself : (g : List ℕ) → nat_lt (first_piece g) (first_piece g) ≡ true → ⊥
not_before_itself g h = let l = ltb-true (first_piece g) (first_piece g) h in omega arith

module _ (count : ℕ) (groups : List (List ℕ)) where
  pub grouping_from_parts : AllByRecursion (IsPart count) groups → IsRising (λ g h. nat_lt (first_piece g) (first_piece h)) groups
      → ((x : ℕ) → x < count → length (filter (has_piece x) groups) ≡ 1) → IsGrouping count groups
  grouping_from_parts parts numbered once = record {
    some = all_weaker (IsPart count) (λ g. 0 < length g) (λ g h. h.some) groups parts;
    rising = all_weaker (IsPart count) (IsRising nat_lt) (λ g h. h.rising) groups parts;
    numbered = numbered;
    whole = λ x. (
      λ l. let e = once x l in let r = passing (has_piece x) groups (omega arith) in record { group = r.0; is = r.1; one = holds_piece x r.0 r.2; other = holds_piece x r.0 r.2 },
      λ t. within t.group x t.is t.one,
    );
    once = λ g h x gs hs xg xh. let e = once x (within g x gs xg) in one_passes (has_piece x) groups g h (omega arith) gs hs (piece_held x g xg) (piece_held x h xh);
  }
    where
      within : (g : List ℕ) (x : ℕ) → Has g groups → Has x g → x < count
      within g x gs xg = all_has (λ y. y < count) x g (all_has (IsPart count) g groups parts gs).below xg

  module _ (is : IsGrouping count groups) where
    pub once_of_grouping : (x : ℕ) → x < count → length (filter (has_piece x) groups) ≡ 1
    once_of_grouping x l =
        let t = (is.whole x).0 l in
        let few = few_pass (λ g h. nat_lt (first_piece g) (first_piece h)) (has_piece x) groups not_before_itself is.numbered (λ g h gs hs xg xh. is.once g h x gs hs (holds_piece x g xg) (holds_piece x h xh)) in
        let some = some_passes (has_piece x) groups t.group t.is (piece_held x t.group t.one) in
        omega arith

    pub few_groups : length groups ≤ count
    few_groups =
        let r = few_rise first_piece groups 0 count is.numbered (has_all (λ g. 0 ≤ first_piece g) groups (λ g h. omega arith))
        (has_all (λ g. first_piece g < count) groups (λ g h. let part = all_has (IsPart count) g groups (parts_of_grouping count groups is) h in
        all_has (λ x. x < count) (first_piece g) g part.below (has_at_place g 0 0 part.some))) in
        omega arith
