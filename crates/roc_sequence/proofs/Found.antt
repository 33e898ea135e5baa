-- What is found in a list by a test
use Rattle.std.proofs.Common.{◌≡◌, ℕ, zero, suc, ◌<◌, Bool, true, false, cond, if◌then◌else◌, nat_lt, List, [], ◌∷◌, length, map, Some, None, find, position, slice_get, slice_set, refl, sym, ap, subst, ◌∙◌, inl, inr, arith}
use Rattle.std.proofs.lemmas.Bool.{cond-true, cond-false, false≢true}
use Rattle.std.proofs.lemmas.Bool.Decides.{nat_tests}
use Rattle.std.proofs.lemmas.List.Folds.{find_at}
use Rattle.std.proofs.lemmas.Option.{slice_get_past}
use Rattle.std.specs.List.{AllByRecursion, position_or_len}
use Rattle.roc_sequence.specs.Lists.{Has}
use Rattle.roc_sequence.specs.Places.{place_of, IsListed, NoneTwice}
use Rattle.roc_sequence.proofs.Holds.{all_has}

-- what is found is there and passes
pub found_has : {A : Type 0} (p : A → Bool) (xs : List A) (a : A) → find p xs ≡ Some a → Has a xs × (p a ≡ true)
found_has p [] a e = absurd (cc)
found_has {A} p (x ∷ xs) a e = go (p x) refl e (found_has p xs a)
  where
    go : (t : Bool) → p x ≡ t → cond t (Some x) (find p xs) ≡ Some a → (find p xs ≡ Some a → Has a xs × (p a ≡ true)) → Has a (x ∷ xs) × (p a ≡ true)
    go true k m ih = let same : x ≡ a = cc in (inl (sym same), subst (λ (b : A). p b ≡ true) same k)
    go false k m ih = let r = ih m in (inr r.0, r.1)

pub found_passes : {A : Type 0} (p : A → Bool) (xs : List A) (a : A) → find p xs ≡ Some a → p a ≡ true
found_passes p xs a e = (found_has p xs a e).1

-- where nothing is found, nothing passes
pub none_found : {A : Type 0} (p : A → Bool) (xs : List A) → find p xs ≡ None → (a : A) → Has a xs → p a ≡ false
none_found p [] e a h = elim h [ ]
none_found {A} p (x ∷ xs) e a h = go (p x) refl e h (λ k i. none_found p xs k a i)
  where
    go : (t : Bool) → p x ≡ t → cond t (Some x) (find p xs) ≡ None → Has a (x ∷ xs) → (find p xs ≡ None → Has a xs → p a ≡ false) → p a ≡ false
    go true k m i ih = absurd (cc)
    go false k m (inl i) ih = subst (λ (b : A). p b ≡ false) (sym i) k
    go false k m (inr i) ih = ih m i

pub none_passes : {A : Type 0} (p : A → Bool) (xs : List A) → find p xs ≡ None → (a : A) → Has a xs → ¬ (p a ≡ true)
none_passes p xs e a h t = false≢true (sym (none_found p xs e a h) ∙ t)

-- the only one that passes is found
pub find_only : {A : Type 0} (p : A → Bool) (xs : List A) (a : A) → Has a xs → p a ≡ true → ((b : A) → Has b xs → p b ≡ true → b ≡ a) → find p xs ≡ Some a
find_only p [] a h e f = elim h [ ]
find_only {A} p (x ∷ xs) a h e f = go (p x) refl h (λ i. find_only p xs a i e (λ b j. f b (inr j)))
  where
    go : (t : Bool) → p x ≡ t → Has a (x ∷ xs) → (Has a xs → find p xs ≡ Some a) → cond t (Some x) (find p xs) ≡ Some a
    go true k i ih = ap Some (f x (inl refl) k)
    go false k (inl i) ih = let same : p a ≡ false = subst (λ (b : A). p b ≡ false) (sym i) k in absurd (false≢true (sym same ∙ e))
    go false k (inr i) ih = ih i

-- what holds of each element holds of one that is found
pub found_holds : {A : Type 0} (P : A → Type 0) (p : A → Bool) (xs : List A) (x : A) → AllByRecursion P xs → find p xs ≡ Some x → P x
found_holds P p xs x all e = all_has P x xs all (found_has p xs x e).0

-- ---- places

-- where it stands, it is found
pub found_at : {A : Type 0} (p : A → Bool) (xs : List A) (at : ℕ) → position p xs ≡ Some at → find p xs ≡ slice_get xs at
found_at p xs at e = find_at p xs ∙ ap (slice_get xs) (go (nat_lt (position_or_len p xs) (length xs)) e)
  where
    go : (b : Bool) → cond b (Some (position_or_len p xs)) None ≡ Some at → position_or_len p xs ≡ at
    go true h = cc
    go false h = cc

pub found_within : {A : Type 0} (p : A → Bool) (xs : List A) (at : ℕ) → position p xs ≡ Some at → at < length xs
found_within p xs at e = go (nat_lt (position_or_len p xs) (length xs)) refl e
  where
    go : (b : Bool) → nat_lt (position_or_len p xs) (length xs) ≡ b → cond b (Some (position_or_len p xs)) None ≡ Some at → at < length xs
    go true t h = let same : position_or_len p xs ≡ at = cc in let l : position_or_len p xs < length xs = grind (arith, nat_tests) in omega arith
    go false t h = cc

pub not_found : {A : Type 0} (p : A → Bool) (xs : List A) → position p xs ≡ None → find p xs ≡ None
not_found p xs e = find_at p xs ∙ go (nat_lt (position_or_len p xs) (length xs)) refl e
  where
    go : (b : Bool) → nat_lt (position_or_len p xs) (length xs) ≡ b → cond b (Some (position_or_len p xs)) None ≡ None → slice_get xs (position_or_len p xs) ≡ None
    go true t h = cc
    go false t h = slice_get_past xs (position_or_len p xs) (grind (arith, nat_tests))

-- what is not found is not listed
pub unlisted : {A : Type 0} (p : A → Bool) (xs : List A) → find p xs ≡ None → ¬ (place_of p xs < length xs)
unlisted p [] e h = omega arith
unlisted p (x ∷ xs) e h = go (p x) e h (unlisted p xs)
  where
    go : (b : Bool) → cond b (Some x) (find p xs) ≡ None → cond b 0 (suc (place_of p xs)) < suc (length xs) → (find p xs ≡ None → place_of p xs < length xs → ⊥) → ⊥
    go true i l ih = cc
    go false i l ih = ih i (omega arith)

pub slice_get_listed : {A : Type 0} (p : A → Bool) (xs : List A) (at : ℕ) (x : A) → slice_get xs at ≡ Some x → p x ≡ true → place_of p xs < length xs
slice_get_listed p [] at x e t = cc
slice_get_listed {A} p (y ∷ ys) zero x e t =
    let same : x ≡ y = cc in
    let h : p y ≡ true = (let P : A → Type 0 = λ z. p z ≡ true in subst P same t) in
    let z = cond-true (p y) 0 (suc (place_of p ys)) h in omega arith
slice_get_listed p (y ∷ ys) (suc k) x e t =
    let l = slice_get_listed p ys k x e t in
    elim (p y) as (λ b. cond b 0 (suc (place_of p ys)) < suc (length ys)) [ true ↦ omega arith | false ↦ omega arith ]

-- in a list without repeats, to replace what stands at a place is to replace it wherever it stands
module _ {A : Type 0} (is : A → A → Bool) (own : (a : A) → is a a ≡ true) (swap : (a b : A) → is a b ≡ is b a) (f : A → A) where
  pub unlisted_kept : (e : A) (xs : List A) → ¬ IsListed is xs e → map (λ g. if is e g then f g else g) xs ≡ xs
  unlisted_kept e [] none = refl
  unlisted_kept e (x ∷ xs) none = go (is e x) none (unlisted_kept e xs)
    where
      go : (b : Bool) → ¬ (cond b 0 (suc (place_of (is e) xs)) < suc (length xs)) → (¬ IsListed is xs e → map (λ g. if is e g then f g else g) xs ≡ xs) → cond b (f x) x ∷ map (λ g. if is e g then f g else g) xs ≡ x ∷ xs
      go true n ih = absurd (n (omega arith))
      go false n ih = ap (λ ys. x ∷ ys) (ih (λ l. n (omega arith)))

  pub set_where_it_stands : (xs : List A) (at : ℕ) (e : A) → NoneTwice is xs → slice_get xs at ≡ Some e → slice_set xs at (f e) ≡ map (λ g. if is e g then f g else g) xs
  set_where_it_stands [] at e once got = cc
  set_where_it_stands (x ∷ xs) zero e once got =
      let same : x ≡ e = cc in
      let P : A → Type 0 = λ y. f y ∷ xs ≡ map (λ g. if is y g then f g else g) (x ∷ xs) in
      subst P same (sym ((λ i. (cond-true (is x x) (f x) x (own x) i) ∷ unlisted_kept x xs once.0 i)))
  set_where_it_stands (x ∷ xs) (suc k) e once got =
      let other : is e x ≡ false = go (is x e) refl in
      λ i. (sym (cond-false (is e x) (f x) x other) i) ∷ set_where_it_stands xs k e once.1 got i
    where
      go : (b : Bool) → is x e ≡ b → is e x ≡ false
      go true h = absurd (once.0 (slice_get_listed (is x) xs k e got h))
      go false h = swap e x ∙ h
