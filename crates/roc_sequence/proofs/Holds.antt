-- What holds of all elements of a list, and what a test says of them
use Rattle.std.proofs.Common.{◌≡◌, ℕ, zero, suc, ◌<◌, Bool, true, false, length, List, [], ◌∷◌, ◌++◌, get_or, set, sym, ap, subst, ◌∙◌, refl, inl, inr, arith, map, ◌||◌}
use Rattle.std.proofs.lemmas.Bool.{false≢true, or_cases, or_left, or_right, and_parts, and_from, or_from}
use Rattle.std.specs.List.{AllByRecursion, list_any, list_all, remove}
use Rattle.roc_sequence.specs.Lists.{Has}

-- what holds of all holds of each
pub all_has : {A : Type 0} (P : A → Type 0) (a : A) (xs : List A) → AllByRecursion P xs → Has a xs → P a
all_has P a [] h k = absurd k
all_has P a (x ∷ xs) h (inl e) = subst P (sym e) h.0
all_has P a (x ∷ xs) h (inr k) = all_has P a xs h.1 k

pub has_all : {A : Type 0} (P : A → Type 0) (xs : List A) → ((a : A) → Has a xs → P a) → AllByRecursion P xs
has_all P [] h = tt
has_all P (x ∷ xs) h = (h x (inl refl), has_all P xs (λ a k. h a (inr k)))

pub all_weaker : {A : Type 0} (P Q : A → Type 0) → ((a : A) → P a → Q a) → (xs : List A) → AllByRecursion P xs → AllByRecursion Q xs
all_weaker P Q f [] h = tt
all_weaker P Q f (x ∷ xs) h = (f x h.0, all_weaker P Q f xs h.1)

pub all_append : {A : Type 0} (P : A → Type 0) (xs ys : List A) → AllByRecursion P xs → AllByRecursion P ys → AllByRecursion P (xs ++ ys)
all_append P [] ys h k = k
all_append P (x ∷ xs) ys h k = (h.0, all_append P xs ys h.1 k)

-- of the one at a place, and with another one there
pub all_at : {A : Type 0} (P : A → Type 0) (xs : List A) (i : ℕ) (d : A) → AllByRecursion P xs → i < length xs → P (get_or xs i d)
all_at P [] i d h l = absurd (omega arith)
all_at P (x ∷ xs) zero d h l = h.0
all_at P (x ∷ xs) (suc i) d h l = all_at P xs i d h.1 (omega arith)

pub all_set : {A : Type 0} (P : A → Type 0) (xs : List A) (i : ℕ) (x : A) → AllByRecursion P xs → P x → AllByRecursion P (set xs i x)
all_set P [] i x h k = h
all_set P (y ∷ ys) zero x h k = (k, h.1)
all_set P (y ∷ ys) (suc i) x h k = (h.0, all_set P ys i x h.1 k)

pub all_remove : {A : Type 0} (P : A → Type 0) (xs : List A) (i : ℕ) → AllByRecursion P xs → AllByRecursion P (remove xs i)
all_remove P [] zero h = h
all_remove P [] (suc i) h = h
all_remove P (x ∷ xs) zero h = h.1
all_remove P (x ∷ xs) (suc i) h = (h.0, all_remove P xs i h.1)

-- what is read at a place is one element
pub same_element : {A : Type 0} (xs : List A) (i : ℕ) (x y : A) → i < length xs → x ≡ get_or xs i x → y ≡ get_or xs i y → x ≡ y
same_element [] i x y l e f = absurd (omega arith)
same_element (z ∷ zs) zero x y l e f = e ∙ sym f
same_element (z ∷ zs) (suc i) x y l e f = same_element zs i x y (omega arith) e f

module _ {A : Type 0} (p : A → Bool) where
  -- what passes a test is there
  pub any_has : (xs : List A) → list_any p xs ≡ true → (a : A) × Has a xs × (p a ≡ true)
  any_has [] h = absurd (false≢true h)
  any_has (x ∷ xs) h =
      elim (or_cases (p x) (list_any p xs) h) [
        | inl e ↦ (x, inl refl, e)
        | inr k ↦ (let r = any_has xs k in (r.0, inr r.1, r.2))
      ]

  pub has_any : (xs : List A) (a : A) → Has a xs → p a ≡ true → list_any p xs ≡ true
  has_any [] a h k = absurd h
  has_any (x ∷ xs) a (inl e) k = or_left (p x) (list_any p xs) (ap p (sym e) ∙ k)
  has_any (x ∷ xs) a (inr h) k = or_right (p x) (list_any p xs) (has_any xs a h k)

  -- each passes
  pub every_has : (xs : List A) → list_all p xs ≡ true → (a : A) → Has a xs → p a ≡ true
  every_has [] h a k = absurd k
  every_has (x ∷ xs) h a (inl e) = ap p e ∙ (and_parts (p x) (list_all p xs) h).0
  every_has (x ∷ xs) h a (inr k) = every_has xs (and_parts (p x) (list_all p xs) h).1 a k

  pub has_every : (xs : List A) → ((a : A) → Has a xs → p a ≡ true) → list_all p xs ≡ true
  has_every [] h = refl
  has_every (x ∷ xs) h = and_from (p x) (list_all p xs) (h x (inl refl)) (has_every xs (λ a k. h a (inr k)))

  -- none passes
  pub none_has : (xs : List A) → ((a : A) → Has a xs → p a ≡ false) → list_any p xs ≡ false
  none_has [] h = refl
  none_has (x ∷ xs) h = or_from (p x) (list_any p xs) (h x (inl refl)) (none_has xs (λ a k. h a (inr k)))

-- a test of elements that are seen as others
pub any_seen : {A B : Type 0} (p : B → Bool) (seen : A → B) (xs : List A) → list_any p (map seen xs) ≡ list_any (λ x. p (seen x)) xs
any_seen p seen [] = refl
any_seen p seen (x ∷ xs) = ap (λ b. p (seen x) || b) (any_seen p seen xs)

pub all_pass : {A : Type 0} (test : A → Bool) (xs : List A) → AllByRecursion (λ x. test x ≡ true) xs → list_all test xs ≡ true
all_pass test [] all = refl
all_pass test (x ∷ xs) all = rw all.0 (all_pass test xs all.1)

-- two tests that follow from each other
pub same_tests : (a b : Bool) → (a ≡ true → b ≡ true) → (b ≡ true → a ≡ true) → a ≡ b
same_tests true b f g = sym (f refl)
same_tests false true f g = g refl
same_tests false false f g = refl
