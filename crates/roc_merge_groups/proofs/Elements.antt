-- Elements of lists, their places, and lists that rise
use Rattle.std.proofs.Common.{◌≡◌, ℕ, zero, suc, ◌+◌, ◌<◌, ◌≤◌, Bool, true, List, [], ◌∷◌, ◌++◌, length, get_or, refl, sym, subst, ◌∙◌, inl, inr, arith}
use Rattle.std.proofs.lemmas.Bool.{cases_lt}
use Rattle.std.proofs.lemmas.Bool.Decides.{nat_tests}
use Rattle.std.specs.Bool.{nat_lt}
use Rattle.std.specs.List.{AllByRecursion, range_with_len}
use Rattle.roc_sequence.specs.Lists.{Has}
use Rattle.roc_sequence.specs.Rising.{IsRising}
use Rattle.roc_sequence.proofs.Holds.{all_has}
use Rattle.roc_sequence.proofs.Members.{has_right}

-- ---- places

pub place_of_has : {A : Type 0} (a : A) (xs : List A) (d : A) → Has a xs → (i : ℕ) × (i < length xs) × (get_or xs i d ≡ a)
place_of_has a [] d h = absurd h
place_of_has a (x ∷ xs) d (inl e) = (0, omega arith, sym e)
place_of_has a (x ∷ xs) d (inr h) = let r = place_of_has a xs d h in let l = r.1 in (suc r.0, omega arith, r.2)

pub has_at_place : {A : Type 0} (xs : List A) (i : ℕ) (d : A) → i < length xs → Has (get_or xs i d) xs
has_at_place [] i d l = absurd (omega arith)
has_at_place (x ∷ xs) zero d l = inl refl
has_at_place (x ∷ xs) (suc i) d l = inr (has_at_place xs i d (omega arith))

-- a row that has an element is there
pub row_of_has : {A : Type 0} (a : A) (rows : List (List A)) (i : ℕ) → Has a (get_or rows i []) → i < length rows
row_of_has a [] i h = absurd h
row_of_has a (r ∷ rows) zero h = omega arith
row_of_has a (r ∷ rows) (suc i) h = let l = row_of_has a rows i h in omega arith

pub has_row : {A : Type 0} (a : A) (rows : List (List A)) (i : ℕ) → Has a (get_or rows i []) → Has (get_or rows i []) rows
has_row a rows i h = has_at_place rows i [] (row_of_has a rows i h)

-- lists with the same at each place are one
pub same_at_each : {A : Type 0} (xs ys : List A) (d : A) → length xs ≡ length ys → ((i : ℕ) → i < length xs → get_or xs i d ≡ get_or ys i d) → xs ≡ ys
same_at_each [] [] d e f = refl
same_at_each [] (y ∷ ys) d e f = absurd (omega arith)
same_at_each (x ∷ xs) [] d e f = absurd (omega arith)
same_at_each (x ∷ xs) (y ∷ ys) d e f =
    let head : x ≡ y = f 0 (omega arith) in
    let rest : xs ≡ ys = same_at_each xs ys d (omega arith) (λ i l. f (suc i) (omega arith)) in
    cc

-- ---- lists of what each element gives

-- ---- rising lists

module _ {A : Type 0} (before : A → A → Bool) where
  pub rising_behind : (xs ys : List A) → IsRising before (xs ++ ys) → IsRising before ys
  rising_behind [] ys r = r
  rising_behind (x ∷ xs) ys r = rising_behind xs ys r.1

  -- of two lists, one behind the other, each of the first comes before each of the second
  pub rising_across : (xs ys : List A) (a b : A) → IsRising before (xs ++ ys) → Has a xs → Has b ys → before a b ≡ true
  rising_across [] ys a b r h k = absurd h
  rising_across (x ∷ xs) ys a b r (inl e) k = subst (λ c. before c b ≡ true) (sym e) (all_has (λ y. before x y ≡ true) b (xs ++ ys) r.0 (has_right b xs ys k))
  rising_across (x ∷ xs) ys a b r (inr h) k = rising_across xs ys a b r.1 h k

  -- rising lists with the same elements are one
  pub rising_same : ((a b : A) → before a b ≡ true → before b a ≡ true → ⊥) → (xs ys : List A) → IsRising before xs → IsRising before ys
      → ((a : A) → Has a xs → Has a ys) → ((a : A) → Has a ys → Has a xs) → xs ≡ ys
  rising_same one_way [] [] r s f g = refl
  rising_same one_way [] (y ∷ ys) r s f g = absurd (g y (inl refl))
  rising_same one_way (x ∷ xs) [] r s f g = absurd (f x (inl refl))
  rising_same one_way (x ∷ xs) (y ∷ ys) r s f g = let rest : xs ≡ ys = rising_same one_way xs ys r.1 s.1 forth back in λ i. head i ∷ rest i
    where
      head : x ≡ y
      head = elim (f x (inl refl)) [
        | inl e ↦ e
        | inr h ↦ elim (g y (inl refl)) [
          | inl e ↦ sym e
          | inr k ↦ absurd (one_way x y (all_has (λ z. before x z ≡ true) y xs r.0 k) (all_has (λ z. before y z ≡ true) x ys s.0 h))
        ]
      ]

      -- what is behind the first is not the first
      forth : (a : A) → Has a xs → Has a ys
      forth a h = elim (f a (inr h)) [
        | inr k ↦ k
        | inl e ↦ (let same : x ≡ a = head ∙ sym e in let t = all_has (λ z. before x z ≡ true) a xs r.0 h in let u : before x x ≡ true = subst (λ c. before x c ≡ true) (sym same) t in absurd (one_way x x u u))
      ]

      back : (a : A) → Has a ys → Has a xs
      back a h = elim (g a (inr h)) [
        | inr k ↦ k
        | inl e ↦ (let same : y ≡ a = sym head ∙ sym e in let t = all_has (λ z. before y z ≡ true) a ys s.0 h in let u : before y y ≡ true = subst (λ c. before y c ≡ true) (sym same) t in absurd (one_way y y u u))
      ]

pub numbers_one_way : (a b : ℕ) → nat_lt a b ≡ true → nat_lt b a ≡ true → ⊥
numbers_one_way a b h k = grind (arith, nat_tests)

-- the numbers from a on are above each lesser one, and rise
pub range_above : (b a n : ℕ) → b < a → AllByRecursion (λ k. nat_lt b k ≡ true) (range_with_len a n)
range_above b a zero l = tt
range_above b a (suc n) l = (grind (arith, nat_tests), range_above b (a + 1) n (omega arith))

pub range_rising : (a n : ℕ) → IsRising nat_lt (range_with_len a n)
range_rising a zero = tt
range_rising a (suc n) = (range_above a (a + 1) n (omega arith), range_rising (a + 1) n)

-- which numbers these are
pub has_range : (a n x : ℕ) → a ≤ x → x < a + n → Has x (range_with_len a n)
has_range a zero x l m = absurd (omega arith)
has_range a (suc n) x l m =
    elim (cases_lt a x) [
      | inl k ↦ inr (has_range (a + 1) n x (omega arith) (omega arith))
      | inr k ↦ inl (omega arith)
    ]

pub from_has_range : (a n x : ℕ) → Has x (range_with_len a n) → (a ≤ x) × (x < a + n)
from_has_range a zero x h = absurd h
from_has_range a (suc n) x (inl e) = (omega arith, omega arith)
from_has_range a (suc n) x (inr h) = let r = from_has_range (a + 1) n x h in let l = r.0 in let m = r.1 in (omega arith, omega arith)
