-- Lists that are built one element after the other
use Rattle.std.proofs.Common.{◌≡◌, ◌∙◌, ℕ, suc, ◌+◌, ◌-◌, ◌<◌, ◌≤◌, Bool, true, false, List, [], ◌∷◌, ◌++◌, length, map, filter, take, get_or, cond, refl, sym, ap, arith, append-nil, append_assoc}
use Rattle.std.specs.List.{flat_map, range_with_len}
use Rattle.roc_plan.proofs.Taken.{map_taken}

pub flat_of_map : {A B C : Type 0} (f : B → List C) (g : A → B) (xs : List A) → flat_map f (map g xs) ≡ flat_map (λ x. f (g x)) xs
flat_of_map f g [] = refl
flat_of_map f g (x ∷ xs) = ap (λ ys. f (g x) ++ ys) (flat_of_map f g xs)

-- what is left of the numbers up to a bound, from one of them on
pub left_of_range : (p : ℕ → Bool) (j n : ℕ) → j < n → filter p (range_with_len j (n - j)) ≡ cond (p j) (j ∷ []) [] ++ filter p (range_with_len (j + 1) (n - (j + 1)))
left_of_range p j n l =
    let e : n - j ≡ suc (n - (j + 1)) = omega arith in
    ap (λ m. filter p (range_with_len j m)) e ∙ go (p j) (filter p (range_with_len (j + 1) (n - (j + 1))))
  where
    go : (b : Bool) (rest : List ℕ) → cond b (j ∷ rest) rest ≡ cond b (j ∷ []) [] ++ rest
    go true rest = refl
    go false rest = refl

-- one of the numbers up to a bound is passed by
pub range_passed : (p : ℕ → Bool) (found next all : List ℕ) (j n : ℕ) (b : Bool) → j < n → p j ≡ b → next ≡ found ++ cond b (j ∷ []) [] → found ++ filter p (range_with_len j (n - j)) ≡ all
    → next ++ filter p (range_with_len (j + 1) (n - (j + 1))) ≡ all
range_passed p found next all j n b l e f h =
    ap (λ xs. xs ++ filter p (range_with_len (j + 1) (n - (j + 1)))) (f ∙ ap (λ c. found ++ cond c (j ∷ []) []) (sym e))
    ∙ append_assoc found (cond (p j) (j ∷ []) []) (filter p (range_with_len (j + 1) (n - (j + 1))))
    ∙ ap (λ xs. found ++ xs) (sym (left_of_range p j n l)) ∙ h

pub range_done : (p : ℕ → Bool) (found all : List ℕ) (j n : ℕ) → n ≤ j → found ++ filter p (range_with_len j (n - j)) ≡ all → found ≡ all
range_done p found all j n l h =
    let none : n - j ≡ 0 = omega arith in
    sym (append-nil found) ∙ ap (λ m. found ++ filter p (range_with_len j m)) (sym none) ∙ h

-- one more was pushed
pub pushed_map : {A B : Type 0} (f : A → B) (xs : List A) (i : ℕ) (d : A) (ys zs : List B) → i < length xs → zs ≡ ys ++ f (get_or xs i d) ∷ [] → ys ≡ map f (take i xs) → zs ≡ map f (take (i + 1) xs)
pushed_map f xs i d ys zs l e h = e ∙ ap (λ us. us ++ f (get_or xs i d) ∷ []) h ∙ sym (map_taken f xs i d l)
