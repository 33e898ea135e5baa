-- Lists over the numbers below a bound
use Rattle.std.proofs.Common.{◌≡◌, ℕ, ◌+◌, ◌<◌, Bool, true, false, ◌||◌, List, [], ◌∷◌, ◌++◌, map, get_or, refl, sym, ◌∙◌, ap, subst, arith, append-nil, append_assoc}
use Rattle.std.proofs.lemmas.Bool.{or_from}
use Rattle.std.proofs.lemmas.List.Concat.{flat_map-append}
use Rattle.std.proofs.lemmas.List.Folds.{list_any-append, list_any_at}
use Rattle.std.proofs.lemmas.List.FromFn.{length-range_with_len, get_or-range_with_len, length-map-range_with_len, get_or-map-range_with_len, map-range_with_len_more}
use Rattle.std.specs.List.{flat_map, list_any, range_with_len}
use Rattle.roc_sequence.proofs.Ranges.{range_more}

pub flat_map-range_more : {A : Type 0} (f : ℕ → List A) (n : ℕ) → flat_map f (range_with_len 0 (n + 1)) ≡ flat_map f (range_with_len 0 n) ++ f n
flat_map-range_more f n =
    ap (flat_map f) (range_more 0 n n (omega arith)) ∙ flat_map-append f (range_with_len 0 n) (n ∷ []) ∙ ap (λ ys. flat_map f (range_with_len 0 n) ++ ys) (append-nil (f n))

list_any-flat_map : {A B : Type 0} (p : B → Bool) (f : A → List B) (xs : List A) → list_any p (flat_map f xs) ≡ list_any (λ x. list_any p (f x)) xs
list_any-flat_map p f [] = refl
list_any-flat_map p f (x ∷ xs) = list_any-append p (f x) (flat_map f xs) ∙ ap (λ b. list_any p (f x) || b) (list_any-flat_map p f xs)

-- one more was pushed
pub map_pushed : {A : Type 0} (front xs ys : List A) (f : ℕ → A) (n : ℕ) → ys ≡ xs ++ f n ∷ [] → xs ≡ front ++ map f (range_with_len 0 n) → ys ≡ front ++ map f (range_with_len 0 (n + 1))
map_pushed front xs ys f n e h =
    e ∙ ap (λ zs. zs ++ f n ∷ []) h ∙ append_assoc front (map f (range_with_len 0 n)) (f n ∷ [])
    ∙ ap (λ zs. front ++ zs) (sym (map-range_with_len_more f 0 n n (omega arith)))

pub lists_pushed : {A : Type 0} (xs zs ys : List A) (f : ℕ → List A) (n : ℕ) → ys ≡ xs ++ zs → xs ≡ flat_map f (range_with_len 0 n) → zs ≡ f n → ys ≡ flat_map f (range_with_len 0 (n + 1))
lists_pushed xs zs ys f n e h last = e ∙ ap (λ l. l ++ zs) h ∙ ap (λ l. flat_map f (range_with_len 0 n) ++ l) last ∙ sym (flat_map-range_more f n)

pub any_more : {A : Type 0} (p : A → Bool) (f : ℕ → A) (n : ℕ) → list_any p (map f (range_with_len 0 n)) ≡ false → p (f n) ≡ false → list_any p (map f (range_with_len 0 (n + 1))) ≡ false
any_more p f n h last =
    ap (list_any p) (map-range_with_len_more f 0 n n (omega arith)) ∙ list_any-append p (map f (range_with_len 0 n)) (f n ∷ [])
    ∙ or_from (list_any p (map f (range_with_len 0 n))) (list_any p (f n ∷ [])) h (or_from (p (f n)) false last refl)

pub any_more_lists : {A : Type 0} (p : A → Bool) (f : ℕ → List A) (n : ℕ) → list_any p (flat_map f (range_with_len 0 n)) ≡ false → list_any p (f n) ≡ false → list_any p (flat_map f (range_with_len 0 (n + 1))) ≡ false
any_more_lists p f n h last =
    ap (list_any p) (flat_map-range_more f n) ∙ list_any-append p (flat_map f (range_with_len 0 n)) (f n)
    ∙ or_from (list_any p (flat_map f (range_with_len 0 n))) (list_any p (f n)) h last

pub map_map : {A B C : Type 0} (g : B → C) (f : A → B) (xs : List A) → map g (map f xs) ≡ map (λ x. g (f x)) xs
map_map g f [] = refl
map_map g f (x ∷ xs) = ap (λ ys. g (f x) ∷ ys) (map_map g f xs)

-- the test finds what stands at a number
pub any_in_map : {A : Type 0} (p : A → Bool) (f : ℕ → A) (n k : ℕ) → k < n → p (f k) ≡ true → list_any p (map f (range_with_len 0 n)) ≡ true
any_in_map p f n k below h =
    list_any_at p (map f (range_with_len 0 n)) k (f k) (subst (λ m. k < m) (sym (length-map-range_with_len f 0 n)) below)
    (ap p (get_or-map-range_with_len f 0 n k k (f k) below (omega arith)) ∙ h)

pub any_in_flat_map : {A : Type 0} (p : A → Bool) (f : ℕ → List A) (n k : ℕ) → k < n → list_any p (f k) ≡ true → list_any p (flat_map f (range_with_len 0 n)) ≡ true
any_in_flat_map p f n k below h =
    let q : ℕ → Bool = λ x. list_any p (f x) in
    let at : get_or (range_with_len 0 n) k k ≡ k = get_or-range_with_len 0 n k k below ∙ omega arith in
    list_any-flat_map p f (range_with_len 0 n)
    ∙ list_any_at q (range_with_len 0 n) k k (subst (λ m. k < m) (sym (length-range_with_len 0 n)) below) (ap q at ∙ h)
