-- Numbers in a row, and what a test passes of them
use Rattle.std.proofs.Common.{◌≡◌, ℕ, zero, suc, ◌+◌, ◌<◌, Bool, cond, [], ◌∷◌, ◌++◌, ap, ◌∙◌, arith, add-one}
use Rattle.std.proofs.lemmas.List.Elements.{filter-append}
use Rattle.std.specs.List.{filter, range_with_len, AllByRecursion}

range_suc : (a n j : ℕ) → a + n ≡ j → range_with_len a (suc n) ≡ range_with_len a n ++ j ∷ []
range_suc a zero j e = ap (λ k. k ∷ []) (let f : a ≡ j = omega arith in f)
range_suc a (suc n) j e = ap (λ xs. a ∷ xs) (range_suc (a + 1) n j (omega arith))

-- one number more
pub range_more : (a n j : ℕ) → a + n ≡ j → range_with_len a (n + 1) ≡ range_with_len a n ++ j ∷ []
range_more a n j e = rw add-one (range_suc a n j e)

pub filter_range_more : (p : ℕ → Bool) (n : ℕ) → filter p (range_with_len 0 (n + 1)) ≡ filter p (range_with_len 0 n) ++ cond (p n) (n ∷ []) []
filter_range_more p n = ap (filter p) (range_more 0 n n (omega arith)) ∙ filter-append p (range_with_len 0 n) (n ∷ [])

-- they are below their end
pub range_below : (a n m : ℕ) → a + n ≡ m → AllByRecursion (λ k. k < m) (range_with_len a n)
range_below a zero m e = tt
range_below a (suc n) m e = (omega arith, range_below (a + 1) n m (omega arith))
