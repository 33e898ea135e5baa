-- How many tables have a number, and what a test or a look-up of entries says of it
use Rattle.std.proofs.Common.{◌≡◌, ℕ, ◌+◌, ◌<◌, ◌≤◌, ◌==◌, Bool, true, false, cond, List, [], ◌∷◌, ◌++◌, Option, Some, None, find, count_by, refl, sym, ap, ◌∙◌, arith, zero-add, ◌||◌, eqb-true, ℤ, pos, negsuc, codes, nat_lt, option_and_then, rules}
use Rattle.std.specs.List.{list_any}
use Rattle.std.proofs.lemmas.List.Sums.{sum_by-append}
use Rattle.std.proofs.lemmas.Bool.Decides.{nat_tests}
use Rattle.toml.specs.Data.{Members, get_member, as_integer}
use Rattle.roc_cluster.specs.declared.entry.Entry.{Entry}
use Rattle.roc_cluster.specs.Entries.{AreEntries, below, number_of, has_number, how_often}

-- the entry is of the shard of this number
abbrev pub is_at : ℕ → Entry → Bool
is_at n entry = entry.shard.0 == n

-- the number of a shard is below how many there are
pub number_below : (shards : ℕ) (table : Members) (n : ℕ) → number_of shards table ≡ Some n → n < shards
number_below shards table n e = go (option_and_then as_integer (get_member (codes "number") table)) e
  where
    test : (m : ℕ) (b : Bool) → nat_lt m shards ≡ b → cond b (Some m) None ≡ Some n → n < shards
    test m true t h = let same : m ≡ n = cc in let low : m < shards = grind (arith, nat_tests) in omega arith
    test m false t h = cc

    go : (z : Option ℤ) → option_and_then (below shards) z ≡ Some n → n < shards
    go None h = cc
    go (Some (pos m)) h = test m (nat_lt m shards) refl h
    go (Some (negsuc m)) h = cc

-- the count of a list by its first element
pub count_more : {A : Type 0} (p : A → Bool) (x : A) (xs : List A) → count_by p (x ∷ xs) ≡ cond (p x) 1 0 + count_by p xs
count_more p x xs = sum_by-append (λ y. cond (p y) 1 0) (x ∷ []) xs ∙ ap (λ k. k + count_by p xs) (zero-add (cond (p x) 1 0))

pub times_of_entries : (shards : ℕ) (tables : List Members) (entries : List Entry) (n : ℕ) → AreEntries shards tables entries → how_often shards tables n ≡ count_by (is_at n) entries
times_of_entries shards [] [] n all = refl
times_of_entries shards [] (e ∷ es) n all = absurd all
times_of_entries shards (t ∷ ts) [] n all = absurd all
times_of_entries shards (t ∷ ts) (e ∷ es) n all =
    let head : cond (has_number shards n t) 1 0 ≡ cond (is_at n e) 1 0 = rw all.0.number in
    let tail = times_of_entries shards ts es n all.1 in
    count_more (has_number shards n) t ts ∙ (λ i. head i + tail i) ∙ sym (count_more (is_at n) e es)

-- ---- over any test

pub count_none : {A : Type 0} (p : A → Bool) (xs : List A) → list_any p xs ≡ false → count_by p xs ≡ 0
count_none p [] e = refl
count_none p (x ∷ xs) e = count_more p x xs ∙ go (p x) e (count_none p xs)
  where
    go : (b : Bool) → (b || list_any p xs) ≡ false → (list_any p xs ≡ false → count_by p xs ≡ 0) → cond b 1 0 + count_by p xs ≡ 0
    go true h ih = cc
    go false h ih = omega (arith, ih h)

pub count_some : {A : Type 0} (p : A → Bool) (xs : List A) → list_any p xs ≡ true → 0 < count_by p xs
count_some p [] e = cc
count_some p (x ∷ xs) e = rw (count_more p x xs) (go (p x) e (count_some p xs))
  where
    go : (b : Bool) → (b || list_any p xs) ≡ true → (list_any p xs ≡ true → 0 < count_by p xs) → 0 < cond b 1 0 + count_by p xs
    go true h ih = omega arith
    go false h ih = omega (arith, ih h)

pub not_found_none : {A : Type 0} (p : A → Bool) (xs : List A) → find p xs ≡ None → count_by p xs ≡ 0
not_found_none p [] e = refl
not_found_none p (x ∷ xs) e = count_more p x xs ∙ go (p x) e (not_found_none p xs)
  where
    go : (b : Bool) → cond b (Some x) (find p xs) ≡ None → (find p xs ≡ None → count_by p xs ≡ 0) → cond b 1 0 + count_by p xs ≡ 0
    go true h ih = cc
    go false h ih = omega (arith, ih h)

pub found_some : {A : Type 0} (p : A → Bool) (xs : List A) (x : A) → find p xs ≡ Some x → 0 < count_by p xs
found_some p [] y e = cc
found_some p (x ∷ xs) y e = rw (count_more p x xs) (go (p x) e (found_some p xs y))
  where
    go : (b : Bool) → cond b (Some x) (find p xs) ≡ Some y → (find p xs ≡ Some y → 0 < count_by p xs) → 0 < cond b 1 0 + count_by p xs
    go true h ih = omega arith
    go false h ih = omega (arith, ih h)

-- ---- one table more

-- of a number that no table has, the next table has it at most once; of any other number there are as many as before
pub one_more : (shards : ℕ) (tables : List Members) (table : Members) (m n : ℕ) → number_of shards table ≡ Some m → how_often shards tables m ≡ 0 → how_often shards tables n ≤ 1 → how_often shards (tables ++ table ∷ []) n ≤ 1
one_more shards tables table m n number none few =
    let count = sum_by-append (λ t. cond (has_number shards n t) 1 0) tables (table ∷ []) in
    let own : has_number shards n table ≡ (m == n) = rw number in
    go (m == n) refl own count
  where
    go : (b : Bool) → (m == n) ≡ b → has_number shards n table ≡ b → how_often shards (tables ++ table ∷ []) n ≡ how_often shards tables n + (0 + cond (has_number shards n table) 1 0) → how_often shards (tables ++ table ∷ []) n ≤ 1
    go true e own count =
        let same : m ≡ n = eqb-true m n e in
        let none_here : how_often shards tables n ≡ 0 = rw (← same) none in
        let more : how_often shards (tables ++ table ∷ []) n ≡ how_often shards tables n + (0 + 1) = rw own at count in
        omega arith
    go false e own count =
        let more : how_often shards (tables ++ table ∷ []) n ≡ how_often shards tables n + (0 + 0) = rw own at count in
        omega arith

-- a table whose number an earlier one has makes two
pub two_of : (shards : ℕ) (earlier rest : List Members) (table : Members) (n : ℕ) → number_of shards table ≡ Some n → 0 < how_often shards earlier n → 1 < how_often shards (earlier ++ table ∷ rest) n
two_of shards earlier rest table n number some =
    let own : has_number shards n table ≡ true = rw number (search rules) in
    let head : cond {A = ℕ} (has_number shards n table) 1 0 ≡ 1 = rw own refl in
    let here : how_often shards (table ∷ rest) n ≡ cond (has_number shards n table) 1 0 + how_often shards rest n = count_more (has_number shards n) table rest in
    let all : how_often shards (earlier ++ table ∷ rest) n ≡ how_often shards earlier n + how_often shards (table ∷ rest) n = sum_by-append (λ t. cond (has_number shards n t) 1 0) earlier (table ∷ rest) in
    omega arith
