-- What a link took over several calls.
use Rattle.std.proofs.Common.{◌≡◌, inl, inr, ℕ, zero, suc, ◌+◌, ◌-◌, ◌<◌, ◌≤◌, Bool, true, false, List, [], ◌∷◌, ◌++◌, length, get_or, take, refl, sym, ◌∙◌, ap, subst, arith}
use Rattle.std.proofs.lemmas.List.{take_more}
use Rattle.std.specs.Prelude.{Option}
use Rattle.roc_io.specs.Cause.{HasCause, last_count}
use Rattle.roc_io.specs.Observed.{Adds, AddsUnless, AllBut, AddsAllBut}
use Rattle.roc_io.proofs.Causes.{never_falls}
use Rattle.roc_io.proofs.Told.{Adds-nil, Adds-trans}

-- at most this many is at most more
pub AllBut-more : {X : Type 0} (n k : ℕ) (xs some : List X) → n ≤ k → AllBut n xs some → AllBut k xs some
AllBut-more n k [] some le none = none
AllBut-more n k (y ∷ xs) some le (inl here) = inl (here.0, here.1, AllBut-more n k xs here.0 le here.2)
AllBut-more n (suc k) (y ∷ xs) some le (inr gone) = inr (k, refl, AllBut-more gone.0 k xs some (let e = gone.1 in omega arith) gone.2)
AllBut-more n zero (y ∷ xs) some le (inr gone) = absurd (let e = gone.1 in omega arith)

-- one list after another
pub AllBut-append : {X : Type 0} (n m : ℕ) (xs ys some more : List X) → AllBut n xs some → AllBut m ys more → AllBut (n + m) (xs ++ ys) (some ++ more)
AllBut-append n m [] ys some more none rest = rw none (AllBut-more m (n + m) ys more (omega arith) rest)
AllBut-append n m (x ∷ xs) ys some more (inl here) rest =
    inl (here.0 ++ more, ap (λ l. l ++ more) here.1, AllBut-append n m xs ys here.0 more here.2 rest)
AllBut-append n m (x ∷ xs) ys some more (inr gone) rest =
    inr (gone.0 + m, let e = gone.1 in omega arith, AllBut-append gone.0 m xs ys some more gone.2 rest)

-- one call after another
pub AddsAllBut-trans : {X : Type 0} (n m : ℕ) (a b c : Option (List X)) (xs ys : List X)
    → AddsAllBut n a b xs → AddsAllBut m b c ys → AddsAllBut (n + m) a c (xs ++ ys)
AddsAllBut-trans n m a b c xs ys p q =
    (p.0 ++ q.0, AllBut-append n m xs ys p.0 q.0 p.1 q.1, Adds-trans a b c p.0 q.0 p.2 q.2)

-- one call
pub AddsAllBut-one : {X : Type 0} (failed : Bool) (before after : ℕ) (a b : Option (List X)) (x : X)
    → HasCause failed before after → after < last_count → AddsUnless failed a b x → AddsAllBut (after - before) a b (x ∷ [])
AddsAllBut-one true before after a b x cause below adds =
    let rose : before < after = cause.rose below in
    ([], inr (after - before - 1, omega arith, refl), subst (λ o. Adds a o []) (sym adds) (Adds-nil a))
AddsAllBut-one false before after a b x cause below adds = (x ∷ [], inl ([], refl, refl), adds)

-- after one more send, of the datagram at i
pub AddsAllBut-next : {X : Type 0} (failed : Bool) (start before after : ℕ) (a b c : Option (List X)) (xs : List X) (i : ℕ) (x : X)
    → i < length xs → x ≡ get_or xs i x → start ≤ before → HasCause failed before after → after < last_count
    → AddsAllBut (before - start) a b (take i xs) → AddsUnless failed b c x → AddsAllBut (after - start) a c (take (i + 1) xs)
AddsAllBut-next failed start before after a b c xs i x inside is le cause below taken adds =
    let rises = never_falls failed before after cause in
    let next : take i xs ++ x ∷ [] ≡ take (i + 1) xs = ap (λ y. take i xs ++ y ∷ []) is ∙ sym (take_more xs i x inside) in
    let both = AddsAllBut-trans (before - start) (after - before) a b c (take i xs) (x ∷ []) taken (AddsAllBut-one failed before after b c x cause below adds) in
    let count : before - start + (after - before) ≡ after - start = omega arith in
    subst (λ n. AddsAllBut n a c (take (i + 1) xs)) count (subst (λ l. AddsAllBut (before - start + (after - before)) a c l) next both)
