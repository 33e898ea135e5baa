-- The first of some names
use Rattle.std.proofs.Common.{◌≡◌, ℕ, ◌≤◌, List, ◌++◌, length, take, map, sym, ap, ◌∙◌, arith}
use Rattle.std.specs.Prelude.{min}
use Rattle.std.proofs.lemmas.List.{take-map, take_at, take_min, length-take-le}

pub first_taken : {A B : Type 0} (f : A → B) (found rest new : List A) (n : ℕ) → n ≡ min (length found) 80 → new ≡ take n found
    → take (min n 80) (map f (new ++ rest)) ≡ take 80 (map f found)
first_taken f found rest new n least copied =
    let few : n ≤ length found = omega (arith, least) in
    let long : length new ≡ n = ap length copied ∙ length-take-le n found few in
    let count : n ≡ min 80 (length found) = omega (arith, least) in
    let same : min n 80 ≡ n = omega (arith, least) in
    ap (λ m. take m (map f (new ++ rest))) same ∙ take-map f n (new ++ rest)
    ∙ ap (map f) (take_at new rest n long ∙ copied ∙ ap (λ m. take m found) count ∙ take_min 80 found)
    ∙ sym (take-map f 80 found)
