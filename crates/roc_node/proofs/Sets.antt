-- A place behind a list's end
use Rattle.std.proofs.Common.{◌≡◌, ℕ, zero, suc, ◌≤◌, List, [], ◌∷◌, length, slice_set, refl, ap, arith}

pub set_behind : {X : Type 0} (xs : List X) (i : ℕ) (x : X) → length xs ≤ i → slice_set xs i x ≡ xs
set_behind [] i x le = refl
set_behind (y ∷ ys) zero x le = absurd (omega arith)
set_behind (y ∷ ys) (suc i) x le = ap (λ l. y ∷ l) (set_behind ys i x (omega arith))
