-- What an object tells of what it took: a list, or nothing from the moment on that it no longer knows.
use Rattle.std.specs.Prelude.{◌≡◌, ◌⊎◌, ℕ, suc, Bool, true, false, List, [], ◌∷◌, ◌++◌, take, Option, Some, None}

-- where new is told, old was told, and new is old with these at its end
abbrev pub Adds : {X : Type 0} → Option (List X) → Option (List X) → List X → Type 0
Adds old None xs = Unit {0}
Adds None (Some new) xs = ⊥
Adds (Some old) (Some new) xs = new ≡ old ++ xs

-- the same with some front of these
abbrev pub AddsFront : {X : Type 0} → Option (List X) → Option (List X) → List X → Type 0
AddsFront old new xs = (n : ℕ) × Adds old new (take n xs)

-- these, and behind them some front of those
abbrev pub AddsThenFront : {X : Type 0} → Option (List X) → Option (List X) → (whole cut : List X) → Type 0
AddsThenFront old new whole cut = (n : ℕ) × Adds old new (whole ++ take n cut)

-- with this one more, where the call failed; the same, told or not, where it did not
abbrev pub AddsIf : {X : Type 0} → Bool → Option (List X) → Option (List X) → X → Type 0
AddsIf true old new x = Adds old new (x ∷ [])
AddsIf false old new x = new ≡ old

-- with this one more, where the call did not fail; the same, told or not, where it did
abbrev pub AddsUnless : {X : Type 0} → Bool → Option (List X) → Option (List X) → X → Type 0
AddsUnless true old new x = new ≡ old
AddsUnless false old new x = Adds old new (x ∷ [])

-- some are these in their order, all but at most n of them
abbrev pub AllBut : {X : Type 0} → ℕ → List X → List X → Type 0
AllBut n [] some = some ≡ []
AllBut {X} n (x ∷ xs) some = ((rest : List X) × (some ≡ x ∷ rest) × AllBut n xs rest) ⊎ ((m : ℕ) × (n ≡ suc m) × AllBut m xs some)

-- where new is told, it is old with these at its end, all but at most n of them
abbrev pub AddsAllBut : {X : Type 0} → ℕ → Option (List X) → Option (List X) → List X → Type 0
AddsAllBut {X} n old new xs = (some : List X) × AllBut n xs some × Adds old new some
