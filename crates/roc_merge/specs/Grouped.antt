-- The groups where a test tells the core, built piece by piece
use Rattle.std.specs.Prelude.{ℕ, Bool, List, [], ◌∷◌, filter, if◌then◌else◌}
use Rattle.std.specs.List.{flat_map, list_any, range_with_len}

-- what a piece adds: the whole core where it is the core's first, itself where it is not in the core
abbrev pub group_from : (ℕ → Bool) → (count x : ℕ) → List (List ℕ)
group_from core count x =
    if core x then (if list_any core (range_with_len 0 x) then [] else filter core (range_with_len 0 count) ∷ [])
    else (x ∷ []) ∷ []

abbrev pub grouped : (ℕ → Bool) → ℕ → List (List ℕ)
grouped core count = flat_map (group_from core count) (range_with_len 0 count)
