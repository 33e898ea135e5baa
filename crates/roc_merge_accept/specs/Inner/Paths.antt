-- Tables of paths between few numbers
use Rattle.std.specs.Prelude.{◌≡◌, ℕ, ◌<◌, Bool, false, List, [], slice_index_or}
use Rattle.roc_merge_groups.specs.Paths.{leads_below}

-- the entry of a table
abbrev pub entry : List (List Bool) → ℕ → ℕ → Bool
entry table a b = slice_index_or (slice_index_or table a []) b false

-- the table tells of the first n numbers which leads to which by those below k
abbrev pub IsPaths : (ℕ → ℕ → Bool) → (n k : ℕ) → List (List Bool) → Type 0
IsPaths step n k table = (a b : ℕ) → a < n → b < n → entry table a b ≡ leads_below step k a b
