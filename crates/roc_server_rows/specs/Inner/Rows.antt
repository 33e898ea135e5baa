-- Rows that are placed and named, and what single rows hold
use Rattle.std.specs.Prelude.{◌≡◌, ◌<◌, ◌⊎◌, ℕ, Bool, true, false, List, [], ◌∷◌, ◌++◌, Option, Some, None, length, slice_set, if◌then◌else◌}
use Rattle.roc_base.specs.declared.id.TxnId.{TxnId}
use Rattle.roc_base.specs.Edge.{Dependency}
use Rattle.roc_server_rows.specs.declared.rows.Link.{Link}
use Rattle.roc_server_rows.specs.declared.rows.Row.{Row}
use Rattle.roc_server_rows.specs.declared.rows.Parts.{Parts}
use Rattle.roc_server_rows.specs.Rows.{row_in, is_told, lists_by, IsRowOf, Grows}

-- ---- a row

-- the list of the row, where it has one
abbrev pub told_list : Row → Option (List Dependency)
told_list r = if is_told r then Some r.edges else None

-- the entries of the list, where there is one
abbrev pub told_entries : Row → List Dependency
told_entries r = if is_told r then r.edges else []

-- ---- changes

-- a row stands at a number now: one that was free, or that behind the last
abbrev pub IsPlaced : (old new : List Row) → Row → ℕ → Type 0
IsPlaced old new r at =
    ((at < length old) × ((row_in old at).birth ≡ 0) × (new ≡ slice_set old at r))
    ⊎ ((at ≡ length old) × (new ≡ old ++ r ∷ []))

-- the lists stay
pub record GrowsTo (old new : Parts) : Type 0 where
  pub rows : Grows old.rows.items new.rows.items old.stamp new.stamp
  pub lists : lists_by new.rows.items ≡ lists_by old.rows.items

-- it leads to the row of a transaction, unless that is done; then it leads nowhere
abbrev pub IsLinkFor : List Row → (stamp : ℕ) → TxnId → Bool → Link → Type 0
IsLinkFor rows stamp id true l = (l.birth ≡ 0) × (0 < stamp)
IsLinkFor rows stamp id false l = IsRowOf rows l.at id × ((row_in rows l.at).birth ≡ l.birth) × (l.birth < stamp)
