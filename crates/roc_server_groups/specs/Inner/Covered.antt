-- Uses, less those that a later one covers
use Rattle.std.specs.Prelude.{◌≡◌, ◌≤◌, ◌&&◌, ◌||◌, not, Bool, List, [], ◌∷◌, ◌++◌, length, if◌then◌else◌}
use Rattle.std.specs.List.{flat_map, list_any}
use Rattle.roc_rows.specs.Cells.{is_cell}
use Rattle.roc_group.specs.declared.access.Access.{Access}
use Rattle.roc_group.specs.Accesses.{meets}
use Rattle.roc_step.specs.declared.started.StartedGroup.{StartedGroup}

-- the first is of the other's cell, and writes where that one does
abbrev pub covers : Access → Access → Bool
covers b a = is_cell b.cell a.cell && (b.writes || not a.writes)

-- with one more, unless one of them covers it
abbrev pub with_use : Access → List Access → List Access
with_use a uses = if list_any (λ b. covers b a) uses then uses else uses ++ a ∷ []

-- they meet exactly what these meet, and no cell stands there more often
pub record AreSameUses (cells uses : List Access) : Type 0 where
  pub met : (x : Access) → meets uses x ≡ meets cells x
  pub fewer : (f : Access → List StartedGroup) → length (flat_map f uses) ≤ length (flat_map f cells)
