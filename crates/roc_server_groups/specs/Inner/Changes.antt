-- What goes into the index, and what is taken out of it
use Rattle.std.specs.Prelude.{◌≡◌, ◌<◌, Bool, not, List, [], ◌∷◌, ◌++◌, filter, if◌then◌else◌}
use Rattle.std.specs.List.{AllByRecursion, list_any}
use Rattle.roc_sequence.specs.Places.{is_listed}
use Rattle.roc_base.specs.declared.id.TxnId.{TxnId}
use Rattle.roc_base.specs.TxnId.{is_txn}
use Rattle.roc_rows.specs.declared.cell.Cell.{Cell}
use Rattle.roc_rows.specs.Cells.{is_cell}
use Rattle.roc_group.specs.declared.access.Access.{Access}
use Rattle.roc_server_index.specs.declared.group_ref.GroupRef.{GroupRef}
use Rattle.roc_server_index.specs.GroupRefs.{CellRefs, group_refs_at, spare_at, without}

-- there is room for one more reference at the cell of each of these uses
abbrev pub HasRoomAtCells : List Access → List (Cell × CellRefs) → Type 0
HasRoomAtCells cells index = AllByRecursion (λ a. 0 < spare_at a.cell index) cells

-- the reference stands behind those of each of these cells
abbrev pub IsAddedAt : GroupRef → List Access → (old new : List (Cell × CellRefs)) → Type 0
IsAddedAt s cells old new = (c : Cell) → group_refs_at c new ≡ group_refs_at c old ++ (if list_any (λ a. is_cell a.cell c) cells then s ∷ [] else [])

-- ---- what is taken out

-- the transaction is out of the cells that pass, and no other cell has changed
abbrev pub IsOutOf : TxnId → (Cell → Bool) → (old new : List (Cell × CellRefs)) → Type 0
IsOutOf id passes old new = (c : Cell) → group_refs_at c new ≡ (if passes c then without id (group_refs_at c old) else group_refs_at c old)

-- it is out of all cells
abbrev pub IsOutOfAll : TxnId → (old new : List (Cell × CellRefs)) → Type 0
IsOutOfAll id old new = (c : Cell) → group_refs_at c new ≡ without id (group_refs_at c old)

-- the references of these transactions are out of all cells, and all others stay
abbrev pub AreOut : List TxnId → (old new : List (Cell × CellRefs)) → Type 0
AreOut ids old new = (c : Cell) → group_refs_at c new ≡ filter (λ s. not (is_listed is_txn ids s.id)) (group_refs_at c old)
