-- What an index has at a cell
use Rattle.std.specs.Prelude.{◌≡◌, ◌≤◌, ℕ, Bool, false, not, ◌&&◌, ◌==◌, ◌+◌, ◌-◌, List, [], ◌∷◌, ◌++◌, Option, Some, None, length, filter, unwrap_or, slice_get, if◌then◌else◌}
use Rattle.std.specs.Map.{lookup}
use Rattle.roc_base.specs.declared.id.TxnId.{TxnId}
use Rattle.roc_base.specs.TxnId.{is_txn}
use Rattle.roc_rows.specs.declared.cell.Cell.{Cell}
use Rattle.roc_rows.specs.Cells.{is_cell}
use Rattle.roc_server_index.specs.declared.group_ref.GroupRef.{GroupRef}

-- the references of a cell, in the order in which they came, and how many more find room
pub record CellRefs : Type 0 where
  pub refs : List GroupRef
  pub spare : ℕ

-- those of a cell that has no entry
abbrev pub no_refs : CellRefs
no_refs = record { refs = []; spare = 0 }

abbrev pub cell_refs_at : Cell → List (Cell × CellRefs) → CellRefs
cell_refs_at c index = unwrap_or (lookup (is_cell c) index) no_refs

abbrev pub group_refs_at : Cell → List (Cell × CellRefs) → List GroupRef
group_refs_at c index = (cell_refs_at c index).refs

abbrev pub spare_at : Cell → List (Cell × CellRefs) → ℕ
spare_at c index = (cell_refs_at c index).spare

-- the two are of one group
abbrev pub is_same_ref : GroupRef → GroupRef → Bool
is_same_ref s r = is_txn s.id r.id && s.group == r.group

abbrev pub is_ref_of : GroupRef → Option GroupRef → Bool
is_ref_of r None = false
is_ref_of r (Some s) = is_same_ref s r

-- the last of these is of that group
abbrev pub ends_with : GroupRef → List GroupRef → Bool
ends_with r ss = is_ref_of r (slice_get ss (length ss - 1))

-- with one more, unless the last is of its group
abbrev pub with_group_ref : GroupRef → List GroupRef → List GroupRef
with_group_ref s ss = if ends_with s ss then ss else ss ++ s ∷ []

-- those of other transactions
abbrev pub without : TxnId → List GroupRef → List GroupRef
without id ss = filter (λ s. not (is_txn s.id id)) ss

-- the references of this cell change so, and those of all others stay
abbrev pub ChangesAt : Cell → (List GroupRef → List GroupRef) → (old new : List (Cell × CellRefs)) → Type 0
ChangesAt cell change old new = (c : Cell) → group_refs_at c new ≡ (if is_cell cell c then change (group_refs_at c old) else group_refs_at c old)

-- the references of all cells stay
abbrev pub HaveSameRefs : (old new : List (Cell × CellRefs)) → Type 0
HaveSameRefs old new = (c : Cell) → group_refs_at c new ≡ group_refs_at c old

-- no cell has less room
abbrev pub KeepsRoom : (old new : List (Cell × CellRefs)) → Type 0
KeepsRoom old new = (c : Cell) → spare_at c old ≤ spare_at c new

-- this cell has room for at most one less, and no other has less room
abbrev pub TakesRoomAt : Cell → (old new : List (Cell × CellRefs)) → Type 0
TakesRoomAt cell old new = (c : Cell) → spare_at c old ≤ spare_at c new + (if is_cell cell c then 1 else 0)
