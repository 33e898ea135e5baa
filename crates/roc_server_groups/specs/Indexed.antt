-- The index from cells to the undecided groups that use them
use Rattle.std.specs.Prelude.{◌≡◌, true, not, List, [], ◌∷◌, filter, if◌then◌else◌}
use Rattle.roc_sequence.specs.Lists.{Has}
use Rattle.roc_sequence.specs.Places.{is_listed}
use Rattle.roc_base.specs.declared.id.TxnId.{TxnId}
use Rattle.roc_base.specs.TxnId.{is_txn}
use Rattle.roc_rows.specs.declared.cell.Cell.{Cell}
use Rattle.roc_server_index.specs.declared.group_ref.GroupRef.{GroupRef}
use Rattle.roc_server_index.specs.GroupRefs.{CellRefs, group_refs_at}
use Rattle.roc_step.specs.declared.started.StartedGroup.{StartedGroup}
use Rattle.roc_step.specs.Start.{uses_cell}

abbrev pub group_ref_of : StartedGroup → GroupRef
group_ref_of e = record { id = e.id; proc = e.proc; group = e.group }

-- the references of those of the groups that use a cell
abbrev pub group_refs_of : Cell → List StartedGroup → List GroupRef
group_refs_of c [] = []
group_refs_of c (e ∷ es) = if uses_cell c e then group_ref_of e ∷ group_refs_of c es else group_refs_of c es

-- those whose transactions are not decided
abbrev pub undecided_refs : List TxnId → List GroupRef → List GroupRef
undecided_refs decided ss = filter (λ s. not (is_listed is_txn decided s.id)) ss

-- at each cell it has exactly the references of the undecided groups that use the cell
abbrev pub IsIndexOf : List (Cell × CellRefs) → List TxnId → List StartedGroup → Type 0
IsIndexOf index decided started = (c : Cell) → group_refs_at c index ≡ undecided_refs decided (group_refs_of c started)

-- s is the reference of one of these groups, which uses the cell
pub record IsGroupRefOf (es : List StartedGroup) (c : Cell) (s : GroupRef) : Type 0 where
  pub group : StartedGroup
  pub has : Has group es
  pub is : s ≡ group_ref_of group
  pub used : uses_cell c group ≡ true

abbrev pub AreGroupRefsOf : List StartedGroup → List (Cell × CellRefs) → Type 0
AreGroupRefsOf started index = (c : Cell) (s : GroupRef) → Has s (group_refs_at c index) → IsGroupRefOf started c s
