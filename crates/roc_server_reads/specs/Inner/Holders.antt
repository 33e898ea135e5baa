-- Whether what the index leads to holds reads up
use Rattle.std.specs.Prelude.{◌≡◌, ℕ, Bool, true, false, not, ◌&&◌, List, Option, Some, None}
use Rattle.std.specs.List.{list_any}
use Rattle.roc_sequence.specs.Lists.{Has}
use Rattle.roc_sequence.specs.Places.{is_listed}
use Rattle.roc_base.specs.declared.id.TxnId.{TxnId}
use Rattle.roc_base.specs.TxnId.{is_txn}
use Rattle.roc_rows.specs.declared.cell.Cell.{Cell}
use Rattle.roc_group.specs.declared.access.Access.{Access}
use Rattle.roc_group.specs.Accesses.{do_write}
use Rattle.roc_server_groups.specs.Indexed.{group_refs_of, undecided_refs}
use Rattle.roc_server_index.specs.declared.group_ref.GroupRef.{GroupRef}
use Rattle.roc_server_reads.specs.Behind.{decided_behind, is_held_up, HoldsUp, LeftBehind}
use Rattle.roc_server_reads.specs.Looks.{is_held_by}
use Rattle.roc_step.specs.declared.started.StartedGroup.{StartedGroup}
use Rattle.roc_step.specs.State.{find_group}

-- ---- by a hint

abbrev pub is_hint_right : LeftBehind → List Access → Option GroupRef → Bool
is_hint_right b uses None = false
is_hint_right b uses (Some r) = is_held_by b uses r

-- how many groups there are to look at for it
abbrev pub count_of_hint : Option GroupRef → ℕ
count_of_hint None = 0
count_of_hint (Some r) = 1

-- ---- by the index

-- the group that was found writes the cell
abbrev pub writes_cell : Cell → Option StartedGroup → Bool
writes_cell c None = false
writes_cell c (Some e) = do_write e.cells c

-- the group of a reference is not newly decided, and writes the cell
abbrev pub holds_at : List StartedGroup → (newly : List TxnId) → Cell → GroupRef → Bool
holds_at started newly c s = not (is_listed is_txn newly s.id) && writes_cell c (find_group s.id s.group started)

-- that of one of the references at the cell does
abbrev pub is_held_at : LeftBehind → Cell → Bool
is_held_at b c = list_any (holds_at b.started b.newly c) (undecided_refs b.decided (group_refs_of c b.started))

-- it is one of the references at the cell, of a group that does, and there is none where none does
abbrev pub IsFoundAt : LeftBehind → Cell → Option GroupRef → Type 0
IsFoundAt b c None = is_held_at b c ≡ false
IsFoundAt b c (Some r) = Has r (undecided_refs b.decided (group_refs_of c b.started)) × (holds_at b.started b.newly c r ≡ true)

-- ---- one after another

abbrev pub IsStartedHolder : LeftBehind → List Access → Option GroupRef → Type 0
IsStartedHolder b uses None = is_held_up (decided_behind b) uses b.started ≡ false
IsStartedHolder b uses (Some r) = HoldsUp b uses r

abbrev pub IsStartingHolder : LeftBehind → List Access → Option GroupRef → Type 0
IsStartingHolder b uses None = is_held_up (decided_behind b) uses b.starting ≡ false
IsStartingHolder b uses (Some r) = HoldsUp b uses r
