-- Rows and their marks together, and the lists that they hold
use Rattle.std.specs.Prelude.{◌≡◌, ◌≢◌, ◌<◌, ◌⊎◌, ℕ, true, List, [], ◌∷◌, Some, length, map, if◌then◌else◌}
use Rattle.std.specs.Map.{lookup}
use Rattle.roc_sequence.specs.Lists.{Has}
use Rattle.roc_base.specs.declared.id.TxnId.{TxnId}
use Rattle.roc_base.specs.TxnId.{is_txn}
use Rattle.roc_step.specs.Links.{without_links}
use Rattle.roc_server_rows.specs.declared.rows.Row.{Row}
use Rattle.roc_server_rows.specs.declared.rows.Parts.{Parts}
use Rattle.roc_server_rows.specs.declared.marks.Mark.{Mark}
use Rattle.roc_server_table.specs.Kept.{TableLists}
use Rattle.roc_server_table.specs.Inner.Rising.{rising_ids}
use Rattle.roc_server_rows.specs.Rows.{row_in, known_of, row_links, AreWhole}
use Rattle.roc_server_rows.specs.Marks.{mark_in, AreMarked, AreOpen, AreSameDecided}

-- ---- what they hold

-- the transactions of the rows that are marked as decided, in the order of the rows
abbrev pub decided_of : List Row → List Mark → List TxnId
decided_of [] ms = []
decided_of (r ∷ rs) [] = []
decided_of (r ∷ rs) (m ∷ ms) = if m.decided then r.id ∷ decided_of rs ms else decided_of rs ms

abbrev pub table_of : List Row → List Mark → TableLists
table_of rows marks = record { known = known_of rows; links = row_links rows; decided = rising_ids (decided_of rows marks) }

-- ---- what is kept right

pub record IsKept (parts : Parts) (marks : List Mark) : Type 0 where
  -- the rows are those of their transactions
  pub whole : AreWhole parts
  -- the marks say what is so
  pub marked : AreMarked parts.rows.items marks
  -- each row has one
  pub each : length marks ≡ length parts.rows.items
  -- those that are open are listed
  pub undecided : AreOpen parts.rows.items marks parts.undecided.items

-- ---- marks that change

-- the same marks, and as many as there are rows
pub record IsFilled (rows : List Row) (old new : List Mark) : Type 0 where
  pub each : length new ≡ length rows
  pub same : (n : ℕ) → mark_in new n ≡ mark_in old n

-- a row is decided too, where there is one at this number
pub record IsDecidedAt (at : ℕ) (old new : List Mark) : Type 0 where
  pub waits : (n : ℕ) → (mark_in new n).waits ≡ (mark_in old n).waits
  pub own : at < length old → (mark_in new at).decided ≡ true
  pub others : (n : ℕ) → n ≢ at → (mark_in new n).decided ≡ (mark_in old n).decided

-- the rows of these are decided too, and no others
pub record AreDecidedToo (numbers : List (TxnId × ℕ)) (ids : List TxnId) (old new : List Mark) : Type 0 where
  pub each : length new ≡ length old
  pub waits : (n : ℕ) → (mark_in new n).waits ≡ (mark_in old n).waits
  pub stay : (n : ℕ) → (mark_in old n).decided ≡ true → (mark_in new n).decided ≡ true
  pub too : (t : TxnId) (n : ℕ) → Has t ids → lookup (is_txn t) numbers ≡ Some n → n < length old → (mark_in new n).decided ≡ true
  pub only : (n : ℕ) → (mark_in new n).decided ≡ true → ((mark_in old n).decided ≡ true) ⊎ ((t : TxnId) × Has t ids × (lookup (is_txn t) numbers ≡ Some n))

-- ---- rows that change

-- the rows of the same transactions are decided
pub record AreAlikeDecided (old_rows new_rows : List Row) (old new : List Mark) : Type 0 where
  pub same : AreSameDecided old new
  pub ids : (n : ℕ) → (mark_in new n).decided ≡ true → (row_in new_rows n).id ≡ (row_in old_rows n).id

-- the entries that name a transaction are done
pub record Settles (id : TxnId) (old_rows new_rows : List Row) (old new : List Mark) : Type 0 where
  pub marked : AreMarked new_rows new
  pub each : length new ≡ length old
  pub rows : length new_rows ≡ length old_rows
  pub known : known_of new_rows ≡ known_of old_rows
  pub links : row_links new_rows ≡ map (without_links (λ t. is_txn t id)) (row_links old_rows)
  pub decided : AreAlikeDecided old_rows new_rows old new
