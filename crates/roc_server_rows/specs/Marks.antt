-- Which rows are decided, and at which row without a list the others wait
use Rattle.std.specs.Prelude.{◌≡◌, ◌≢◌, ◌<◌, ◌⊎◌, ◌&&◌, ℕ, Bool, true, false, not, List, [], ◌∷◌, Option, Some, length, slice_index_or}
use Rattle.roc_sequence.specs.Lists.{Has}
use Rattle.roc_depgraph.specs.declared.known.KnownList.{KnownList}
use Rattle.roc_depgraph.specs.Deps.{IsDecided}
use Rattle.roc_server_rows.specs.declared.rows.Link.{Link}
use Rattle.roc_server_rows.specs.declared.rows.Row.{Row}
use Rattle.roc_server_rows.specs.declared.marks.Mark.{Mark}
use Rattle.roc_server_rows.specs.declared.rows.Parts.{Parts}
use Rattle.roc_server_rows.specs.Rows.{row_in, is_alive, is_told, Grows}
use Rattle.roc_server_rows.specs.Except.{no_link}
use Rattle.roc_server_rows.specs.LinksBut.{links_but}

abbrev pub no_mark : Mark
no_mark = record { decided = false; waits = no_link }

abbrev pub mark_in : List Mark → ℕ → Mark
mark_in marks n = slice_index_or marks n no_mark

-- links that are alive lead from a row to another, over rows that have lists
pub data RowLeads (rows : List Row) : ℕ → ℕ → Type 0 where
  at_end : {n : ℕ} → RowLeads rows n n
  by_link : {n m : ℕ} (l : Link) → is_told (row_in rows n) ≡ true → Has l (row_in rows n).names → is_alive rows l ≡ true → RowLeads rows l.at m → RowLeads rows n m

-- a row leads to this one, which has no list
pub record WaitsOn (rows : List Row) (n : ℕ) (w : Link) : Type 0 where
  pub leads : RowLeads rows n w.at
  pub live : 0 < (row_in rows w.at).birth
  pub untold : (row_in rows w.at).turn ≡ 0

-- What is decided leads to what is decided, and what waits leads to what it waits at
pub record AreMarked (rows : List Row) (marks : List Mark) : Type 0 where
  pub decided_told : (n : ℕ) → (mark_in marks n).decided ≡ true → is_told (row_in rows n) ≡ true
  pub decided_free : (n : ℕ) → (mark_in marks n).decided ≡ true → (mark_in marks n).waits.birth ≡ 0
  pub closed : (n : ℕ) → (mark_in marks n).decided ≡ true → (l : Link) → Has l (row_in rows n).names → is_alive rows l ≡ true → (mark_in marks l.at).decided ≡ true
  pub waits : (n : ℕ) → 0 < (mark_in marks n).waits.birth → WaitsOn rows n (mark_in marks n).waits

-- ---- rows in question

-- the row has a list and is not decided
pub record IsOpen (rows : List Row) (marks : List Mark) (n : ℕ) : Type 0 where
  pub within : n < length marks
  pub told : is_told (row_in rows n) ≡ true
  pub undecided : (mark_in marks n).decided ≡ false

-- the same as a test, where each row has a mark
abbrev pub is_open : List Row → List Mark → ℕ → Bool
is_open rows marks n = not (mark_in marks n).decided && is_told (row_in rows n)

-- all that waits is among these
abbrev pub HasWaiting : List Mark → List ℕ → Type 0
HasWaiting marks undecided = (n : ℕ) → 0 < (mark_in marks n).waits.birth → Has n undecided

-- the same are decided
abbrev pub AreSameDecided : (old new : List Mark) → Type 0
AreSameDecided old new = (n : ℕ) → (mark_in new n).decided ≡ (mark_in old n).decided

-- no number stands there twice
abbrev pub EachOnce : List ℕ → Type 0
EachOnce [] = Unit {0}
EachOnce (n ∷ ns) = (¬ Has n ns) × EachOnce ns

-- these are all the rows that have lists and are not decided
pub record AreOpen (rows : List Row) (marks : List Mark) (undecided : List ℕ) : Type 0 where
  pub only : (n : ℕ) → Has n undecided → IsOpen rows marks n
  pub all : (n : ℕ) → is_told (row_in rows n) ≡ true → (mark_in marks n).decided ≡ false → Has n undecided
  pub once : EachOnce undecided
  pub waiting : HasWaiting marks undecided

-- decided by such lists, and not marked so
pub record IsNewRow (links : List KnownList) (rows : List Row) (marks : List Mark) (n : ℕ) : Type 0 where
  pub told : is_told (row_in rows n) ≡ true
  pub undecided : (mark_in marks n).decided ≡ false
  pub decided : IsDecided links (row_in rows n).id

-- exactly those rows, each once
pub record AreNewRowsBy (links : List KnownList) (rows : List Row) (marks : List Mark) (ns : List ℕ) : Type 0 where
  pub only : (n : ℕ) → Has n ns → IsNewRow links rows marks n
  pub all : (n : ℕ) → IsNewRow links rows marks n → Has n ns
  pub once : EachOnce ns

-- by what is followed where links to one row are not
abbrev pub AreNewRowsBut : Option ℕ → List Row → List Mark → List ℕ → Type 0
AreNewRowsBut except rows marks ns = AreNewRowsBy (links_but except rows) rows marks ns

-- ---- rows that change

-- a row has a list now; births and links of all are as they were
pub record IsRowTold (n : ℕ) (old new : List Row) : Type 0 where
  pub untold : is_told (row_in old n) ≡ false
  pub told : is_told (row_in new n) ≡ true
  pub others : (k : ℕ) → k ≢ n → row_in new k ≡ row_in old k
  pub links : (l : Link) → is_alive new l ≡ is_alive old l

-- rows came, and then this one got a list
pub record IsLearnt (old new : Parts) (n : ℕ) : Type 0 where
  pub mid : List Row
  pub stamp : ℕ
  pub grows : Grows old.rows.items mid old.stamp stamp
  pub told : IsRowTold n mid new.rows.items

-- a row lost its list, and stays that of its transaction
pub record IsTakenBack (n : ℕ) (old new : List Row) : Type 0 where
  pub own : is_told (row_in new n) ≡ false
  pub others : (k : ℕ) → k ≢ n → row_in new k ≡ row_in old k
  pub links : (l : Link) → is_alive new l ≡ is_alive old l

-- those that waited at a row wait no longer, and all else stays
pub record Wakes (n : ℕ) (old new : List Mark) : Type 0 where
  pub each : length new ≡ length old
  pub decided : (k : ℕ) → (mark_in new k).decided ≡ (mark_in old k).decided
  pub woken : (k : ℕ) → ((mark_in new k).waits.birth ≡ 0) ⊎ (((mark_in new k).waits ≡ (mark_in old k).waits) × ((mark_in old k).waits.at ≢ n))

-- none waits any longer, and all else stays
pub record WakesAll (old new : List Mark) : Type 0 where
  pub each : length new ≡ length old
  pub same : AreSameDecided old new
  pub awake : (k : ℕ) → (mark_in new k).waits.birth ≡ 0

-- a row is out: no link leads there
pub record IsOut (n : ℕ) (old new : List Row) : Type 0 where
  pub own : is_told (row_in new n) ≡ false
  pub others : (k : ℕ) → k ≢ n → row_in new k ≡ row_in old k
  pub dead : (l : Link) → l.at ≡ n → is_alive new l ≡ false
  pub links : (l : Link) → l.at ≢ n → is_alive new l ≡ is_alive old l

-- what may end: it is decided, or has no list
abbrev pub MayEnd : List Row → List Mark → ℕ → Type 0
MayEnd rows marks n = ((mark_in marks n).decided ≡ true) ⊎ (is_told (row_in rows n) ≡ false)

-- the row that is found, if one is, is out, and its mark with it
pub record EndsAt (found : Option ℕ) (old_rows new_rows : List Row) (old new : List Mark) : Type 0 where
  pub each : length new ≡ length old
  pub rows : length new_rows ≡ length old_rows
  pub own : (n : ℕ) → found ≡ Some n → (mark_in new n).decided ≡ false
  pub decided : (n : ℕ) → (¬ (found ≡ Some n)) → (mark_in new n).decided ≡ (mark_in old n).decided
  pub ids : (n : ℕ) → (¬ (found ≡ Some n)) → (row_in new_rows n).id ≡ (row_in old_rows n).id
