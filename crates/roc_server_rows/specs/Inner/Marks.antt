-- How rows in question are looked at, and how single marks change
use Rattle.std.specs.Prelude.{◌≡◌, ◌≢◌, ◌<◌, ◌≤◌, ◌⊎◌, ◌&&◌, ℕ, Bool, true, false, not, nat_lt, suc, List, [], ◌∷◌, length, if◌then◌else◌}
use Rattle.std.specs.List.{AllByRecursion}
use Rattle.roc_sequence.specs.Lists.{Has}
use Rattle.roc_base.specs.declared.id.TxnId.{TxnId}
use Rattle.roc_server_rows.specs.declared.rows.Link.{Link}
use Rattle.roc_server_rows.specs.declared.rows.Row.{Row}
use Rattle.roc_server_rows.specs.declared.marks.Mark.{Mark}
use Rattle.roc_server_rows.specs.Rows.{row_in, is_alive, is_told, row_links, IsRowTable}
use Rattle.roc_server_rows.specs.Marks.{mark_in, AreMarked, AreNewRowsBy, AreSameDecided, EachOnce, IsOpen, WaitsOn}

-- the row has a list, and waits at none
pub record IsFreeRow (rows : List Row) (marks : List Mark) (n : ℕ) : Type 0 where
  pub told : is_told (row_in rows n) ≡ true
  pub free : (mark_in marks n).waits.birth ≡ 0

-- all that it names is so
abbrev pub LeadsFree : List Row → List Mark → ℕ → Type 0
LeadsFree rows marks n = (l : Link) → Has l (row_in rows n).names → is_alive rows l ≡ true → IsFreeRow rows marks l.at

-- what is found of one link: what its row waits at, or that it is free
pub record IsHeldThrough (rows : List Row) (marks : List Mark) (l w : Link) : Type 0 where
  pub held : 0 < w.birth → (is_alive rows l ≡ true) × WaitsOn rows l.at w
  pub free : w.birth ≡ 0 → is_alive rows l ≡ true → IsFreeRow rows marks l.at

-- the same of all links of a row
pub record IsHeldBy (rows : List Row) (marks : List Mark) (n : ℕ) (w : Link) : Type 0 where
  pub held : 0 < w.birth → WaitsOn rows n w
  pub free : w.birth ≡ 0 → LeadsFree rows marks n

-- ---- rows in question

-- how many wait at none
abbrev pub count_free : List Mark → ℕ
count_free [] = 0
count_free (m ∷ ms) = if nat_lt 0 m.waits.birth then count_free ms else suc (count_free ms)

-- what waited waits still
abbrev pub KeepsWaits : (old new : List Mark) → Type 0
KeepsWaits old new = (n : ℕ) → 0 < (mark_in old n).waits.birth → 0 < (mark_in new n).waits.birth

-- what waits newly has a list and was not decided
abbrev pub WaitsNewly : List Row → (old new : List Mark) → Type 0
WaitsNewly rows old new = (n : ℕ) → 0 < (mark_in new n).waits.birth → (0 < (mark_in old n).waits.birth) ⊎ ((is_told (row_in rows n) ≡ true) × ((mark_in old n).decided ≡ false))

-- where it waits at none, all that it names does
abbrev pub IsSettled : List Row → List Mark → ℕ → Type 0
IsSettled rows marks n = (mark_in marks n).waits.birth ≡ 0 → LeadsFree rows marks n

-- a row was looked at: it waits now, or nothing changed
pub record Holds (rows : List Row) (old new : List Mark) (n : ℕ) (changed : Bool) : Type 0 where
  pub marked : AreMarked rows new
  pub same : AreSameDecided old new
  pub each : length new ≡ length old
  pub keeps : KeepsWaits old new
  pub newly : WaitsNewly rows old new
  pub none : changed ≡ false → new ≡ old
  pub settled : changed ≡ false → IsSettled rows old n
  pub fewer : changed ≡ true → count_free new < count_free old

-- so were several
pub record HoldsSome (rows : List Row) (old new : List Mark) (ns : List ℕ) (changed : Bool) : Type 0 where
  pub marked : AreMarked rows new
  pub same : AreSameDecided old new
  pub each : length new ≡ length old
  pub keeps : KeepsWaits old new
  pub newly : WaitsNewly rows old new
  pub none : changed ≡ false → new ≡ old
  pub settled : changed ≡ false → AllByRecursion (IsSettled rows old) ns
  pub no_more : count_free new ≤ count_free old
  pub fewer : changed ≡ true → count_free new < count_free old

-- again and again, until none changes
pub record HoldsAll (rows : List Row) (old new : List Mark) (ns : List ℕ) : Type 0 where
  pub marked : AreMarked rows new
  pub same : AreSameDecided old new
  pub each : length new ≡ length old
  pub keeps : KeepsWaits old new
  pub newly : WaitsNewly rows old new
  pub settled : AllByRecursion (IsSettled rows new) ns

-- the row is open and waits at none, as a test
abbrev pub is_in_question : List Row → List Mark → ℕ → Bool
is_in_question rows marks n = not (mark_in marks n).decided && (not (nat_lt 0 (mark_in marks n).waits.birth) && is_told (row_in rows n))

-- these are all the rows in question
pub record AreInQuestion (rows : List Row) (marks : List Mark) (ns : List ℕ) : Type 0 where
  pub open_rows : AllByRecursion (IsOpen rows marks) ns
  pub all : (n : ℕ) → is_told (row_in rows n) ≡ true → (mark_in marks n).decided ≡ false → (mark_in marks n).waits.birth ≡ 0 → Has n ns
  pub once : EachOnce ns

-- exactly those rows that are decided by the links of all, which are a table, and not marked so
abbrev pub FindsNew : List Row → List Mark → List ℕ → Type 0
FindsNew rows marks ns = (numbers : List (TxnId × ℕ)) (stamp : ℕ) → IsRowTable numbers rows stamp → AreNewRowsBy (row_links rows) rows marks ns

-- ---- rows that change

-- one mark changes
pub record IsChangedAt (R : Mark → Mark → Type 0) (n : ℕ) (old new : List Mark) : Type 0 where
  pub each : length new ≡ length old
  pub own : R (mark_in old n) (mark_in new n)
  pub others : (k : ℕ) → k ≢ n → mark_in new k ≡ mark_in old k

-- it waits at that row no longer
abbrev pub IsWokenAt : ℕ → (old new : Mark) → Type 0
IsWokenAt n old new = (new.decided ≡ old.decided) × ((new.waits.birth ≡ 0) ⊎ ((new.waits ≡ old.waits) × (old.waits.at ≢ n)))

-- it waits no longer
abbrev pub IsAwake : (old new : Mark) → Type 0
IsAwake old new = (new.decided ≡ old.decided) × (new.waits.birth ≡ 0)

-- those that waited at a row, or may have waited over it, wait no longer
pub record WakesFor (rows : List Row) (n : ℕ) (old new : List Mark) : Type 0 where
  pub each : length new ≡ length old
  pub same : AreSameDecided old new
  pub woken : (k : ℕ) → ((mark_in new k).waits.birth ≡ 0) ⊎ (((mark_in new k).waits ≡ (mark_in old k).waits) × ((mark_in old k).waits.at ≢ n) × (is_told (row_in rows n) ≡ false))

-- its mark falls away, and those that waited at it wait no longer
pub record Drops (n : ℕ) (old new : List Mark) : Type 0 where
  pub each : length new ≡ length old
  pub own : (mark_in new n).decided ≡ false
  pub decided : (k : ℕ) → k ≢ n → (mark_in new k).decided ≡ (mark_in old k).decided
  pub woken : (k : ℕ) → ((mark_in new k).waits.birth ≡ 0) ⊎ (((mark_in new k).waits ≡ (mark_in old k).waits) × ((mark_in old k).waits.at ≢ n) × (k ≢ n))
