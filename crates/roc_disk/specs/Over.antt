-- What callers say of a disk over several calls.
use Rattle.std.specs.Prelude.{◌≡◌, ◌⊎◌, ℕ, ◌≤◌, true, List}
use Rattle.roc_disk.specs.declared.disk.Disk.{Ghosts as DiskOf}
use Rattle.roc_disk.specs.Stops.{NoMore}

-- A stop at any moment since old, between two calls or inside one, leaves an image of the name that has P, as far as it is told.
pub record LeavesOnly {D : Type 0} (disk : DiskOf D) (old new : D) (name : List ℕ) (P : List ℕ → Type 0) : Type 0 where
  pub later : disk.moment old ≤ disk.moment new
  pub each : (image : List ℕ) → disk.left_since new name (disk.moment old) image → P image
  -- for a run that began earlier
  pub before : (t : ℕ) (image : List ℕ) → t ≤ disk.moment old → disk.left_since new name t image → disk.left_since old name t image ⊎ P image

-- Nothing was written: the same file is open, each name holds the same, and a stop leaves no image more.
pub record Stays {D : Type 0} (disk : DiskOf D) (old new : D) : Type 0 where
  pub told : disk.tells old ≡ true
  pub file : disk.file new ≡ disk.file old
  pub content : (name : List ℕ) → disk.content new name ≡ disk.content old name
  pub no_more : (name : List ℕ) → NoMore (disk.may_leave old name) (disk.may_leave new name)
  pub leaves : (name : List ℕ) → LeavesOnly disk old new name (disk.may_leave old name)
