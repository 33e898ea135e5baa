-- A write and a cut that are on the disk once they are answered Ok.
use Rattle.std.specs.Prelude.{◌≤◌, ℕ, List, length, take}
use Rattle.roc_disk.specs.declared.disk.Disk.{Ghosts as DiskOf}
use Rattle.roc_disk.specs.declared.disk.DiskDone.{DiskDone}
use Rattle.roc_disk.specs.Answers.{OnDone, put}
use Rattle.roc_disk.specs.Stops.{Torn, Cut}
use Rattle.roc_disk.specs.Over.{LeavesOnly}
use Rattle.roc_journal.specs.Settled.{IsDurable}

-- a stop at any moment leaves the file after this step, and once it was done the file is durable
pub record IsThrough {D : Type 0} (disk : DiskOf D) (old new : D) (name : List ℕ) (step : List ℕ → Type 0) (result : DiskDone) (after : List ℕ) : Type 0 where
  pub leaves : LeavesOnly disk old new name step
  pub done : OnDone result (IsDurable disk new name after)

-- what a write of a durable file is
abbrev pub Writes : {D : Type 0} → DiskOf D → (old new : D) → ℕ → List ℕ → DiskDone → Type 0
Writes disk old new at written result =
    (name bytes : List ℕ) → IsDurable disk old name bytes → at ≤ length bytes → IsThrough disk old new name (Torn at (length written) bytes) result (put bytes at written)

-- what a cut of a durable file is
abbrev pub Cuts : {D : Type 0} → DiskOf D → (old new : D) → ℕ → DiskDone → Type 0
Cuts disk old new len result =
    (name bytes : List ℕ) → IsDurable disk old name bytes → len ≤ length bytes → IsThrough disk old new name (Cut len bytes) result (take len bytes)
