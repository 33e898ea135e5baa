-- What a spawner in memory keeps.
use Rattle.std.specs.Prelude.{◌≡◌, ℕ, List, [], Option, Some, option_and_then, slice_get}
use Rattle.roc_io.specs.declared.spawner.Started.{Started}
use Rattle.roc_io.specs.declared.spawner.Started.TheVariants.{Running, NoMemory, Failed}
use Rattle.roc_io.specs.declared.spawner.ChildWait.{ChildWait}
use Rattle.roc_io.specs.Cause.{one_more}
use Rattle.roc_io.specs.Start.{Start}
use Rattle.roc_io_memory.specs.Calls.{Calls}

-- what a spawner in memory keeps: how many children it started, the starts and the waits
pub record Children : Type 0 where
  pub running : ℕ
  pub started : Option (List Start)
  pub awaited : Option (List ChildWait)

abbrev pub no_children : Children
no_children = record { running = 0; started = Some []; awaited = Some [] }

-- a child's number is the number of children that were started before it
abbrev pub Numbers : Started → ℕ → ℕ → Type 0
Numbers (Running child) old new = (child ≡ old) × (new ≡ one_more old)
Numbers NoMemory old new = new ≡ old
Numbers Failed old new = new ≡ old

-- a spawner in memory that can fail: what it keeps, the status of each child, and its calls
pub record SpawnerState : Type 0 where
  pub children : Children
  pub statuses : List (Option ℕ)
  pub calls : Calls

-- one that never fails
pub record CalmSpawnerState : Type 0 where
  pub children : Children
  pub statuses : List ℕ

-- the status with which a child ends, if it ends with one
abbrev pub status_of : List (Option ℕ) → ℕ → Option ℕ
status_of statuses child = option_and_then (λ status. status) (slice_get statuses child)
