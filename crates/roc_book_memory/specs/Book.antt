-- What books in memory keep.
use Rattle.std.specs.Prelude.{ℕ, List, Option}
use Rattle.roc_io_memory.specs.Calls.{Calls}

-- a book in memory: the names opened and the bytes taken, where it tells them, and its calls
pub record BookState : Type 0 where
  pub opened : Option (List (List ℕ))
  pub taken : Option (List ℕ)
  pub calls : Calls

-- one that never fails
pub record CalmBookState : Type 0 where
  pub opened : Option (List (List ℕ))
  pub taken : Option (List ℕ)
