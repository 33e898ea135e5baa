-- What a sink in memory keeps.
use Rattle.std.specs.Prelude.{ℕ, List, Option}
use Rattle.roc_io_memory.specs.Calls.{Calls}

-- what a sink in memory took, where it tells that: the bytes, and what each write took
pub record SinkTaken : Type 0 where
  pub bytes : Option (List ℕ)
  pub pieces : Option (List (List ℕ))

-- one that can fail: what it took, and its calls
pub record SinkState : Type 0 where
  pub taken : SinkTaken
  pub calls : Calls
