-- What a shard keeps of its cells
use Rattle.std.specs.Prelude.{ℕ, Option}
use Rattle.roc_rows.specs.Store.{Store}

-- the cells with their numbers, how many more sets cannot fail, and what the cells held at the savepoint, where there is one
pub record Held : Type 0 where
  pub store : Store
  pub spare : ℕ
  pub saved : Option Store
