-- Groups that have started, and how many more find room
use Rattle.std.specs.Prelude.{ℕ, List}
use Rattle.roc_step.specs.declared.started.StartedGroup.{StartedGroup}

-- groups in the order of their arrival, and how many more find room
pub record Entered : Type 0 where
  pub groups : List StartedGroup
  pub spare : ℕ
