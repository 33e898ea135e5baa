-- What groups that ran gave, and the room for more
use Rattle.std.specs.Prelude.{◌≡◌, ℕ, ℤ, List}
use Rattle.roc_group.specs.declared.access.Access.{Access}

pub record GroupOutputs : Type 0 where
  -- the values of the names that they bind, in the order in which they are bound
  pub bound : List ℤ
  -- what they add to the reply
  pub outs : List ℤ
  -- the cells that they touched, in the order in which they did
  pub cells : List Access
  -- for so many more statements there is room
  pub spare : ℕ
  -- for so many names of a procedure there is room while it runs
  pub names : ℕ

-- the same is held; there may be other room
pub record AreSameOutputs (old new : GroupOutputs) : Type 0 where
  pub bound : new.bound ≡ old.bound
  pub outs : new.outs ≡ old.outs
  pub cells : new.cells ≡ old.cells
