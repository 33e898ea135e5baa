-- A group as the partition of a procedure's pieces has it
use Rattle.std.specs.Prelude.{ℕ, ◌<◌, List, length}
use Rattle.std.specs.Bool.{nat_lt}
use Rattle.std.specs.List.{AllByRecursion}
use Rattle.roc_sequence.specs.Rising.{IsRising}

-- some of the first `count` pieces, in program order
pub record IsPart (count : ℕ) (group : List ℕ) : Type 0 where
  pub some : 0 < length group
  pub rising : IsRising nat_lt group
  pub below : AllByRecursion (λ x. x < count) group
