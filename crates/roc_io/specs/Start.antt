-- A start as contracts see it: the child, and the words that it was started with.
use Rattle.std.specs.Prelude.{ℕ, List}

pub record Start : Type 0 where
  pub child : ℕ
  pub words : List (List ℕ)
