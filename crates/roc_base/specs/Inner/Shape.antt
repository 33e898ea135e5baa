-- How an id of a row is kept
use Rattle.std.specs.Prelude.{◌≡◌, ℕ, ℤ, pos, ◌-◌, ◌<◌, ◌≤◌, List, length, drop, replicate}

-- how many integers there are, and four, of which those behind the first so many are 0
pub record IsKeyShape (len : ℕ) (numbers : List ℤ) : Type 0 where
  pub some : 0 < len
  pub few : len ≤ 4
  pub four : length numbers ≡ 4
  pub rest : drop len numbers ≡ replicate (4 - len) (pos 0)
