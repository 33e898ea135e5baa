-- Numbers that are drawn one after the other from a state of 64 bits: docs/FORMATS.md, "Generated load"
use Rattle.std.specs.Prelude.{ℕ, zero, suc, ◌+◌, ◌*◌, ◌/◌, ◌%◌, ◌^◌}

-- the state behind a draw
unfoldable pub next_state : (state : ℕ) → ℕ
next_state x = (x * 6364136223846793005 + 1442695040888963407) % 2 ^ 64

-- what the draw from a state gives: a number below this one, by the high bits of the state behind it
unfoldable pub draw : (state below : ℕ) → ℕ
draw x below = (next_state x / 2 ^ 33) % below

-- the state behind so many draws
abbrev pub state_after : (draws state : ℕ) → ℕ
state_after zero x = x
state_after (suc draws) x = state_after draws (next_state x)
