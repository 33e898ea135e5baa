-- Why a call may answer that it failed: a count of failures, which only the object itself raises.
use Rattle.std.specs.Prelude.{◌≡◌, ℕ, ◌+◌, ◌<◌, ◌≤◌, min, Bool, true, false}

-- the last value of a count
abbrev pub last_count : ℕ
last_count = 18446744073709551615

-- a count after one more; it stays at its last value
abbrev pub one_more : ℕ → ℕ
one_more n = min (n + 1) last_count

-- the count rose, unless it stands at its last value
abbrev pub Rose : ℕ → ℕ → Type 0
Rose old new = new < last_count → old < new

-- a failure was counted; the count never falls, and never passes its last value
pub record Counted (old new : ℕ) : Type 0 where
  pub never_falls : old ≤ new
  pub within : new ≤ last_count
  pub rose : Rose old new

-- a call that failed was counted, and any other left the count as it was
abbrev pub HasCause : Bool → ℕ → ℕ → Type 0
HasCause true old new = Counted old new
HasCause false old new = new ≡ old
