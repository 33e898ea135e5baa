-- The calls of an object in memory: how many were made, which are to fail, and how many failures were counted.
use Rattle.std.specs.Prelude.{ℕ, Bool, ◌||◌, List, if◌then◌else◌, nat_eq}
use Rattle.std.specs.List.{list_any}
use Rattle.roc_io.specs.Cause.{one_more}

pub record Calls : Type 0 where
  pub made : ℕ
  pub failing : List ℕ
  pub faults : ℕ

-- no call was made, and those with these numbers are to fail; the first call is number 1
abbrev pub calls_failing : List ℕ → Calls
calls_failing failing = record { made = 0; failing = failing; faults = 0 }

-- the next call fails: it was refused for its argument, or its number is on the list
abbrev pub next_fails : Bool → Calls → Bool
next_fails refused calls = refused || list_any (λ number. nat_eq number (one_more calls.made)) calls.failing

-- after the next call
abbrev pub called : Bool → Calls → Calls
called refused calls = record {
  made = one_more calls.made;
  failing = calls.failing;
  faults = if next_fails refused calls then one_more calls.faults else calls.faults;
}
