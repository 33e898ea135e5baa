-- A count over a call.
use Rattle.std.proofs.Common.{ℕ, ◌≤◌, Bool, true, false, arith}
use Rattle.roc_io.specs.Cause.{HasCause}

pub never_falls : (failed : Bool) (old new : ℕ) → HasCause failed old new → old ≤ new
never_falls true old new counted = counted.never_falls
never_falls false old new same = omega arith
