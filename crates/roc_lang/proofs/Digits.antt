-- What a digit is written as
use Rattle.std.proofs.Common.{◌≡◌, ℕ, ◌+◌, ◌<◌, true, arith}
use Rattle.std.proofs.lemmas.Bool.Decides.{nat_tests}
use Rattle.std.specs.Char.{is_ascii_digit}

pub digit : (k : ℕ) → k < 10 → is_ascii_digit (48 + k) ≡ true
digit k h = grind (arith, nat_tests)
