-- Where what a test passes of a list stands among what passes
use Rattle.std.specs.Prelude.{ℕ, Bool, List, length, take}
use Rattle.std.specs.List.{filter}

-- how many of the first k pass
abbrev pub rank : {A : Type 0} → (A → Bool) → List A → (k : ℕ) → ℕ
rank p xs k = length (filter p (take k xs))
