-- Environments that give the same values
use Rattle.std.specs.Prelude.{◌≡◌, ◌<◌, ℕ, ℤ, List, length}
use Rattle.std.specs.List.{AllByRecursion}
use Rattle.roc_program.specs.Program.{Expression}
use Rattle.roc_program.specs.Values.{Environment, value_of_name, value}
use Rattle.roc_plan.specs.Groups.{with_values}

-- two environments give each name the same value
abbrev pub AgreeEverywhere : (xs ys : Environment) → Type 0
AgreeEverywhere xs ys = (n : ℕ) → value_of_name xs n ≡ value_of_name ys n

-- v is what an expression has where the arguments are known and these names have these values, however many zeros stand behind the arguments
abbrev pub IsValueWith : Expression → (arguments : Environment) → (names : List ℕ) → (values : List ℤ) → ℤ → Type 0
IsValueWith expression arguments names values v =
    (known : Environment) → AgreeEverywhere known arguments → AllByRecursion (λ name. name < length known) names → v ≡ value expression (with_values names values known)
