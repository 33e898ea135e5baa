-- What stands in another place of an order
use Rattle.std.specs.Prelude.{Bool, ◌||◌}

abbrev pub is_apart : {A : Type 0} → (before : A → A → Bool) → A → A → Bool
is_apart before a x = before x a || before a x
