-- Lists that rise. `before` is a test that tells whether one comes before another.
use Rattle.std.specs.Prelude.{Bool, List, [], ◌∷◌, IsTrue}
use Rattle.std.specs.List.{AllByRecursion}

-- each comes before all behind it
abbrev pub IsRising : {A : Type 0} → (A → A → Bool) → List A → Type 0
IsRising before [] = Unit {0}
IsRising before (x ∷ xs) = AllByRecursion (λ y. IsTrue (before x y)) xs × IsRising before xs
