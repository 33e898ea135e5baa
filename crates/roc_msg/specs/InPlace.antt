-- Lists that rise, with one more put into its place. `before` is a test that tells whether one comes before another
use Rattle.std.specs.Prelude.{Bool, List, ◌∷◌, ◌++◌, filter}

-- a among those of xs that come before it and behind it; what stood in its place goes
abbrev pub in_place : {A : Type 0} → (A → A → Bool) → A → List A → List A
in_place before a xs = filter (λ x. before x a) xs ++ a ∷ filter (λ x. before a x) xs
